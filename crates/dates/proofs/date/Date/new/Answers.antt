use Rattle.std.proofs.Common.{◌≡◌, false, None, sym, arith}
use Rattle.std.proofs.lemmas.Bool.{cond-false}
use Rattle.std.proofs.lemmas.Bool.Decides.{nat_tests}
use Rattle.dates.specs.Dates.{DateValue, date, real_date, real_only}
use Rattle.dates.proofs.date.Date.new.Goals as goal
use Rattle.dates.proofs.date.Date.new.Goals.{else-contains-via-then-contains+then-contains-2+else-contains-3, else-contains-via-then-contains+else-contains-2, else-contains-via-else-contains}

none : (d : DateValue) → real_date d ≡ false → None ≡ real_only d
none d e = sym (cond-false (real_date d) _ _ e)

pub invariant_of-result : goal.invariant_of-result
unfolding real_date
invariant_of-result c = record { real = grind (arith, nat_tests) }

pub returns-else-contains : goal.returns-else-contains
unfolding real_date
returns-else-contains c =
    none (date c.args.year c.args.month c.args.day) (elim c.else-contains.branch [
      | else-contains-via-then-contains+then-contains-2+else-contains-3 w ↦ grind (arith, nat_tests)
      | else-contains-via-then-contains+else-contains-2 w ↦ grind (arith, nat_tests)
      | else-contains-via-else-contains w ↦ grind (arith, nat_tests)
    ])
