use Rattle.std.proofs.Common.{◌≡◌, map}
use Rattle.cases.specs.Views.{view}
use Rattle.books.specs.Totals.{totals_of}
use Rattle.books.proofs.totals.totals_of.Given as goal

-- the totals are those of the cases so far
abbrev pub invariant-loop-case : goal.invariant-loop-case
invariant-loop-case g l =
    record {
      can : (goal.iterator-loop-case g).can_next l.case-iterator;
      finite : (goal.iterator-loop-case g).is_finite l.case-iterator;
      counted : l.totals ≡ totals_of (map view l.yielded);
    }
