-- Cases counted by their states.
use Rattle.std.proofs.Common.{ℕ, ◌<◌, Bool, eqb, List, length, arith}
use Rattle.std.proofs.lemmas.List.Sums.{count_by-le-length}
use Rattle.cases.specs.Cases.{CaseValue}
use Rattle.cases.specs.Numbers.{state_number}
use Rattle.books.specs.Totals.{count_in, totals_of, Below}

-- where there are fewer than n cases, each of the totals is below n
pub totals_below : (cs : List CaseValue) (n : ℕ) → length cs < n → Below n (totals_of cs)
totals_below cs n h =
    let in_state : ℕ → CaseValue → Bool = λ k c. eqb (state_number c.state) k in
    let at : (k : ℕ) → count_in k cs < n = λ k. omega (arith, count_by-le-length (in_state k) cs) in
    (at 1, at 2, at 3, at 4, at 5)
