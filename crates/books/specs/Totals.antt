-- How many cases are in each state.
use Rattle.std.specs.Prelude.{ℕ, ◌+◌, ◌<◌, cond, List, count_by, ◌==◌}
use Rattle.cases.specs.Cases.{StateValue, CaseValue}
use Rattle.cases.specs.Numbers.{state_number}
use Rattle.books.specs.declared.totals.Totals.{Totals}

-- 1 where the state has the number n, else 0
abbrev pub one_in : ℕ → StateValue → ℕ
one_in n s = cond (state_number s == n) 1 0

-- how many of the cases are in the state with the number n
abbrev pub count_in : ℕ → List CaseValue → ℕ
count_in n cs = count_by (λ c. state_number c.state == n) cs

-- the number of cases in each state
abbrev pub totals_of : List CaseValue → Totals
totals_of cs =
    record {
      «open» = count_in 1 cs;
      pending = count_in 2 cs;
      agreed = count_in 3 cs;
      declined = count_in 4 cs;
      withdrawn = count_in 5 cs;
    }

-- the totals with one case more, in the state s
abbrev pub counted : StateValue → Totals → Totals
counted s t =
    record {
      «open» = t.«open» + one_in 1 s;
      pending = t.pending + one_in 2 s;
      agreed = t.agreed + one_in 3 s;
      declined = t.declined + one_in 4 s;
      withdrawn = t.withdrawn + one_in 5 s;
    }

-- each of the totals is below n
abbrev pub Below : ℕ → Totals → Type 0
Below n t = (t.«open» < n) × (t.pending < n) × (t.agreed < n) × (t.declined < n) × (t.withdrawn < n)
