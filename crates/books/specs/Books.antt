-- What a book of cases is: a list of cases and a capacity; and what is asked of it and done to it.
use Rattle.std.specs.Prelude.{◌≡◌, ℕ, ◌≤◌, Bool, true, false, ◌&&◌, List, [], ◌∷◌, map, length, Option, nat_le}
use Rattle.std.specs.List.{AllByRecursion}
use Rattle.table.specs.Lists.{place, first, any, alter, alter_at}
use Rattle.cases.specs.Cases.{NameValue, StateValue, opened, CaseValue, same_name, with_state}

-- the case has this name
abbrev pub has_name : NameValue → CaseValue → Bool
has_name n c = same_name c.name n

-- a case as it is opened: in the state open
abbrev pub as_opened : CaseValue → CaseValue
as_opened c = with_state opened c

-- By name.

-- the case of this name
abbrev pub case_named : NameValue → List CaseValue → Option CaseValue
case_named n cs = first (has_name n) cs

-- a case of this name stands
abbrev pub stands : NameValue → List CaseValue → Bool
stands n cs = any (has_name n) cs

-- the cases, that of this name in the state s
abbrev pub with_case_named : NameValue → StateValue → List CaseValue → List CaseValue
with_case_named n s cs = alter (has_name n) (with_state s) cs

-- By place.

-- the place of the case of this name
abbrev pub place_of : NameValue → List CaseValue → Option ℕ
place_of n cs = place (has_name n) cs

-- the cases, that at the place i in the state s
abbrev pub changed : ℕ → StateValue → List CaseValue → List CaseValue
changed i s cs = alter_at i (with_state s) cs

-- What holds of every book.

-- the names of cases, in their order
abbrev pub names : List CaseValue → List NameValue
names cs = map (λ c. c.name) cs

-- no two of the names are one
abbrev pub Apart : List NameValue → Type 0
Apart [] = Unit {0}
Apart (n ∷ ns) = AllByRecursion (λ m. same_name n m ≡ false) ns × Apart ns

-- a book has room for 1 to 4,096 cases
abbrev pub fit_capacity : ℕ → Bool
fit_capacity n = nat_le 1 n && nat_le n 4096

-- what every form of a book owes, where it is sound: no two cases share a name, there are no more cases than there is room
-- for, and the capacity is 1 to 4,096
pub record Keeps {B : Type 0} (cases : B → List CaseValue) (room : B → ℕ) (sound : B → Type 0) : Type 0 where
  pub apart : (b : B) → sound b → Apart (names (cases b))
  pub within : (b : B) → sound b → length (cases b) ≤ room b
  pub fit : (b : B) → sound b → fit_capacity (room b) ≡ true
