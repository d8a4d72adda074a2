-- Two ways to speak of what stands in a list: by a test, which the first element that passes it answers to, and by a place.
use Rattle.std.specs.Prelude.{ℕ, zero, suc, Bool, cond, List, [], ◌∷◌, Some, None, Option}
use Rattle.std.specs.List.{slice_get, find, list_any}
use Rattle.std.specs.Option.{option_map}

-- By a test.

-- the first element that passes
abbrev pub first : {X : Type 0} → (X → Bool) → List X → Option X
first test xs = find test xs

-- some element passes
abbrev pub any : {X : Type 0} → (X → Bool) → List X → Bool
any test xs = list_any test xs

-- the list with the first element that passes altered by f
abbrev pub alter : {X : Type 0} → (X → Bool) → (X → X) → List X → List X
alter test f [] = []
alter test f (x ∷ xs) = cond (test x) (f x ∷ xs) (x ∷ alter test f xs)

-- By a place.

-- the place of the first element that passes, counted from 0
abbrev pub place : {X : Type 0} → (X → Bool) → List X → Option ℕ
place test [] = None
place test (x ∷ xs) = cond (test x) (Some 0) (option_map suc (place test xs))

-- what stands at a place, if there is one
abbrev pub at_place : {X : Type 0} → List X → Option ℕ → Option X
at_place xs None = None
at_place xs (Some i) = slice_get xs i

-- the list with the element at the place i altered by f; the list as it is, where the place is past the end
abbrev pub alter_at : {X : Type 0} → ℕ → (X → X) → List X → List X
alter_at i f [] = []
alter_at zero f (x ∷ xs) = f x ∷ xs
alter_at (suc i) f (x ∷ xs) = x ∷ alter_at i f xs

-- the same at a place, if there is one
abbrev pub alter_if : {X : Type 0} → Option ℕ → (X → X) → List X → List X
alter_if None f xs = xs
alter_if (Some i) f xs = alter_at i f xs
