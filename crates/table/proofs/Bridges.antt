-- Lists by test and by place: how the one way of speaking goes over into the other, over any list.
use Rattle.std.proofs.Common.{◌≡◌, ℕ, zero, suc, ◌+◌, ◌<◌, ◌≤◌, Bool, true, false, cond, ltb, not, ◌||◌, List, [], ◌∷◌, ◌++◌, map, length, get_or, take, drop, set, is_some, Some, None, Option, sym, refl, ap, ◌∙◌, ⊎_elim, add-one, arith}
use Rattle.std.specs.List.{slice_get, position, position_or_len, AllByRecursion}
use Rattle.std.specs.Option.{option_map}
use Rattle.std.proofs.lemmas.List.{drop_more, length-map}
use Rattle.std.proofs.lemmas.Option.{slice_get-get_or, slice_get_within, slice_get_cases}
use Rattle.std.proofs.lemmas.Bool.{cond-true, cond-false, lt-ltb, cases_Bool, true≢false}
use Rattle.std.proofs.lemmas.Grind.{common_steps}
use Rattle.table.specs.Lists.{place, first, any, alter, at_place, alter_at, alter_if}
use Rattle.table.specs.Value.{TableValue}
use Rattle.table.specs.Meaning.{limit_of}

-- Where a test first passes.

module _ {X : Type 0} (test : X → Bool) where
  pub place_none : (xs : List X) → AllByRecursion (λ x. test x ≡ false) xs → place test xs ≡ None
  place_none [] a = refl
  place_none (x ∷ xs) a = cond-false (test x) _ _ a.0 ∙ ap (option_map suc) (place_none xs a.1)

suc_position : (n i : ℕ) → option_map suc (cond (ltb i n) (Some i) None) ≡ cond (ltb (1 + i) (suc n)) (Some (1 + i)) None
suc_position n i = grind (arith, common_steps)

-- the place is what std calls the position
pub place_position : {X : Type 0} (test : X → Bool) (xs : List X) → place test xs ≡ position test xs
place_position test [] = refl
place_position test (x ∷ xs) = go (test x) (place_position test xs)
  where
    go : (b : Bool) → place test xs ≡ position test xs → cond b (Some 0) (option_map suc (place test xs)) ≡ cond (ltb (cond (not b) (1 + position_or_len test xs) 0) (suc (length xs))) (Some (cond (not b) (1 + position_or_len test xs) 0)) None
    go true e = sym (cond-true _ _ _ (lt-ltb 0 (suc (length xs)) (omega arith)))
    go false e = ap (option_map suc) e ∙ suc_position (length xs) (position_or_len test xs)

is_some_suc : (o : Option ℕ) → is_some (option_map suc o) ≡ is_some o
is_some_suc None = refl
is_some_suc (Some i) = refl

-- where no place is found, no element passes
pub place_missed : {X : Type 0} (test : X → Bool) (xs : List X) → is_some (place test xs) ≡ false → AllByRecursion (λ x. test x ≡ false) xs
place_missed test [] h = tt
place_missed test (x ∷ xs) h =
    ⊎_elim
    (λ (t : test x ≡ true). absurd (true≢false (sym (ap is_some (cond-true (test x) (Some 0) (option_map suc (place test xs)) t)) ∙ h)))
    (λ (f : test x ≡ false). (f, place_missed test xs (sym (is_some_suc (place test xs)) ∙ sym (ap is_some (cond-false (test x) (Some 0) (option_map suc (place test xs)) f)) ∙ h)))
    (cases_Bool (test x))

-- What stands at a place.

module _ {X : Type 0} where
  pub nth_beyond : (xs : List X) (i : ℕ) → slice_get xs i ≡ None → length xs ≤ i
  nth_beyond xs i e = grind (arith, slice_get_cases)

  -- what is left from a place on begins with what stands there
  pub drop_nth : (xs : List X) (i : ℕ) (x : X) → slice_get xs i ≡ Some x → drop i xs ≡ x ∷ drop (i + 1) xs
  drop_nth xs i x e =
      let h : i < length xs = slice_get_within xs i x e in
      let same : get_or xs i x ≡ x = let s = slice_get-get_or xs i x h in cc in
      drop_more xs i x h ∙ ap (λ y. y ∷ drop (i + 1) xs) same

-- From the test to the place: what stands at the place found is the first that passes, and altering there alters it.

at_suc : {X : Type 0} (x : X) (xs : List X) (o : Option ℕ) → at_place (x ∷ xs) (option_map suc o) ≡ at_place xs o
at_suc x xs None = refl
at_suc x xs (Some i) = refl

alter-suc : {X : Type 0} (f : X → X) (x : X) (xs : List X) (o : Option ℕ) → alter_if (option_map suc o) f (x ∷ xs) ≡ x ∷ alter_if o f xs
alter-suc f x xs None = refl
alter-suc f x xs (Some i) = refl

pub first-place : {X : Type 0} (test : X → Bool) (xs : List X) → first test xs ≡ at_place xs (place test xs)
first-place test [] = refl
first-place test (x ∷ xs) = go (test x) (first-place test xs)
  where
    go : (b : Bool) → first test xs ≡ at_place xs (place test xs) → cond b (Some x) (first test xs) ≡ at_place (x ∷ xs) (cond b (Some 0) (option_map suc (place test xs)))
    go true e = refl
    go false e = e ∙ sym (at_suc x xs (place test xs))

pub alter-place : {X : Type 0} (test : X → Bool) (f : X → X) (xs : List X) → alter test f xs ≡ alter_if (place test xs) f xs
alter-place test f [] = refl
alter-place test f (x ∷ xs) = go (test x) (alter-place test f xs)
  where
    go : (b : Bool) → alter test f xs ≡ alter_if (place test xs) f xs → cond b (f x ∷ xs) (x ∷ alter test f xs) ≡ alter_if (cond b (Some 0) (option_map suc (place test xs))) f (x ∷ xs)
    go true e = refl
    go false e = ap (λ r. x ∷ r) e ∙ sym (alter-suc f x xs (place test xs))

pub any_place : {X : Type 0} (test : X → Bool) (xs : List X) → any test xs ≡ is_some (place test xs)
any_place test [] = refl
any_place test (x ∷ xs) = go (test x) (any_place test xs)
  where
    go : (b : Bool) → any test xs ≡ is_some (place test xs) → (b || any test xs) ≡ is_some (cond b (Some 0) (option_map suc (place test xs)))
    go true e = refl
    go false e = e ∙ sym (is_some_suc (place test xs))

-- what is asked or done by a test, in terms of the place
pub ruleset by_place = (first-place, any_place, alter-place)

-- A list under two tests that agree, or a list seen through a view.

pub place_same : {X : Type 0} (f g : X → Bool) (xs : List X) → AllByRecursion (λ x. f x ≡ g x) xs → place f xs ≡ place g xs
place_same f g [] a = refl
place_same f g (x ∷ xs) a = ap (λ b. cond b (Some 0) (option_map suc (place f xs))) a.0 ∙ ap (λ p. cond (g x) (Some 0) (option_map suc p)) (place_same f g xs a.1)

module _ {X Y : Type 0} (view : X → Y) where
  pub place_map : (test : Y → Bool) (xs : List X) → place test (map view xs) ≡ place (λ x. test (view x)) xs
  place_map test [] = refl
  place_map test (x ∷ xs) = ap (λ p. cond (test (view x)) (Some 0) (option_map suc p)) (place_map test xs)

  pub any-map : (test : Y → Bool) (xs : List X) → any test (map view xs) ≡ any (λ x. test (view x)) xs
  any-map test [] = refl
  any-map test (x ∷ xs) = ap (λ b. test (view x) || b) (any-map test xs)

  -- an element that is replaced, seen through the view
  pub alter-map : (f : Y → Y) (xs : List X) (i : ℕ) (old x : X) → slice_get xs i ≡ Some old → view x ≡ f (view old) → map view (set xs i x) ≡ alter_at i f (map view xs)
  alter-map f [] i old x e h = refl
  alter-map f (y ∷ xs) zero old x e h = let same : y ≡ old = cc in ap (λ r. r ∷ map view xs) (h ∙ ap (λ r. f (view r)) (sym same))
  alter-map f (y ∷ xs) (suc i) old x e h = ap (λ r. view y ∷ r) (alter-map f xs i old x e h)

  -- what altering leaves alone
  pub map-alter : (f : X → X) (xs : List X) (i : ℕ) → ((x : X) → view (f x) ≡ view x) → map view (alter_at i f xs) ≡ map view xs
  map-alter f [] i h = refl
  map-alter f (x ∷ xs) zero h = ap (λ r. r ∷ map view xs) (h x)
  map-alter f (x ∷ xs) (suc i) h = ap (λ r. view x ∷ r) (map-alter f xs i h)

module _ {X : Type 0} (f : X → X) where
  -- what stands before and behind the place is left alone
  pub alter_split : (xs : List X) (i : ℕ) (x : X) → slice_get xs i ≡ Some x → alter_at i f xs ≡ take i xs ++ f x ∷ drop (i + 1) xs
  alter_split [] i x e = let z : ◌≡◌ {A = ℕ} 0 1 = cc in absurd (omega arith)
  alter_split (y ∷ xs) zero x e = let same : y ≡ x = cc in ap (λ r. f r ∷ xs) same
  alter_split (y ∷ xs) (suc i) x e = rw add-one (ap (λ r. y ∷ r) (alter_split xs i x e ∙ rw add-one))

  pub alter_past : (xs : List X) (i : ℕ) → slice_get xs i ≡ None → alter_at i f xs ≡ xs
  alter_past [] i e = refl
  alter_past (x ∷ xs) zero e = let z : ◌≡◌ {A = ℕ} 0 1 = cc in absurd (omega arith)
  alter_past (x ∷ xs) (suc i) e = ap (λ r. x ∷ r) (alter_past xs i e)

  pub length-alter : (xs : List X) (i : ℕ) → length (alter_at i f xs) ≡ length xs
  length-alter [] i = refl
  length-alter (x ∷ xs) zero = refl
  length-alter (x ∷ xs) (suc i) = ap suc (length-alter xs i)

-- a table never has more rows than its limit, seen through any view
pub rows_within : {X Y : Type 0} (view : X → Y) (t : TableValue X) → length (map view t.rows) ≤ limit_of t
rows_within view t = simp length-map (omega arith)
