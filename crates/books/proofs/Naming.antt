-- Names that are apart, and where a name stands.
use Rattle.std.proofs.Common.{◌≡◌, ℕ, false, List, [], ◌∷◌, ◌++◌, map, is_some, sym, refl, subst}
use Rattle.std.specs.List.{AllByRecursion}
use Rattle.std.proofs.lemmas.List.{map_push}
use Rattle.table.proofs.Bridges.{place_missed, map-alter}
use Rattle.cases.specs.Cases.{NameValue, StateValue, CaseValue, same_name, with_state}
use Rattle.books.specs.Books.{has_name, place_of, changed, names, Apart}

-- what holds of each element and of one more holds of all of them
each_more : {X : Type 0} (P : X → Type 0) (xs : List X) (x : X) → AllByRecursion P xs → P x → AllByRecursion P (xs ++ x ∷ [])
each_more P [] x a h = (h, tt)
each_more P (y ∷ xs) x a h = (a.0, each_more P xs x a.1 h)

-- what holds of what f makes of each element holds of each that it makes
each_made : {X Y : Type 0} (P : Y → Type 0) (f : X → Y) (xs : List X) → AllByRecursion (λ x. P (f x)) xs → AllByRecursion P (map f xs)
each_made P f [] a = tt
each_made P f (x ∷ xs) a = (a.0, each_made P f xs a.1)

-- names stay apart when one is added that differs from each
pub apart-push : (ns : List NameValue) (n : NameValue) → Apart ns → AllByRecursion (λ m. same_name m n ≡ false) ns → Apart (ns ++ n ∷ [])
apart-push [] n a h = (tt, tt)
apart-push (m ∷ ns) n a h = (each_more (λ e. same_name m e ≡ false) ns n a.0 h.0, apart-push ns n a.1 h.1)

-- a name that is not found differs from every name
pub names_differ : (n : NameValue) (cs : List CaseValue) → is_some (place_of n cs) ≡ false → AllByRecursion (λ m. same_name m n ≡ false) (names cs)
names_differ n cs h = each_made (λ m. same_name m n ≡ false) (λ (c : CaseValue). c.name) cs (place_missed (has_name n) cs h)

-- names stay apart when a case is added whose name is not found
pub apart_more : (cs : List CaseValue) (c : CaseValue) → Apart (names cs) → is_some (place_of c.name cs) ≡ false → Apart (names (cs ++ c ∷ []))
apart_more cs c a h = subst Apart (sym (map_push (λ (k : CaseValue). k.name) cs c)) (apart-push (names cs) c.name a (names_differ c.name cs h))

-- and when the state of one is changed
pub apart_changed : (i : ℕ) (t : StateValue) (cs : List CaseValue) → Apart (names cs) → Apart (names (changed i t cs))
apart_changed i t cs a = subst Apart (sym (map-alter (λ (k : CaseValue). k.name) (with_state t) cs i (λ k. refl))) a
