-- One step through the cases of a book.
use Rattle.std.proofs.Common.{◌≡◌, ℕ, ◌+◌, ◌<◌, ◌≤◌, leb, List, [], ◌∷◌, length, drop, Some, None, Option, sym, ap, ◌∙◌, arith}
use Rattle.std.specs.List.{slice_get}
use Rattle.std.specs.Option.{option_map}
use Rattle.std.proofs.lemmas.List.{drop_all}
use Rattle.std.proofs.lemmas.Option.{slice_get_within}
use Rattle.std.proofs.lemmas.Bool.{and_parts, leb-true}
use Rattle.table.proofs.Bridges.{drop_nth, nth_beyond}
use Rattle.cases.specs.declared.case.Case.{Case}
use Rattle.cases.specs.Cases.{CaseValue}
use Rattle.cases.specs.Views.{view}
use Rattle.books.specs.Books.{Keeps}

-- no book has more than 4,096 cases
pub few : {B : Type 0} (cases : B → List CaseValue) (room : B → ℕ) (sound : B → Type 0) → Keeps cases room sound → (b : B) → sound b → length (cases b) ≤ 4096
few cases room sound k b s =
    let most : room b ≤ 4096 = leb-true (room b) 4096 (and_parts (leb 1 (room b)) (leb (room b) 4096) (k.fit b s)).1 in
    omega (arith, k.within b s)

module _ (cs : List CaseValue) (at : ℕ) (o : Option Case) (h : option_map view o ≡ slice_get cs at) where
  -- where no case stands, none is left
  pub none_left : o ≡ None → drop at cs ≡ []
  none_left e = drop_all at cs (nth_beyond cs at (sym h ∙ ap (option_map view) e))

  -- the case that stands is the first of those that are left
  pub first_left : (c : Case) → o ≡ Some c → drop at cs ≡ view c ∷ drop (at + 1) cs
  first_left c e = drop_nth cs at (view c) (sym h ∙ ap (option_map view) e)

  pub still_within : (c : Case) → o ≡ Some c → at < length cs
  still_within c e = slice_get_within cs at (view c) (sym h ∙ ap (option_map view) e)

-- what a step needs
pub ruleset stepping = (none_left, first_left, still_within)
