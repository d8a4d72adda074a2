-- The rows of a table, seen as cases.
use Rattle.std.proofs.Common.{◌≡◌, ℕ, false, List, [], ◌∷◌, ◌++◌, length, is_some, Ok, Err, arith}
use Rattle.std.proofs.lemmas.Option.{slice_get-map, slice_get_within}
use Rattle.table.specs.declared.TableRefusal.{TableRefusal}
use Rattle.table.specs.Meaning.{add_answer}
use Rattle.table.proofs.Bridges.{any_place, nth_beyond, place_map, any-map, alter-map, map-alter, alter_past}
use Rattle.cases.specs.Cases.{StateValue, CaseValue}
use Rattle.books.specs.Books.{stands, place_of, changed}
use Rattle.books.specs.Refusals.{of_table, open_answer}
use Rattle.books.proofs.Naming.{apart_more, apart_changed}
use Rattle.rows.specs.declared.RowsBook.{RowsBook}
use Rattle.rows.specs.Rows.{cases_of, room_of, Sound}

-- what is asked by name
pub ruleset by_name = (place_map, any-map, any_place)

-- what is done at a place
pub ruleset at_a_place = (alter-map, map-alter, alter_past, nth_beyond, slice_get-map, slice_get_within)

-- A case whose name is not found: the book answers what its table does.

module _ (room : ℕ) (cs : List CaseValue) (c : CaseValue) (missed : stands c.name cs ≡ false) (n : ℕ) (as_many : length cs ≡ n) where
  pub answers_ok : add_answer n room ≡ Ok tt → open_answer room cs c ≡ Ok tt
  answers_ok e = grind arith

  pub answers_err : (r : TableRefusal) → add_answer n room ≡ Err r → open_answer room cs c ≡ Err (of_table r)
  answers_err r e = grind arith

-- A sound book stays sound.

module _ (a b : RowsBook) (s : Sound a) (room : room_of b ≡ room_of a) where
  -- with one case more, whose name is not found
  pub sound_more : (c : CaseValue) → cases_of b ≡ cases_of a ++ c ∷ [] → is_some (place_of c.name (cases_of a)) ≡ false → Sound b
  sound_more c e n = record { apart = rw e (apart_more (cases_of a) c s.apart n); fit = rw room s.fit }

  -- with a case in another state
  pub sound_changed : (i : ℕ) (t : StateValue) → cases_of b ≡ changed i t (cases_of a) → Sound b
  sound_changed i t e = record { apart = rw e (apart_changed i t (cases_of a) s.apart); fit = rw room s.fit }
