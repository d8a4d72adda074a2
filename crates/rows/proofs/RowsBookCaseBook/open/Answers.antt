use Rattle.std.proofs.Common.{◌≡◌, false, [], ◌∷◌, ◌++◌, map, length, is_some, is_ok, sym, ap, arith, ◌∙◌}
use Rattle.std.proofs.lemmas.Bool.{cond-true}
use Rattle.std.proofs.lemmas.List.{map_push, length-map}
use Rattle.std.proofs.lemmas.Result.{err_from_is_err_and}
use Rattle.cases.specs.Views.{view}
use Rattle.books.specs.Books.{stands, place_of, as_opened}
use Rattle.rows.specs.declared.RowsBook.{RowsBook}
use Rattle.rows.specs.Rows.{cases_of, room_of}
use Rattle.rows.proofs.Seen.{by_name, answers_ok, answers_err, sound_more}
use Rattle.rows.proofs.RowsBookCaseBook.open.Goals as goal

pub returns-in_err-add-clause-answer : goal.returns-in_err-add-clause-answer
returns-in_err-add-clause-answer c =
    let book = c.args.self.now in
    let case = view c.args.case in
    let missed : stands case.name (cases_of book) ≡ false = grind (arith, by_name) in
    let p = err_from_is_err_and c.from_residual.result c.from_residual.ensures.1 in
    rw (p.1, p.2) (sym (answers_err (room_of book) (cases_of book) case missed (length book.table.rows) (length-map book.table.rows view) c.in_err-add.field-0.0 (sym c.add.ensures.answer ∙ c.in_err-add.was)))

pub returns-clause-sound : goal.returns-clause-sound
returns-clause-sound c =
    let before = cases_of c.args.self.now in
    let case = as_opened (view c.args.case) in
    let after : RowsBook = record { table = c.add.new.self } in
    let lost : is_some (place_of case.name before) ≡ false = grind (arith, by_name) in
    let done : cases_of after ≡ before ++ case ∷ [] =
    ap (map view) (c.add.ensures.rows ∙ cond-true _ _ _ (ap is_ok c.in_ok-add.was)) ∙ map_push view c.args.self.now.table.rows _ in
    sound_more c.args.self.now after c.requires c.add.ensures.limit case done lost

pub returns-clause-answer : goal.returns-clause-answer
returns-clause-answer c =
    let book = c.args.self.now in
    let case = view c.args.case in
    let missed : stands case.name (cases_of book) ≡ false = grind (arith, by_name) in
    sym (answers_ok (room_of book) (cases_of book) case missed (length book.table.rows) (length-map book.table.rows view) (sym c.add.ensures.answer ∙ c.in_ok-add.was))
