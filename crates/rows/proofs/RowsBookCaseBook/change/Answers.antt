use Rattle.std.proofs.Common.{◌≡◌, arith}
use Rattle.cases.specs.Views.{state_view}
use Rattle.books.specs.Books.{changed}
use Rattle.rows.specs.declared.RowsBook.{RowsBook}
use Rattle.rows.specs.Rows.{cases_of}
use Rattle.rows.proofs.Seen.{at_a_place, sound_changed}
use Rattle.rows.proofs.RowsBookCaseBook.change.Goals as goal

pub returns-clause-sound : goal.returns-clause-sound
returns-clause-sound c =
    let after : RowsBook = record { table = c.replace.new.self } in
    let done : cases_of after ≡ changed c.args.at (state_view c.args.state) (cases_of c.args.self.now) = grind (arith, at_a_place) in
    sound_changed c.args.self.now after c.requires c.replace.ensures.limit c.args.at (state_view c.args.state) done
