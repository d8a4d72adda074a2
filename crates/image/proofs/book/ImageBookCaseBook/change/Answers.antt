use Rattle.std.proofs.Common.{◌≡◌, ◌/◌, length, Some, sym, ap, ◌∙◌, subst, arith, rules}
use Rattle.std.specs.List.{slice_get}
use Rattle.std.specs.Option.{option_map}
use Rattle.std.proofs.lemmas.Option.{slice_get_within}
use Rattle.table.proofs.Bridges.{length-alter}
use Rattle.cases.specs.Cases.{with_state}
use Rattle.cases.specs.Views.{view, state_view}
use Rattle.cases.proofs.Fits.{fit_case}
use Rattle.books.specs.Books.{changed}
use Rattle.image.specs.Image.{ImageOf, cases_in}
use Rattle.image.specs.Books.{cases_of}
use Rattle.image.proofs.Images.{length_cases_in, cases_again}
use Rattle.image.proofs.Keeping.{changed_image}
use Rattle.image.proofs.book.ImageBookCaseBook.change.Goals as goal

pub returns : goal.returns
returns c =
    let b = c.args.self.now in
    let at = c.args.at in
    let cs = cases_of b in
    let s = state_view c.args.state in
    let old = view c.in_ok-case.case in
    let some : slice_get cs at ≡ Some old = sym c.case_at.ensures ∙ ap (option_map view) c.in_ok-case.ensures.ok_part in
    let within = slice_get_within cs at old some in
    let more = c.write_at.new.bytes in
    let long : length more ≡ length b.bytes.now = search rules in
    let i = changed_image b.bytes.now cs c.requires more long s at old (fit_case (record c.in_ok-case.case { state = c.args.state })) some c.write_at.ensures in
    let again : cases_in b.count more ≡ changed at s cs = cases_again more (changed at s cs) i b.count (sym (length-alter (with_state s) cs at ∙ length_cases_in b.count b.bytes.now)) in
    record {
      sound = subst (ImageOf more) (sym again) i;
      room = ap (λ k. k / 512) long;
      answer = grind (arith, within);
      cases = again;
    }
