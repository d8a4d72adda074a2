use Rattle.std.proofs.Common.{◌≡◌, ◌+◌, ◌/◌, ◌<◌, false, [], ◌∷◌, ◌++◌, length, is_some, sym, ap, ◌∙◌, subst, arith, rules}
use Rattle.std.proofs.lemmas.List.{length_push}
use Rattle.table.proofs.Bridges.{any_place}
use Rattle.cases.specs.declared.case.State.TheVariants.{Open}
use Rattle.cases.specs.Views.{view}
use Rattle.cases.proofs.Fits.{fit_case}
use Rattle.books.specs.Books.{as_opened, place_of}
use Rattle.coding.specs.CaseFields.{case_block}
use Rattle.image.specs.Image.{ImageOf, cases_in}
use Rattle.image.specs.Books.{cases_of, room_of}
use Rattle.image.proofs.Images.{length_cases_in, cases_again}
use Rattle.image.proofs.Keeping.{with_block, opened_image}
use Rattle.image.proofs.book.ImageBookCaseBook.open.Goals as goal

pub returns : goal.returns
returns c =
    let b = c.args.self.now in
    let bytes = b.bytes.now in
    let d = as_opened (view c.args.case) in
    let cs = cases_of b in
    let n = length_cases_in b.count bytes in
    let room : length cs < room_of b = omega (arith, n) in
    let lost : is_some (place_of d.name cs) ≡ false = ap is_some (sym c.find.ensures) ∙ sym c.is_some.ensures ∙ c.if-is_some.false in
    let more = c.write_at.new.bytes in
    let long : length more ≡ length bytes = search rules in
    let e : more ≡ with_block bytes (length cs) (case_block d) = c.write_at.ensures ∙ ap (λ k. with_block bytes k (case_block d)) (sym n) in
    let i = opened_image bytes cs c.requires more long d (fit_case (record c.args.case { state = Open })) room lost e in
    let again : cases_in (b.count + 1) more ≡ cs ++ d ∷ [] = cases_again more (cs ++ d ∷ []) i (b.count + 1) (omega (arith, length_push cs d)) in
    record {
      sound = subst (ImageOf more) (sym again) i;
      room = ap (λ k. k / 512) long;
      answer = grind (arith, any_place, n);
      cases = again;
    }
