use Rattle.std.proofs.Common.{◌/◌, [], length, sym, refl, ap, subst}
use Rattle.image.specs.Image.{ImageOf}
use Rattle.image.proofs.Images.{image_of_none}
use Rattle.image.proofs.book.ImageBook.new.Goals as goal

pub returns : goal.returns
returns c =
    let w = sym c.if-not-has_fit_length.ensures in
    let zeros = c.fill.ensures.after (λ y e. e) in
    (subst (λ x. ImageOf x []) (sym zeros) (image_of_none (length c.args.bytes.now) w), refl, ap (λ n. n / 512) c.fill.ensures.len, w)
