-- A pass over a block's fields, one field further on.
use Rattle.std.proofs.Common.{◌≡◌, ℕ, Bool, true, false, cond, List, ◌∷◌, Some, None, Ok, Err, Option, sym, refl, ap, ap₂, ◌∙◌}
use Rattle.std.specs.Option.{option_or}
use Rattle.tags.specs.declared.listing.Tag.{Tag}
use Rattle.tags.specs.declared.listing.Tag.TheVariants as tag
use Rattle.tags.specs.Tags.{number_of}
use Rattle.block.specs.Fields.{FieldValue}
use Rattle.block.specs.Reading.{Reading, led}
use Rattle.message.specs.declared.shapes.Slot.{Slot}
use Rattle.message.specs.declared.scan.Found.{Found}
use Rattle.message.specs.Shapes.{tag_fault}
use Rattle.message.specs.Fitness.{fits, field_fits, value_fault}
use Rattle.message.specs.Scanning.{reported}

-- a field under a listed tag is fit where its value is fit for the tag
pub field_fits_by_tag : (t : Tag) (v : List ℕ) → field_fits (record { tag = number_of t; value = v }) ≡ fits t v
unfolding field_fits
field_fits_by_tag tag.Kind v = refl
field_fits_by_tag _ v = refl

-- the lowest unfit tag so far, and what comes behind
unfit_first : (a : Option ℕ) (b : Bool) (t : ℕ) (after : Option ℕ) → option_or a (cond b after (Some t)) ≡ option_or (option_or a (cond b None (Some t))) after
unfit_first None true t after = refl
unfit_first None false t after = refl
unfit_first (Some n) b t after = refl

-- one field further on: what its tag and its value come to, and the fields behind it
pub reported_past : (t : Tag) (v : List ℕ) (found found' : Found) (ss ss' : List Slot)
    → ((fs : List FieldValue) → option_or found.tags (tag_fault ss (record { tag = number_of t; value = v } ∷ fs)) ≡ option_or found'.tags (tag_fault ss' fs))
    → found'.values ≡ option_or found.values (cond (fits t v) None (Some (number_of t)))
    → (r : Reading) → reported found ss (led (record { tag = number_of t; value = v }) r) ≡ reported found' ss' r
reported_past t v found found' ss ss' a b (Err e) = refl
reported_past t v found found' ss ss' a b (Ok fs) =
    let u : option_or found.values (value_fault (record { tag = number_of t; value = v } ∷ fs)) ≡ option_or found'.values (value_fault fs) =
    ap (λ x. option_or found.values (cond x (value_fault fs) (Some (number_of t)))) (field_fits_by_tag t v)
    ∙ unfit_first found.values (fits t v) (number_of t) (value_fault fs)
    ∙ ap (λ o. option_or o (value_fault fs)) (sym b) in
    ap₂ (λ x y. Ok (record { tags = x; values = y })) (a fs) u
