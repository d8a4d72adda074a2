-- The lowest tag that has to stand.
use Rattle.std.proofs.Common.{◌≡◌, List, [], ◌∷◌, refl}
use Rattle.std.specs.Option.{option_map}
use Rattle.std.specs.List.{find}
use Rattle.tags.specs.Tags.{number_of}
use Rattle.message.specs.declared.shapes.Slot.{Slot}
use Rattle.message.specs.declared.shapes.Slot.TheVariants.{Required, Optional}
use Rattle.message.specs.Shapes.{slot_tag, is_required, tag_fault}

-- where no field is left, it is the first of the slots that is required
pub first_required : (xs : List Slot) → tag_fault xs [] ≡ option_map (λ s. number_of (slot_tag s)) (find is_required xs)
first_required [] = refl
first_required (Required t ∷ xs) = refl
first_required (Optional t ∷ xs) = first_required xs
