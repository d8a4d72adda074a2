-- What a refusal says: the number of the check, its layer, and the block and the place of the fault.
use Rattle.std.specs.Prelude.{ℕ, List, ◌∷◌, ◌++◌, codes}
use Rattle.std.specs.Fmt.{decimal}
use Rattle.message.specs.declared.refusal.Layer.{Layer}
use Rattle.message.specs.declared.refusal.Layer.TheVariants.{Blocks, Fields}
use Rattle.message.specs.declared.refusal.Refusal.{Refusal}
use Rattle.message.specs.declared.refusal.Refusal.TheVariants.{NotWhole, WrongCheck, BrokenLayout, MisplacedTag, UnfitValue}

-- the number of the check that refuses: 1 to 5
abbrev pub refusal_number : Refusal → ℕ
refusal_number NotWhole = 1
refusal_number (WrongCheck block) = 2
refusal_number (BrokenLayout block place) = 3
refusal_number (MisplacedTag block tag) = 4
refusal_number (UnfitValue block tag) = 5

-- the checks 1 to 3 judge blocks, the checks 4 and 5 their fields
abbrev pub refusal_layer : Refusal → Layer
refusal_layer NotWhole = Blocks
refusal_layer (WrongCheck block) = Blocks
refusal_layer (BrokenLayout block place) = Blocks
refusal_layer (MisplacedTag block tag) = Fields
refusal_layer (UnfitValue block tag) = Fields

-- the block of the fault; 0 where the bytes are not whole blocks
abbrev pub refusal_block : Refusal → ℕ
refusal_block NotWhole = 0
refusal_block (WrongCheck block) = block
refusal_block (BrokenLayout block place) = block
refusal_block (MisplacedTag block tag) = block
refusal_block (UnfitValue block tag) = block

-- where in the block it stands: a wrong check at byte 510, a broken layout at its byte, a fault of a field at its tag;
-- 0 where the bytes are not whole blocks
abbrev pub refusal_place : Refusal → ℕ
refusal_place NotWhole = 0
refusal_place (WrongCheck block) = 510
refusal_place (BrokenLayout block place) = place
refusal_place (MisplacedTag block tag) = tag
refusal_place (UnfitValue block tag) = tag

-- a layer in print
abbrev pub layer_text : Layer → List ℕ
layer_text Blocks = codes "blocks"
layer_text Fields = codes "fields"

-- a refusal in print: its number, layer, block and place, with a space between each
abbrev pub refusal_text : Refusal → List ℕ
refusal_text r =
    decimal (refusal_number r) ++ (32 ∷ layer_text (refusal_layer r))
    ++ (32 ∷ decimal (refusal_block r)) ++ (32 ∷ decimal (refusal_place r))
