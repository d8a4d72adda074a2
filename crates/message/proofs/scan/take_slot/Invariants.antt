use Rattle.std.proofs.Common.{◌≡◌, ℕ, List, ◌∷◌, length}
use Rattle.block.specs.Fields.{FieldValue}
use Rattle.message.specs.Shapes.{tag_fault}
use Rattle.message.proofs.scan.take_slot.Given as goal

-- the slots passed over do not change what the field comes to
abbrev pub invariant-loop-rest : goal.invariant-loop-rest
invariant-loop-rest l = (v : List ℕ) (fs : List FieldValue) → tag_fault l.slots (record { tag = l.tag; value = v } ∷ fs) ≡ tag_fault l.rest (record { tag = l.tag; value = v } ∷ fs)

abbrev pub decreases-loop-rest : goal.decreases-loop-rest
decreases-loop-rest l = length l.rest
