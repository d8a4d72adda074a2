-- The numbers and places under which faults of blocks and fields are reported.
use Rattle.std.specs.Prelude.{ℕ}
use Rattle.tags.specs.declared.faults.BlockFault.{BlockFault}
use Rattle.tags.specs.declared.faults.BlockFault.TheVariants.{WrongCheck, BrokenLayout}
use Rattle.tags.specs.declared.faults.FieldRefusal.{FieldRefusal}
use Rattle.tags.specs.declared.faults.FieldRefusal.TheVariants.{UnlistedTag, UnlistedLength, NotRising}

-- 2 for a wrong check, 3 for a broken layout
abbrev pub fault_number : BlockFault → ℕ
fault_number WrongCheck = 2
fault_number (BrokenLayout at) = 3

-- a wrong check is found at the check, a broken layout at the tag or the stray byte
abbrev pub fault_place : BlockFault → ℕ
fault_place WrongCheck = 510
fault_place (BrokenLayout at) = at

-- 49 for every field that is not written
abbrev pub refusal_number : FieldRefusal → ℕ
refusal_number UnlistedTag = 49
refusal_number UnlistedLength = 49
refusal_number NotRising = 49
