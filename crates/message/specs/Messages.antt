-- Reading: every byte string is a message, or is refused with a number and a place.
use Rattle.std.specs.Prelude.{◌≡◌, ℕ, ◌+◌, ◌%◌, ◌<◌, ◌≤◌, Bool, cond, ◌&&◌, List, [], ◌∷◌, map, length, take, Some, None, Ok, Err, Option, Result, ◌==◌, nat_le, nat_lt, slice_index}
use Rattle.std.specs.Option.{option_or}
use Rattle.std.specs.List.{flat_map}
use Rattle.block.specs.Fields.{FieldValue, Legal, fields_of, value_of}
use Rattle.tags.specs.Faults.{fault_place}
use Rattle.block.specs.Cutting.{blocks_of}
use Rattle.block.specs.Block.{checks, block_of}
use Rattle.block.specs.Reading.{Reading, layout}
use Rattle.values.specs.declared.kind.Kind.{Kind}
use Rattle.message.specs.declared.shapes.Role.{Role}
use Rattle.message.specs.declared.shapes.Role.TheVariants.{Header, Transaction}
use Rattle.message.specs.declared.refusal.Refusal.{Refusal}
use Rattle.message.specs.declared.refusal.Refusal.TheVariants.{NotWhole, WrongCheck, BrokenLayout, MisplacedTag, UnfitValue}
use Rattle.values.specs.Kinds.{kind_of}
use Rattle.message.specs.Shapes.{shape, tag_fault}
use Rattle.message.specs.Fitness.{value_fault}

-- the length of a message: 1 to 17 blocks
unfoldable pub whole : List ℕ → Bool
whole bs = nat_lt 0 (length bs) && length bs % 512 == 0 && nat_le (length bs) 8704

-- the header is block 0
abbrev pub role : ℕ → Role
role n = cond (n == 0) Header Transaction

-- the fields of a block; none where its layout breaks
abbrev pub held : Reading → List FieldValue
held (Ok fs) = fs
held (Err e) = []

-- where in a message a fault stands: the number of the block, and the byte or the tag
pub record Location : Type 0 where
  pub block : ℕ
  pub place : ℕ

-- where a fault of block n stands, if there is one
abbrev pub located : ℕ → Option ℕ → Option Location
located n None = None
located n (Some p) = Some (record { block = n; place = p })

-- the first block that a test finds fault with, and where; the first of the blocks has the number n
abbrev pub first_fault : {A : Type 0} → (ℕ → A → Option ℕ) → ℕ → List A → Option Location
first_fault test n [] = None
first_fault test n (b ∷ bs) = option_or (located n (test n b)) (first_fault test (n + 1) bs)

-- a block's check is wrong: at byte 510
abbrev pub check_fault : ℕ → List ℕ → Option ℕ
check_fault n b = cond (checks b) None (Some 510)

abbrev pub broken_at : Reading → Option ℕ
broken_at (Ok fs) = None
broken_at (Err e) = Some (fault_place e)

-- a block's layout breaks
abbrev pub layout_fault : ℕ → List ℕ → Option ℕ
layout_fault n b = broken_at (layout b)

-- the lowest tag that is missing or out of place among the fields of block n, in a message of this kind
abbrev pub tags_fault : Kind → ℕ → List FieldValue → Option ℕ
tags_fault k n fs = tag_fault (shape k (role n)) fs

-- the lowest tag whose value is unfit among the fields of block n
abbrev pub values_fault : ℕ → List FieldValue → Option ℕ
values_fault n fs = value_fault fs

-- the kind that the value of tag 1 stands for
abbrev pub kind_by : Option (List ℕ) → Option Kind
kind_by None = None
kind_by (Some []) = None
kind_by (Some (n ∷ [])) = kind_of n
kind_by (Some (n ∷ m ∷ ns)) = None

-- the kind that any bytes give: by the fields at the front of their first block
unfoldable pub message_kind : List ℕ → Option Kind
message_kind bs = kind_by (value_of 1 (fields_of (take 512 bs)))

-- the kind of a message, by the fields of its header
abbrev pub kind_in : List (List FieldValue) → Option Kind
kind_in [] = None
kind_in (header ∷ fss) = kind_by (value_of 1 header)

-- the first fault of kind and tags: without a known kind it is tag 1 of the header
abbrev pub first_tags_fault : Option Kind → List (List FieldValue) → Option Location
first_tags_fault None fss = Some (record { block = 0; place = 1 })
first_tags_fault (Some k) fss = first_fault (tags_fault k) 0 fss

-- the fields of each block, or a refusal
abbrev pub MessageReading : Type 0
MessageReading = Result (List (List FieldValue)) Refusal

-- the refusals by the checks 2 to 5, each at the first fault that the check finds
abbrev pub wrong_check : Location → Refusal
wrong_check at = WrongCheck at.block

abbrev pub broken_layout : Location → Refusal
broken_layout at = BrokenLayout at.block at.place

abbrev pub misplaced_tag : Location → Refusal
misplaced_tag at = MisplacedTag at.block at.place

abbrev pub unfit_value : Location → Refusal
unfit_value at = UnfitValue at.block at.place

-- refused where a fault was found, else as the later checks say
abbrev pub unless : Option Location → (Location → Refusal) → MessageReading → MessageReading
unless None refusal later = later
unless (Some at) refusal later = Err (refusal at)

-- the checks 4 and 5, each over the fields of all blocks before the next
abbrev pub judged_fields : List (List FieldValue) → MessageReading
judged_fields fss =
    unless (first_tags_fault (kind_in fss) fss) misplaced_tag
    (unless (first_fault values_fault 0 fss) unfit_value (Ok fss))

-- the fields of a block
abbrev pub block_fields : List ℕ → List FieldValue
block_fields b = held (layout b)

-- the checks 2 and 3, each over all blocks before the next, and then those of the fields
abbrev pub judged_blocks : List (List ℕ) → MessageReading
judged_blocks bs =
    unless (first_fault check_fault 0 bs) wrong_check
    (unless (first_fault layout_fault 0 bs) broken_layout (judged_fields (map block_fields bs)))

-- what bytes read as: check 1 is that of their length
unfoldable pub read_message : List ℕ → MessageReading
read_message bs = cond (whole bs) (judged_blocks (blocks_of bs)) (Err NotWhole)

-- the bytes that the fields of the blocks are written as, block by block
abbrev pub written_as : List (List FieldValue) → List ℕ
written_as fss = flat_map block_of fss

-- each block's fields may be written
abbrev pub AllLegal : List (List FieldValue) → Type 0
AllLegal [] = Unit {0}
AllLegal (fs ∷ fss) = Legal 0 fs × AllLegal fss

-- what the fields of a correct message are written as reads as exactly those fields
abbrev pub WrittenReadsBack : Type 0
WrittenReadsBack =
    (fss : List (List FieldValue)) → 1 ≤ length fss → length fss ≤ 17 → AllLegal fss → judged_fields fss ≡ Ok fss
    → read_message (written_as fss) ≡ Ok fss

-- no other bytes read with the fields of these
abbrev pub OnlyMessage : List ℕ → Type 0
OnlyMessage bytes =
    (other : List ℕ) (fss : List (List FieldValue)) → ((i : ℕ) → slice_index other i < 256)
    → read_message bytes ≡ Ok fss → read_message other ≡ Ok fss → other ≡ bytes
