-- The values of single fields.
use Rattle.std.specs.Prelude.{ℕ, List, length, Option, ◌==◌}
use Rattle.block.specs.Fields.{FieldValue, value_of}
use Rattle.block.specs.Following.{given, if_given}
use Rattle.octets.specs.Bytes.{kept, read_byte}
use Rattle.values.specs.Codes.{read_member_code, read_uetr}
use Rattle.values.specs.Texts.{read_end_to_end}
use Rattle.values.specs.Amounts.{read_amount}

-- the value that the field with the tag t holds, by what its bytes are read as
abbrev pub item_in : {X : Type 0} → (List ℕ → Option X) → ℕ → List FieldValue → Option X
item_in reading t fs = given (value_of t fs) reading

-- the same of a field that may be absent
abbrev pub optional_item_in : {X : Type 0} → (List ℕ → Option X) → ℕ → List FieldValue → Option (Option X)
optional_item_in reading t fs = if_given (value_of t fs) reading

-- 20 bytes, whatever they are
abbrev pub read_raw_identifier : List ℕ → Option (List ℕ)
read_raw_identifier bs = kept (length bs == 20) bs

-- a number of one byte under the tag t
abbrev pub byte_in : ℕ → List FieldValue → Option ℕ
byte_in t fs = item_in read_byte t fs

-- an identifier under the tag t
abbrev pub identifier_in : ℕ → List FieldValue → Option (List ℕ)
identifier_in t fs = item_in read_raw_identifier t fs

-- a member's code under the tag t
abbrev pub member_code_in : ℕ → List FieldValue → Option (List ℕ)
member_code_in t fs = item_in read_member_code t fs

-- the unique reference of a transaction
abbrev pub uetr_in : List FieldValue → Option (List ℕ)
uetr_in fs = item_in read_uetr 16 fs

-- the identification that a payment keeps from end to end
abbrev pub end_to_end_in : List FieldValue → Option (List ℕ)
end_to_end_in fs = item_in read_end_to_end 17 fs

-- the amount
abbrev pub amount_in : List FieldValue → Option ℕ
amount_in fs = item_in read_amount 18 fs
