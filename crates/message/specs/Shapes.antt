-- The fields that the blocks of a message have, by its kind.
use Rattle.std.specs.Prelude.{ℕ, Bool, true, false, cond, List, [], ◌∷◌, Some, None, Option, ◌==◌, nat_lt}
use Rattle.tags.specs.declared.listing.Tag.{Tag}
use Rattle.tags.specs.declared.listing.Tag.TheVariants as tag
use Rattle.tags.specs.Tags.{number_of}
use Rattle.block.specs.Fields.{FieldValue}
use Rattle.values.specs.declared.kind.Kind.{Kind}
use Rattle.values.specs.declared.kind.Kind.TheVariants.{Request, Report, Reply, Recall}
use Rattle.message.specs.declared.shapes.Role.{Role}
use Rattle.message.specs.declared.shapes.Role.TheVariants.{Header, Transaction}
use Rattle.message.specs.declared.shapes.Slot.{Slot}
use Rattle.message.specs.declared.shapes.Slot.TheVariants.{Required, Optional}

-- fields that must stand, and fields that may
abbrev pub required : Tag → Slot
required t = Required t

abbrev pub optional : Tag → Slot
optional t = Optional t

-- the tag of the field that has this place
abbrev pub slot_tag : Slot → Tag
slot_tag (Required t) = t
slot_tag (Optional t) = t

-- whether the field has to stand
abbrev pub is_required : Slot → Bool
is_required (Required t) = true
is_required (Optional t) = false

-- the header of a request
abbrev pub request_header : List Slot
request_header =
    required tag.Kind ∷ required tag.Identifier ∷ required tag.CreationDate ∷ required tag.Assigner
    ∷ required tag.Assignee ∷ required tag.NumberOfTransactions ∷ required tag.DebtorAgent ∷ []

-- the header of a message that names an original: a recall, a report or a reply
abbrev pub header_with_original : List Slot
header_with_original =
    required tag.Kind ∷ required tag.Identifier ∷ required tag.CreationDate ∷ required tag.Assigner
    ∷ required tag.Assignee ∷ required tag.NumberOfTransactions ∷ required tag.OriginalKind ∷ required tag.OriginalIdentifier ∷ []

-- a transaction of a request
abbrev pub request_transaction : List Slot
request_transaction = required tag.Uetr ∷ required tag.EndToEnd ∷ required tag.Amount ∷ required tag.CreditorAgent ∷ []

-- a transaction of a recall
abbrev pub recall_transaction : List Slot
recall_transaction = required tag.Uetr ∷ required tag.EndToEnd ∷ required tag.Amount ∷ []

-- a transaction of an answer: of a report or a reply
abbrev pub answer_transaction : List Slot
answer_transaction = required tag.Uetr ∷ required tag.EndToEnd ∷ required tag.Status ∷ optional tag.Reason ∷ optional tag.Text ∷ []

-- the fields of a block, by the message's kind and the block's role
abbrev pub shape : Kind → Role → List Slot
shape Request Header = request_header
shape Request Transaction = request_transaction
shape Recall Header = header_with_original
shape Recall Transaction = recall_transaction
shape Report Header = header_with_original
shape Report Transaction = answer_transaction
shape Reply Header = header_with_original
shape Reply Transaction = answer_transaction

-- the field is absent: a fault where it must stand, else what comes after decides
abbrev pub absent : Slot → Option ℕ → Option ℕ
absent (Required t) after = Some (number_of t)
absent (Optional t) after = after

-- the lowest tag that is missing or out of place, of fields beside the slots that they have; the tags of both rise
abbrev pub tag_fault : List Slot → List FieldValue → Option ℕ
tag_fault [] [] = None
tag_fault [] (f ∷ fs) = Some f.tag
tag_fault (s ∷ ss) [] = absent s (tag_fault ss [])
tag_fault (s ∷ ss) (f ∷ fs) =
    cond (f.tag == number_of (slot_tag s)) (tag_fault ss fs)
    (cond (nat_lt f.tag (number_of (slot_tag s))) (Some f.tag)
    (absent s (tag_fault ss (f ∷ fs))))
