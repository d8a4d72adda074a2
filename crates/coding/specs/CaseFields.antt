-- The block that a case is written as.
use Rattle.std.specs.Prelude.{ℕ, List, [], ◌∷◌, ◌++◌, Some, None, Option}
use Rattle.block.specs.Fields.{FieldValue}
use Rattle.block.specs.Block.{block_of}
use Rattle.values.specs.Amounts.{amount_bytes}
use Rattle.cases.specs.Cases.{SubjectValue, request, recall, StateValue, CaseValue}
use Rattle.cases.specs.Numbers.{subject_number, state_number, closing_of}

-- the field with the tag t and the value v
abbrev pub field : ℕ → List ℕ → FieldValue
field t v = record { tag = t; value = v }

-- its kind, its identifier, who opened it, and to whom it is addressed
abbrev pub opening_fields : CaseValue → List FieldValue
opening_fields c =
    field 1 (subject_number c.subject ∷ [])
    ∷ field 2 c.name.identifier
    ∷ field 4 c.opener
    ∷ field 5 c.assignee
    ∷ []

-- of a recall, the kind and the identifier of the original
abbrev pub original_fields : SubjectValue → List FieldValue
original_fields request = []
original_fields (recall kind id) = field 7 (kind ∷ []) ∷ field 8 id ∷ []

-- of a closed case, the closing identifier
abbrev pub closing_fields : Option (List ℕ) → List FieldValue
closing_fields None = []
closing_fields (Some id) = field 13 id ∷ []

-- its state
abbrev pub state_fields : StateValue → List FieldValue
state_fields s = field 12 (state_number s ∷ []) ∷ closing_fields (closing_of s)

-- the reference, the end-to-end identification and the amount of its transaction
abbrev pub transaction_fields : CaseValue → List FieldValue
transaction_fields c =
    field 16 c.name.uetr
    ∷ field 17 c.end_to_end
    ∷ field 18 (amount_bytes c.amount)
    ∷ []

-- the fields of a case: just those that it holds
unfoldable pub case_fields : CaseValue → List FieldValue
case_fields c = opening_fields c ++ (original_fields c.subject ++ (state_fields c.state ++ transaction_fields c))

-- the block of a case
unfoldable pub case_block : CaseValue → List ℕ
case_block c = block_of (case_fields c)
