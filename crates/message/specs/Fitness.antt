-- Which values are fit for a field.
use Rattle.std.specs.Prelude.{ℕ, Bool, true, false, cond, List, [], ◌∷◌, is_some, Some, None, Option}
use Rattle.tags.specs.declared.listing.Tag.{Tag}
use Rattle.tags.specs.declared.listing.Tag.TheVariants as tag
use Rattle.tags.specs.declared.listing.Rule.{Rule}
use Rattle.tags.specs.Tags.{rule_of}
use Rattle.block.specs.Fields.{FieldValue}
use Rattle.values.specs.Codes.{member_code, uetr, status, reason}
use Rattle.values.specs.Texts.{end_to_end, text}
use Rattle.values.specs.Amounts.{read_amount}
use Rattle.dates.specs.Dates.{read_date}

-- the bytes are fit as a value of this tag. Reading judges neither identifiers nor plain numbers
abbrev pub fits : Tag → List ℕ → Bool
fits tag.Kind v = true
fits tag.Identifier v = true
fits tag.CreationDate v = is_some (read_date v)
fits tag.Assigner v = member_code v
fits tag.Assignee v = member_code v
fits tag.NumberOfTransactions v = true
fits tag.OriginalKind v = true
fits tag.OriginalIdentifier v = true
fits tag.DebtorAgent v = member_code v
fits tag.Verdict v = true
fits tag.ErrorCode v = true
fits tag.State v = true
fits tag.ClosingIdentifier v = true
fits tag.Uetr v = uetr v
fits tag.EndToEnd v = end_to_end v
fits tag.Amount v = is_some (read_amount v)
fits tag.Status v = status v
fits tag.Reason v = reason v
fits tag.Text v = text v
fits tag.CreditorAgent v = member_code v

abbrev pub fits_by_rule : Option Rule → List ℕ → Bool
fits_by_rule None v = false
fits_by_rule (Some r) v = fits r.tag v

-- a field's value is fit
unfoldable pub field_fits : FieldValue → Bool
field_fits f = fits_by_rule (rule_of f.tag) f.value

-- the lowest tag whose value is unfit, of fields whose tags rise
abbrev pub value_fault : List FieldValue → Option ℕ
value_fault [] = None
value_fault (f ∷ fs) = cond (field_fits f) (value_fault fs) (Some f.tag)
