-- What the reader answers, field by field.
use Rattle.std.specs.Prelude.{◌≡◌, ℕ, ◌+◌, ◌<◌, List, [], length, Some, None, Ok, Err, Option, Result}
use Rattle.std.specs.Option.{option_map}
use Rattle.tags.specs.declared.listing.Form.{Form}
use Rattle.tags.specs.declared.listing.Form.TheVariants as form
use Rattle.tags.specs.declared.faults.BlockFault.{BlockFault}
use Rattle.block.specs.declared.fields.Field.{Field}
use Rattle.block.specs.declared.fields.Field.TheVariants.{Identifier, Code, Text, Number}
use Rattle.block.specs.declared.fields.Part.{Part}
use Rattle.block.specs.declared.fields.Fields.{Fields}
use Rattle.tags.specs.Tags.{number_of, rule_of}
use Rattle.block.specs.Fields.{FieldValue}
use Rattle.block.specs.Reading.{Reading, led, fields_from}

-- the bytes of a field's value
abbrev pub bytes_of : Field → List ℕ
bytes_of (Identifier v) = v.now
bytes_of (Code v) = v.now
bytes_of (Text v) = v.now
bytes_of (Number v) = v.now

-- the form under which it was read
abbrev pub form_of : Field → Form
form_of (Identifier v) = form.Identifier
form_of (Code v) = form.Code
form_of (Text v) = form.Text
form_of (Number v) = form.Number

-- the field that a part is
abbrev pub field_of : Part → FieldValue
field_of p = record { tag = number_of p.tag; value = bytes_of p.field }

-- what a reader has yet to read
abbrev pub ahead : Fields → Reading
ahead f = fields_from f.at f.last f.rest.now

-- the reader f gave the part p and went on as g
pub record Gave (f : Fields) (p : Part) (g : Fields) : Type 0 where
  pub fields : ahead f ≡ led (field_of p) (ahead g)
  pub form : option_map (λ r. r.form) (rule_of (number_of p.tag)) ≡ Some (form_of p.field)
  pub at : p.at ≡ f.at
  pub block : p.block ≡ f.block
  pub next_at : g.at ≡ f.at + (2 + length (bytes_of p.field))
  pub next_block : g.block ≡ f.block
  pub fewer : length g.rest.now < length f.rest.now

-- what one call answers, and how the reader stands then: at the end and at a fault it stays as it was
abbrev pub Steps : Fields → Result (Option Part) BlockFault → Fields → Type 0
Steps f (Ok None) g = (ahead f ≡ Ok []) × (g ≡ f)
Steps f (Ok (Some p)) g = Gave f p g
Steps f (Err e) g = (ahead f ≡ Err e) × (g ≡ f)

-- what the iterator gives, and how it stands then: where the layout breaks, nothing more comes
abbrev pub Gives : Fields → Option (Result Part BlockFault) → Fields → Type 0
Gives f None g = (ahead f ≡ Ok []) × (g ≡ f)
Gives f (Some (Ok p)) g = Gave f p g
Gives f (Some (Err e)) g = (ahead f ≡ Err e) × (ahead g ≡ Ok [])
