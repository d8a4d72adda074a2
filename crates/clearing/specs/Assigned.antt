-- The fields that a line assigns.
use Rattle.std.specs.Prelude.{vec_items}
use Rattle.tags.specs.Tags.{number_of}
use Rattle.block.specs.Fields.{FieldValue}
use Rattle.clearing.specs.declared.assigning.Assigned.{Assigned}

-- a field as the block holds it
abbrev pub field_value : Assigned → FieldValue
field_value a = record { tag = number_of a.name.tag; value = vec_items a.value }
