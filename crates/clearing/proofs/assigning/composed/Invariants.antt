use Rattle.std.proofs.Common.{◌≡◌, map, take}
use Rattle.block.specs.Writer.{written}
use Rattle.clearing.specs.Assigned.{field_value}
use Rattle.clearing.proofs.assigning.composed.Given as goal

-- the writer holds the fields so far, over the same block
abbrev pub invariant-loop-field : goal.invariant-loop-field
invariant-loop-field l =
    (written l.writer ≡ map field_value (take l.field-index l.fields))
    × (l.writer.block.ghost_name ≡ l.initial.writer.block.ghost_name)
