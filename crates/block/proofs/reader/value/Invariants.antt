use Rattle.std.proofs.Common.{◌≡◌, length}
use Rattle.block.specs.Fields.{fields_of, value_of}
use Rattle.block.proofs.reader.value.Given as goal

abbrev pub invariant-loop-rest : goal.invariant-loop-rest
invariant-loop-rest l = value_of l.tag (fields_of l.rest) ≡ value_of l.tag (fields_of l.bytes)

abbrev pub decreases-loop-rest : goal.decreases-loop-rest
decreases-loop-rest l = length l.rest
