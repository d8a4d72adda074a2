use Rattle.std.proofs.Common.{lit<}
use Rattle.block.proofs.Drafting.{zeros_sound, zeros_empty}
use Rattle.block.proofs.writer.BlockWriter.new.Goals as goal

pub invariant_of-result : goal.invariant_of-result
invariant_of-result c = record { sound = zeros_sound 0 (lit< tt) }

pub returns-clause-fields : goal.returns-clause-fields
returns-clause-fields c = zeros_empty
