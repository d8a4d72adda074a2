use Rattle.block.proofs.Drafting.{zeros_sound}
use Rattle.block.proofs.writer.BlockWriter.drop.Goals as goal

pub invariant_of-self : goal.invariant_of-self
invariant_of-self c = record { sound = zeros_sound c.args.self.last c.args.self.sound.2 }
