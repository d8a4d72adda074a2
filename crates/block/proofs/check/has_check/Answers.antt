use Rattle.block.specs.Block.{checks}
use Rattle.block.proofs.check.has_check.Goals as goal

pub returns : goal.returns
unfolding checks
returns c = cc
