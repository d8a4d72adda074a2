use Rattle.std.proofs.Common.{sym}
use Rattle.block.proofs.Drafting.{end-none}
use Rattle.block.proofs.writer.last_field.Goals as goal

pub returns-in-0-clause-end : goal.returns-in-0-clause-end
returns-in-0-clause-end c = sym (end-none c.args.block.now c.args.last c.requires c.in-0.is)
