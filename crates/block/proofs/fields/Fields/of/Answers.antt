use Rattle.std.proofs.Common.{refl}
use Rattle.block.specs.Reading.{layout}
use Rattle.block.proofs.fields.Fields.of.Goals as goal

pub returns-clause-fields : goal.returns-clause-fields
unfolding layout
returns-clause-fields c = refl
