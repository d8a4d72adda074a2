use Rattle.std.proofs.Common.{refl}
use Rattle.block.specs.Reading.{fields_from}
use Rattle.block.proofs.Scanning.{fault_left}
use Rattle.block.proofs.reader.FieldsIterator.next.Goals as goal

pub returns-in-Err-clause-steps : goal.returns-in-Err-clause-steps
unfolding fields_from
returns-in-Err-clause-steps c = (c.in-Err.ensures.0, refl)

pub returns-in-Err-clause-goes : goal.returns-in-Err-clause-goes
returns-in-Err-clause-goes c = record { on = λ h. (tt, tt, fault_left _ _ _ _ c.in-Err.ensures.0); keeps = tt; rests = λ h. tt }
