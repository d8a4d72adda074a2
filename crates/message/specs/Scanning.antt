-- What one pass over a block's fields finds.
use Rattle.std.specs.Prelude.{List, None, Ok, Err, Result}
use Rattle.std.specs.Option.{option_or}
use Rattle.tags.specs.declared.faults.BlockFault.{BlockFault}
use Rattle.block.specs.Reading.{Reading}
use Rattle.message.specs.declared.shapes.Slot.{Slot}
use Rattle.message.specs.declared.scan.Found.{Found}
use Rattle.message.specs.Shapes.{tag_fault}
use Rattle.message.specs.Fitness.{value_fault}

-- with what was found so far, what the fields ahead and the slots left for them come to
abbrev pub reported : Found → List Slot → Reading → Result Found BlockFault
reported found ss (Err e) = Err e
reported found ss (Ok fs) =
    Ok (record { tags = option_or found.tags (tag_fault ss fs); values = option_or found.values (value_fault fs) })

-- what a block's layout comes to, beside the slots of its role
abbrev pub report : List Slot → Reading → Result Found BlockFault
report ss v = reported (record { tags = None; values = None }) ss v
