use Rattle.std.proofs.Common.{◌+◌, length}
use Rattle.std.specs.Option.{option_to_list}
use Rattle.clearing.proofs.Script.every_line.Given as goal

abbrev pub decreases-loop-made : goal.decreases-loop-made
decreases-loop-made l = length l.self.lines.rest.now + length (option_to_list l.made)
