use Rattle.std.proofs.Common.{◌≡◌, ◌≤◌, ◌*◌, take, flat_map}
use Rattle.clearing.specs.Printed.{in_quotes}
use Rattle.clearing.proofs.shown.fill.Given as goal

-- the room begins with the bytes so far as they are printed, at most four for each
abbrev pub invariant-loop-byte : goal.invariant-loop-byte
invariant-loop-byte l =
    (take l.used l.room ≡ flat_map in_quotes (take l.byte-index l.piece))
    × (l.used ≤ 4 * l.byte-index)
