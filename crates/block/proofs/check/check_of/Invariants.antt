use Rattle.std.proofs.Common.{◌≡◌, ◌+◌, ◌-◌, ◌*◌, ◌≤◌, length, take}
use Rattle.block.specs.Block.{weighted_sum}
use Rattle.block.proofs.check.check_of.Given as goal

-- the sum so far and that of the bytes to come are the whole sum, and it stays within 32 bits
abbrev pub invariant-loop-byte : goal.invariant-loop-byte
invariant-loop-byte l =
    (l.byte-iterator.b.start + length l.byte-iterator.a.rest.now ≡ 511)
    × (1 ≤ l.byte-iterator.b.start)
    × (l.sum + weighted_sum (l.byte-iterator.b.start - 1) l.byte-iterator.a.rest.now ≡ weighted_sum 0 (take 510 l.block))
    × (l.sum ≤ 130050 * (l.byte-iterator.b.start - 1))
