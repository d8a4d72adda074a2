-- Blocks: 510 bytes of fields and zeros, and two bytes of check.
use Rattle.std.specs.Prelude.{◌≡◌, ℕ, ◌+◌, ◌-◌, ◌*◌, ◌/◌, ◌%◌, ◌<◌, Bool, List, [], ◌∷◌, ◌++◌, length, take, replicate, ◌==◌, slice_index}
use Rattle.block.specs.Fields.{FieldValue, encoded}

-- the bytes bs and then zeros, n in all
unfoldable pub padded : ℕ → List ℕ → List ℕ
padded n bs = bs ++ replicate (n - length bs) 0

-- the sum of (i + 1) × byte, where the first byte has the number i
abbrev pub weighted_sum : ℕ → List ℕ → ℕ
weighted_sum i [] = 0
weighted_sum i (b ∷ bs) = (i + 1) * b + weighted_sum (i + 1) bs

-- the check of a block, over its first 510 bytes
unfoldable pub check : List ℕ → ℕ
check block = weighted_sum 0 (take 510 block) % 65521

-- the last two bytes of a block, the high one first, are its check
unfoldable pub checks : List ℕ → Bool
checks block = slice_index block 510 * 256 + slice_index block 511 == check block

-- 510 bytes with their check behind them
unfoldable pub closed : List ℕ → List ℕ
closed body = body ++ check body / 256 ∷ check body % 256 ∷ []

-- the block that fields are written as
unfoldable pub block_of : List FieldValue → List ℕ
block_of fs = closed (padded 510 (encoded fs))

-- 512 bytes
abbrev pub Block : List ℕ → Type 0
Block b = (length b ≡ 512) × ((i : ℕ) → slice_index b i < 256)
