-- Bytes cut into blocks.
use Rattle.std.specs.Prelude.{ℕ, zero, suc, ◌/◌, List, [], ◌∷◌, length, take, drop}

-- the first n blocks of 512 bytes
abbrev pub blocks : ℕ → List ℕ → List (List ℕ)
blocks zero bs = []
blocks (suc n) bs = take 512 bs ∷ blocks n (drop 512 bs)

-- all whole blocks of some bytes
unfoldable pub blocks_of : List ℕ → List (List ℕ)
blocks_of bs = blocks (length bs / 512) bs
