-- The library's chunks of 512 bytes are the blocks.
use Rattle.std.proofs.Common.{◌≡◌, ℕ, zero, suc, ◌/◌, List, ◌∷◌, length, take, drop, refl, ap}
use Rattle.std.specs.Simd.{first_chunks}
use Rattle.block.specs.Cutting.{blocks, blocks_of}

first_chunks-blocks : (n : ℕ) (xs : List ℕ) → first_chunks 512 n xs ≡ blocks n xs
first_chunks-blocks zero xs = refl
first_chunks-blocks (suc n) xs = ap (λ bs. take 512 xs ∷ bs) (first_chunks-blocks n (drop 512 xs))

pub chunks-blocks_of : (xs : List ℕ) → first_chunks 512 (length xs / 512) xs ≡ blocks_of xs
unfolding blocks_of
chunks-blocks_of xs = first_chunks-blocks (length xs / 512) xs
