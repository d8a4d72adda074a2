-- Bytes cut into blocks.
use Rattle.std.proofs.Common.{◌≡◌, ℕ, suc, ◌/◌, ◌≤◌, List, ◌∷◌, length, take, drop, ap, arith}
use Rattle.std.proofs.lemmas.List.{length-drop}
use Rattle.block.specs.Cutting.{blocks, blocks_of}

pub blocks_of-more : (xs : List ℕ) → 512 ≤ length xs → blocks_of xs ≡ take 512 xs ∷ blocks_of (drop 512 xs)
unfolding blocks_of
blocks_of-more xs h =
    let d = length-drop 512 xs in
    let e : length xs / 512 ≡ suc (length (drop 512 xs) / 512) = omega arith in
    ap (λ n. blocks n xs) e
