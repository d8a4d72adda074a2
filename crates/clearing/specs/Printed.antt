-- Bytes as the program prints them.
use Rattle.std.specs.Prelude.{ℕ, ◌/◌, ◌%◌, cond, ◌||◌, List, [], ◌∷◌, nat_eq, slice_index, codes}
use Rattle.clearing.specs.Hex.{within}

-- the hex digit that stands for a number
abbrev pub digit_of : ℕ → ℕ
digit_of n = slice_index (codes "0123456789abcdef") n

-- a byte in hex: its high four bits first
abbrev pub in_hex : ℕ → List ℕ
in_hex b = digit_of (b / 16) ∷ digit_of (b % 16) ∷ []

-- a byte between quotes: a quote and a backslash behind a backslash, the others from blank to ~ as they stand, any more in hex behind \x
abbrev pub in_quotes : ℕ → List ℕ
in_quotes b =
    cond (nat_eq b 34 || nat_eq b 92) (92 ∷ b ∷ [])
    (cond (within 32 126 b) (b ∷ []) (92 ∷ 120 ∷ in_hex b))
