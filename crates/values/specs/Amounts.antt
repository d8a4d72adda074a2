-- Amounts, in kopecks.
use Rattle.std.specs.Prelude.{ℕ, ◌/◌, ◌%◌, ◌^◌, Bool, cond, ◌&&◌, List, [], ◌∷◌, length, Some, None, Option, ◌==◌, nat_le}
use Rattle.std.specs.Int.Digits.{number_from_digits}

-- 1 to 999,999,999,999,999 kopecks
abbrev pub amount : ℕ → Bool
amount k = nat_le 1 k && nat_le k 999999999999999

-- the amount of k kopecks, if it is one
abbrev pub amount_of : ℕ → Option ℕ
amount_of k = cond (amount k) (Some k) None

-- the amount that bytes write: eight of them, the high byte first
unfoldable pub read_amount : List ℕ → Option ℕ
read_amount bs = cond (length bs == 8) (amount_of (number_from_digits 256 bs)) None

-- k in eight bytes, the high byte first
unfoldable pub amount_bytes : ℕ → List ℕ
amount_bytes k =
    k / 256 ^ 7 % 256
    ∷ k / 256 ^ 6 % 256
    ∷ k / 256 ^ 5 % 256
    ∷ k / 256 ^ 4 % 256
    ∷ k / 256 ^ 3 % 256
    ∷ k / 256 ^ 2 % 256
    ∷ k / 256 % 256
    ∷ k % 256
    ∷ []
