-- Bytes, and the characters that they stand for.
use Rattle.std.specs.Prelude.{ℕ, ◌+◌, ◌*◌, Bool, true, false, cond, ◌&&◌, ◌||◌, List, [], ◌∷◌, Some, None, Option, ◌==◌, nat_le}
use Rattle.std.specs.List.{list_all}

-- two byte strings are equal: equally long, with equal bytes at equal places
abbrev pub same_bytes : List ℕ → List ℕ → Bool
same_bytes [] [] = true
same_bytes [] (b ∷ bs) = false
same_bytes (a ∷ as') [] = false
same_bytes (a ∷ as') (b ∷ bs) = a == b && same_bytes as' bs

-- '0' to '9'
abbrev pub is_digit : ℕ → Bool
is_digit b = nat_le 48 b && nat_le b 57

-- 'A' to 'Z', or '0' to '9'
abbrev pub is_capital_or_digit : ℕ → Bool
is_capital_or_digit b = nat_le 65 b && nat_le b 90 || is_digit b

-- ' ' to '~': the characters of ASCII that are printed
abbrev pub is_printable : ℕ → Bool
is_printable b = nat_le 32 b && nat_le b 126

-- the test holds of each byte
abbrev pub every : (ℕ → Bool) → List ℕ → Bool
every test bs = list_all test bs

-- what is read from bytes: the bytes themselves where they are fit, else nothing
abbrev pub kept : Bool → List ℕ → Option (List ℕ)
kept fit bs = cond fit (Some bs) None

-- the number that one byte writes
abbrev pub read_byte : List ℕ → Option ℕ
read_byte [] = None
read_byte (n ∷ []) = Some n
read_byte (n ∷ m ∷ ns) = None

-- the number that two bytes write, the high byte first
abbrev pub read_pair : List ℕ → Option ℕ
read_pair [] = None
read_pair (h ∷ []) = None
read_pair (h ∷ l ∷ []) = Some (h * 256 + l)
read_pair (h ∷ l ∷ n ∷ ns) = None
