-- Hex digits and decimal numbers, as scripts write them.
use Rattle.std.specs.Prelude.{ℕ, ◌+◌, ◌-◌, Bool, cond, ◌&&◌, Some, None, Option, nat_le}

-- low to high, both included
abbrev pub within : ℕ → ℕ → ℕ → Bool
within low high b = nat_le low b && nat_le b high

-- what a hex digit stands for: 0 to 9, a to f, A to F
abbrev pub hex_digit : ℕ → Option ℕ
hex_digit b =
    cond (within 48 57 b) (Some (b - 48))
    (cond (within 97 102 b) (Some (b - 97 + 10))
    (cond (within 65 70 b) (Some (b - 65 + 10)) None))

-- what a decimal digit stands for
abbrev pub decimal_digit : ℕ → Option ℕ
decimal_digit b = cond (within 48 57 b) (Some (b - 48)) None
