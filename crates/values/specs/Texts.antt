-- Texts of printable characters.
use Rattle.std.specs.Prelude.{ℕ, ◌-◌, Bool, ◌&&◌, List, ◌++◌, length, replicate, Option, nat_le}
use Rattle.octets.specs.Bytes.{is_printable, every, kept}

-- the bytes bs and then zeros, w in all
unfoldable pub padded : ℕ → List ℕ → List ℕ
padded w bs = bs ++ replicate (w - length bs) 0

-- a text of 1 to w printable characters
abbrev pub printed : ℕ → List ℕ → Bool
printed w bs = nat_le 1 (length bs) && nat_le (length bs) w && every is_printable bs

-- the text of 1 to w characters that bytes are
abbrev pub read_printed : ℕ → List ℕ → Option (List ℕ)
read_printed w bs = kept (printed w bs) bs

-- the identification that a payment keeps from end to end: 1 to 35 characters
abbrev pub end_to_end : List ℕ → Bool
end_to_end bs = printed 35 bs

-- additional information, which is given beside a reason: 1 to 105 characters
abbrev pub text : List ℕ → Bool
text bs = printed 105 bs

-- the identification that bytes are
abbrev pub read_end_to_end : List ℕ → Option (List ℕ)
read_end_to_end bs = read_printed 35 bs

-- the additional information that bytes are
abbrev pub read_text : List ℕ → Option (List ℕ)
read_text bs = read_printed 105 bs
