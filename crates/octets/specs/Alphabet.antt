-- The sets of characters that the code judges bytes by.
use Rattle.std.specs.Prelude.{ℕ, Bool}
use Rattle.octets.specs.declared.Alphabet.{Alphabet}
use Rattle.octets.specs.declared.Alphabet.TheVariants.{Digits, CapitalsAndDigits, Printable}
use Rattle.octets.specs.Bytes.{is_digit, is_capital_or_digit, is_printable}

-- the byte stands for a character of the set
abbrev pub admitted : Alphabet → ℕ → Bool
admitted Digits b = is_digit b
admitted CapitalsAndDigits b = is_capital_or_digit b
admitted Printable b = is_printable b
