-- The parts of an identifier.
use Rattle.std.proofs.Common.{◌≡◌, ℕ, true, false, ◌&&◌, List, length, take, is_some, Some, Decides, sym, ap, ◌∙◌, arith, rules}
use Rattle.std.proofs.lemmas.Slice.Eq.{compares_Decides}
use Rattle.std.proofs.lemmas.List.{take_all, length-drop}
use Rattle.std.proofs.lemmas.Bool.{eq-eqb, ne_eqb}
use Rattle.octets.specs.Bytes.{same_bytes, every, is_capital_or_digit}
use Rattle.values.specs.Codes.{member_code}
use Rattle.dates.specs.Dates.{DateValue, real_date, read_date, date_digits}
use Rattle.dates.proofs.Digits.{reads_back, only_form}
use Rattle.values.specs.Identifiers.{code_part, date_part, serial_part, identifier, is_dated}

module _ (bs : List ℕ) where
  pub wrong_length : (length bs ≡ 20 → ⊥) → identifier bs ≡ false
  unfolding identifier
  wrong_length h = ap (λ x. x && member_code (code_part bs) && is_some (read_date (date_part bs)) && every is_capital_or_digit (serial_part bs)) (ne_eqb (length bs) 20 h)

  pub by_parts : length bs ≡ 20 → identifier bs ≡ (member_code (code_part bs) && is_some (read_date (date_part bs)) && every is_capital_or_digit (take 6 (serial_part bs)))
  unfolding identifier
  by_parts h =
      let n : length (serial_part bs) ≡ 6 = length-drop 14 bs ∙ omega arith in
      rw (eq-eqb (length bs) 20 h, take_all 6 (serial_part bs) (omega arith))

-- the date in the identifier is d exactly where its digits are those of d
pub dated_decides : (bs : List ℕ) (d : DateValue) → real_date d ≡ true → Decides (is_dated bs d) (read_date (date_part bs) ≡ Some d)
unfolding is_dated
dated_decides bs d r =
    let same = compares_Decides same_bytes (search rules) (date_part bs) (date_digits d) in
    ((λ e. ap read_date (same.0 e) ∙ reads_back d r), λ e. same.1 (sym (only_form (date_part bs) d e)))
