-- Eight digits that write a date.
use Rattle.std.proofs.Common.{◌≡◌, ℕ, ◌+◌, ◌-◌, ◌*◌, ◌/◌, ◌%◌, ◌<◌, ◌≤◌, true, false, ◌&&◌, eqb, List, [], ◌∷◌, length, get_or, IfSome, Some, None, Option, sym, ap, ◌∙◌, ⊎_elim, mod-eq_of_lt, div-add-mod', arith, lit<}
use native.Mathlib.Nat.{div-div-eq-div-mul}
use Rattle.std.specs.Option.{option_map}
use Rattle.std.proofs.lemmas.Bool.{cond-true, cond-false, and_parts, eqb-true, cases_Bool}
use Rattle.std.proofs.lemmas.Bool.Decides.{nat_tests}
use Rattle.octets.specs.Bytes.{is_digit, every, kept}
use Rattle.dates.specs.Dates.{DateValue, date, date_of, real_date, real_only, read_date, digit, date_digits}
use Rattle.dates.specs.Views.{view}
use Rattle.dates.specs.declared.date.Date.{Date}
use Rattle.octets.proofs.Parts.{first_eight, eight, every_at, kept-some}
use Rattle.dates.proofs.Dates.{Real, real_parts, month_length_most, equal}

-- the number that the digits at i and i + 1 write
abbrev pub two : List ℕ → ℕ → ℕ
two bs i = (get_or bs i 0 - 48) * 10 + (get_or bs (i + 1) 0 - 48)

-- the date that eight digits write, two by two
pub date_places : (bs : List ℕ) → length bs ≡ 8 → date_of bs ≡ date (two bs 0 * 100 + two bs 2) (two bs 4) (two bs 6)
date_places bs h =
    ap date_of (eight bs h)
    ∙ equal (date_of (first_eight bs)) (date (two bs 0 * 100 + two bs 2) (two bs 4) (two bs 6)) (omega arith) (omega arith) (omega arith)

last_digit_is_digit : (n : ℕ) → is_digit (digit n) ≡ true
last_digit_is_digit n = grind (arith, nat_tests)

all_digits : (d : DateValue) → every is_digit (date_digits d) ≡ true
unfolding date_digits
all_digits d =
    rw (
      last_digit_is_digit (d.year / 1000),
      last_digit_is_digit (d.year / 100),
      last_digit_is_digit (d.year / 10),
      last_digit_is_digit d.year,
      last_digit_is_digit (d.month / 10),
      last_digit_is_digit d.month,
      last_digit_is_digit (d.day / 10),
      last_digit_is_digit d.day,
    )

-- a number by its last digit, the last digit of what is before that, and so on
by_tens : (y a b c r s t : ℕ) → a * 10 + r ≡ y → b * 10 + s ≡ a → c * 10 + t ≡ b → c * 1000 + t * 100 + s * 10 + r ≡ y
by_tens y a b c r s t e f g = omega arith

four_digits : (y : ℕ) → y < 10000 → y / 1000 % 10 * 1000 + y / 100 % 10 * 100 + y / 10 % 10 * 10 + y % 10 ≡ y
four_digits y h =
    let hundreds : y / 10 / 10 ≡ y / 100 = div-div-eq-div-mul y 10 10 in
    let thousands : y / 100 / 10 ≡ y / 1000 = div-div-eq-div-mul y 100 10 in
    let top : y / 1000 < 10 = omega arith in
    ap (λ x. x * 1000 + y / 100 % 10 * 100 + y / 10 % 10 * 10 + y % 10) (mod-eq_of_lt top)
    ∙ by_tens y (y / 10) (y / 100) (y / 1000) (y % 10) (y / 10 % 10) (y / 100 % 10)
    (div-add-mod' y 10)
    (ap (λ x. x * 10 + y / 10 % 10) (sym hundreds) ∙ div-add-mod' (y / 10) 10)
    (ap (λ x. x * 10 + y / 100 % 10) (sym thousands) ∙ div-add-mod' (y / 100) 10)

-- a date's digits write it
date_of_digits : (d : DateValue) → Real d → date_of (date_digits d) ≡ d
unfolding date_digits
date_of_digits d r =
    let k = month_length_most d.year d.month in
    equal (date_of (date_digits d)) d (omega (arith, four_digits d.year (omega (arith, r.last_year)))) (omega (arith, r.last_month)) (omega (arith, r.last_day))

-- and are read as it
pub reads_back : (d : DateValue) → real_date d ≡ true → read_date (date_digits d) ≡ Some d
unfolding read_date date_digits
reads_back d e =
    rw (all_digits d, date_of_digits d (real_parts d e)) (cond-true (real_date d) _ _ e)

-- what was read is eight digits
pub read_digits : (bs xs : List ℕ) → Some xs ≡ kept (eqb (length bs) 8 && every is_digit bs) bs → (xs ≡ bs) × (length xs ≡ 8) × (every is_digit xs ≡ true)
read_digits bs xs e =
    let k = kept-some (eqb (length bs) 8 && every is_digit bs) bs xs e in
    let p = and_parts (eqb (length bs) 8) (every is_digit bs) k.0 in
    (k.1, ap length k.1 ∙ eqb-true (length bs) 8 p.0, ap (every is_digit) k.1 ∙ p.1)

-- the digits of the date that digits write
module _ (a b : ℕ) (ha : a < 10) (hb : b < 10) where
  tens : (a * 10 + b) / 10 % 10 ≡ a
  tens = omega arith

  units : (a * 10 + b) % 10 ≡ b
  units = omega arith

module _ (a b c d : ℕ) (ha : a < 10) (hb : b < 10) (hc : c < 10) (hd : d < 10) where
  abbrev year_of : ℕ
  year_of = (a * 10 + b) * 100 + (c * 10 + d)

  year_thousands : year_of / 1000 % 10 ≡ a
  year_thousands = omega arith

  year_hundreds : year_of / 100 % 10 ≡ b
  year_hundreds = omega arith

  year_tens : year_of / 10 % 10 ≡ c
  year_tens = omega arith

  year_units : year_of % 10 ≡ d
  year_units = omega arith

  module _ (e f g h : ℕ) (he : e < 10) (hf : f < 10) (hg : g < 10) (hh : h < 10) where
    all_back : date_digits (date year_of (e * 10 + f) (g * 10 + h)) ≡ (48 + a) ∷ (48 + b) ∷ (48 + c) ∷ (48 + d) ∷ (48 + e) ∷ (48 + f) ∷ (48 + g) ∷ (48 + h) ∷ []
    unfolding date_digits
    all_back = cc (year_thousands, year_hundreds, year_tens, year_units, tens e f he hf, units e f he hf, tens g h hg hh, units g h hg hh)

digit_small : (x : ℕ) → is_digit x ≡ true → x - 48 < 10
digit_small x e = grind (arith, nat_tests)

digit_back : (x : ℕ) → is_digit x ≡ true → 48 + (x - 48) ≡ x
digit_back x e = let h : 48 ≤ x = grind (arith, nat_tests) in omega arith

-- eight digits are the digits of the date that they write
digits_of_date : (bs : List ℕ) → length bs ≡ 8 → every is_digit bs ≡ true → date_digits (date_of bs) ≡ bs
digits_of_date bs h e =
    let n : ℕ → ℕ = λ i. get_or bs i 0 - 48 in
    let f : (i : ℕ) → i < 8 → is_digit (get_or bs i 0) ≡ true = λ i l. every_at is_digit bs i (omega arith) e in
    let s : (i : ℕ) → i < 8 → n i < 10 = λ i l. digit_small (get_or bs i 0) (f i l) in
    let k : (i : ℕ) → i < 8 → 48 + n i ≡ get_or bs i 0 = λ i l. digit_back (get_or bs i 0) (f i l) in
    ap date_digits (date_places bs h)
    ∙ all_back (n 0) (n 1) (n 2) (n 3) (s 0 (lit< tt)) (s 1 (lit< tt)) (s 2 (lit< tt)) (s 3 (lit< tt)) (n 4) (n 5) (n 6) (n 7) (s 4 (lit< tt)) (s 5 (lit< tt)) (s 6 (lit< tt)) (s 7 (lit< tt))
    ∙ cc (k 0 (lit< tt), k 1 (lit< tt), k 2 (lit< tt), k 3 (lit< tt), k 4 (lit< tt), k 5 (lit< tt), k 6 (lit< tt), k 7 (lit< tt))
    ∙ sym (eight bs h)

real_only-some : (a d : DateValue) → real_only a ≡ Some d → a ≡ d
real_only-some a d e =
    ⊎_elim (λ (t : real_date a ≡ true). let r : Some a ≡ Some d = sym (cond-true _ _ _ t) ∙ e in cc)
    (λ (t : real_date a ≡ false).
    let r : None ≡ Some d = sym (cond-false _ _ _ t) ∙ e in
    absurd (let z : ◌≡◌ {A = ℕ} 0 1 = cc in omega arith))
    (cases_Bool (real_date a))

-- so no other bytes are read as the date
pub only_form : (bs : List ℕ) (d : DateValue) → read_date bs ≡ Some d → date_digits d ≡ bs
unfolding read_date
only_form bs d e =
    ⊎_elim (λ (t : (eqb (length bs) 8 && every is_digit bs) ≡ true).
    let p = and_parts (eqb (length bs) 8) (every is_digit bs) t in
    let r : real_only (date_of bs) ≡ Some d = sym (cond-true _ _ _ t) ∙ e in
    ap date_digits (sym (real_only-some (date_of bs) d r)) ∙ digits_of_date bs (eqb-true (length bs) 8 p.0) p.1)
    (λ (t : (eqb (length bs) 8 && every is_digit bs) ≡ false).
    let r : None ≡ Some d = sym (cond-false _ _ _ t) ∙ e in
    absurd (let z : ◌≡◌ {A = ℕ} 0 1 = cc in omega arith))
    (cases_Bool (eqb (length bs) 8 && every is_digit bs))

pub form_of_read : (r : Option Date) (bs : List ℕ) → option_map view r ≡ read_date bs → IfSome r (λ d. date_digits (view d) ≡ bs)
form_of_read None bs e = tt
form_of_read (Some d) bs e = only_form bs (view d) (sym e)
