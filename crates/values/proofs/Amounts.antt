-- Eight bytes that write an amount.
use Rattle.std.proofs.Common.{◌≡◌, ℕ, ◌+◌, ◌*◌, ◌/◌, ◌%◌, ◌^◌, ◌<◌, ◌≤◌, true, false, leb, List, [], ◌∷◌, length, get_or, IfSome, Some, None, Option, sym, ap, ◌∙◌, ⊎_elim, arith}
use Rattle.std.specs.Option.{option_map}
use Rattle.std.specs.Int.Digits.{number_from_digits}
use Rattle.std.proofs.lemmas.Bool.{cond-true, cond-false, cases_Bool, and_parts, leb-true}
use Rattle.values.specs.Amounts.{amount, amount_of, read_amount, amount_bytes}
use Rattle.values.specs.declared.amount.Amount.{Amount}
use Rattle.octets.proofs.Parts.{eight}

-- the number that eight bytes write, place by place
pub number_places : (bs : List ℕ) → length bs ≡ 8 → number_from_digits 256 bs ≡ get_or bs 0 0 * 72057594037927936 + get_or bs 1 0 * 281474976710656 + get_or bs 2 0 * 1099511627776 + get_or bs 3 0 * 4294967296 + get_or bs 4 0 * 16777216 + get_or bs 5 0 * 65536 + get_or bs 6 0 * 256 + get_or bs 7 0
number_places bs h = ap (number_from_digits 256) (eight bs h) ∙ omega arith

-- an amount's bytes write it
number_amount_bytes : (k : ℕ) → k < 2 ^ 64 → number_from_digits 256 (amount_bytes k) ≡ k
unfolding amount_bytes
number_amount_bytes k h = omega arith

-- and are read as it
pub reads_back : (k : ℕ) → amount k ≡ true → read_amount (amount_bytes k) ≡ Some k
unfolding read_amount amount_bytes
reads_back k e =
    let b : k ≤ 999999999999999 = leb-true k 999999999999999 (and_parts (leb 1 k) (leb k 999999999999999) e).1 in
    let n : number_from_digits 256 (amount_bytes k) ≡ k = number_amount_bytes k (omega arith) in
    rw n (cond-true (amount k) _ _ e)

-- the bytes of the number that eight bytes write
module _ (a b c d e f g h : ℕ) (ha : a < 256) (hb : b < 256) (hc : c < 256) (hd : d < 256) (he : e < 256) (hf : f < 256) (hg : g < 256) (hh : h < 256) where
  abbrev written : ℕ
  written = a * 256 ^ 7 + b * 256 ^ 6 + c * 256 ^ 5 + d * 256 ^ 4 + e * 256 ^ 3 + f * 256 ^ 2 + g * 256 + h

  first : written / 256 ^ 7 % 256 ≡ a
  first = omega arith

  second : written / 256 ^ 6 % 256 ≡ b
  second = omega arith

  third : written / 256 ^ 5 % 256 ≡ c
  third = omega arith

  fourth : written / 256 ^ 4 % 256 ≡ d
  fourth = omega arith

  fifth : written / 256 ^ 3 % 256 ≡ e
  fifth = omega arith

  sixth : written / 256 ^ 2 % 256 ≡ f
  sixth = omega arith

  seventh : written / 256 % 256 ≡ g
  seventh = omega arith

  eighth : written % 256 ≡ h
  eighth = omega arith

  all_eight : amount_bytes written ≡ a ∷ b ∷ c ∷ d ∷ e ∷ f ∷ g ∷ h ∷ []
  unfolding amount_bytes
  all_eight = cc (first, second, third, fourth, fifth, sixth, seventh, eighth)

-- eight bytes are the bytes of the number that they write
bytes_of_number : (bs : List ℕ) → length bs ≡ 8 → ((i : ℕ) → get_or bs i 0 < 256) → amount_bytes (number_from_digits 256 bs) ≡ bs
bytes_of_number bs n k =
    ap amount_bytes (number_places bs n)
    ∙ all_eight (get_or bs 0 0) (get_or bs 1 0) (get_or bs 2 0) (get_or bs 3 0) (get_or bs 4 0) (get_or bs 5 0) (get_or bs 6 0) (get_or bs 7 0) (k 0) (k 1) (k 2) (k 3) (k 4) (k 5) (k 6) (k 7)
    ∙ sym (eight bs n)

-- so no other bytes are read as the amount
pub only_form : (r : Option Amount) (bs : List ℕ) → length bs ≡ 8 → ((i : ℕ) → get_or bs i 0 < 256) → option_map (λ sum. sum.kopecks) r ≡ amount_of (number_from_digits 256 bs) → IfSome r (λ sum. amount_bytes sum.kopecks ≡ bs)
only_form None bs n k e = tt
only_form (Some x) bs n k e =
    ⊎_elim (λ (t : amount (number_from_digits 256 bs) ≡ true).
    let same : Some x.kopecks ≡ Some (number_from_digits 256 bs) = e ∙ cond-true _ _ _ t in
    let m : x.kopecks ≡ number_from_digits 256 bs = cc in
    ap amount_bytes m ∙ bytes_of_number bs n k)
    (λ (t : amount (number_from_digits 256 bs) ≡ false).
    let none : Some x.kopecks ≡ None = e ∙ cond-false _ _ _ t in
    absurd (let z : ◌≡◌ {A = ℕ} 0 1 = cc in omega arith))
    (cases_Bool (amount (number_from_digits 256 bs)))
