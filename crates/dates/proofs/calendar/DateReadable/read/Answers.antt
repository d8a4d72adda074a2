use Rattle.std.proofs.Common.{◌≡◌, ℕ, ◌+◌, ◌*◌, ◌<◌, true, ◌&&◌, eqb, length, get_or, sym, ap, ◌∙◌, arith}
use Rattle.std.specs.Option.{option_map}
use Rattle.std.proofs.lemmas.Bool.{cond-true, cond-false}
use Rattle.octets.specs.Bytes.{is_digit, every}
use Rattle.dates.specs.Dates.{date, date_of, real_only, read_date}
use Rattle.dates.specs.Views.{view}
use Rattle.octets.proofs.Parts.{every_at, kept-some, kept-none}
use Rattle.dates.proofs.Digits.{date_places, read_digits, form_of_read}
use Rattle.dates.proofs.calendar.DateReadable.read.Goals as goal
use Rattle.dates.proofs.calendar.DateReadable.read.Goals.{In_ok-digits}

digit_at : (c : In_ok-digits) (i : ℕ) → i < 8 → is_digit (get_or c.in_ok-digits.digits i 0) ≡ true
digit_at c i h =
    let r = read_digits c.args.bytes.now c.in_ok-digits.digits c.in_ok-digits.ensures in
    every_at is_digit c.in_ok-digits.digits i (omega arith) r.2

pub returns-in_err-digits : goal.returns-in_err-digits
unfolding read_date
returns-in_err-digits c =
    let bs = c.args.bytes.now in
    let n = kept-none (eqb (length bs) 8 && every is_digit bs) bs c.in_err-digits.ensures in
    let e : option_map view c.from_residual.result ≡ read_date bs = ap (option_map view) c.from_residual.ensures ∙ sym (cond-false _ _ _ n) in
    record { value = e; form = form_of_read c.from_residual.result bs e }

pub two_digits-requires : goal.two_digits-requires
two_digits-requires c = let d = (goal.at.two_digits-requires c).In_ok-digits in record { tens = digit_at d 0 (omega arith); units = digit_at d 1 (omega arith) }

pub two_digits-requires-2 : goal.two_digits-requires-2
two_digits-requires-2 c = let d = (goal.at.two_digits-requires-2 c).In_ok-digits in record { tens = digit_at d 2 (omega arith); units = digit_at d 3 (omega arith) }

pub two_digits-requires-3 : goal.two_digits-requires-3
two_digits-requires-3 c = let d = (goal.at.two_digits-requires-3 c).In_ok-digits in record { tens = digit_at d 4 (omega arith); units = digit_at d 5 (omega arith) }

pub two_digits-requires-4 : goal.two_digits-requires-4
two_digits-requires-4 c = let d = (goal.at.two_digits-requires-4 c).In_ok-digits in record { tens = digit_at d 6 (omega arith); units = digit_at d 7 (omega arith) }

pub returns : goal.returns
unfolding read_date
returns c =
    let bs = c.args.bytes.now in
    let xs = c.in_ok-digits.digits in
    let k = kept-some (eqb (length bs) 8 && every is_digit bs) bs xs c.in_ok-digits.ensures in
    let r = read_digits bs xs c.in_ok-digits.ensures in
    let d = date_places xs r.1 in
    let e : date (c.two_digits.result * 100 + c.two_digits-2.result) c.two_digits-3.result c.two_digits-4.result ≡ date_of bs = cc r.0 in
    let v : option_map view c.new.result ≡ read_date bs = c.new.ensures ∙ ap real_only e ∙ sym (cond-true _ _ _ k.0) in
    record { value = v; form = form_of_read c.new.result bs v }
