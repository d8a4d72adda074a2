use Rattle.std.proofs.Common.{◌≡◌, eqb, length, sym, ap, ◌∙◌, rules}
use Rattle.std.specs.Int.Digits.{number_from_digits}
use Rattle.std.proofs.lemmas.Bool.{cond-true, eq-eqb}
use Rattle.values.specs.Amounts.{amount_of, read_amount}
use Rattle.values.proofs.Amounts.{number_places, only_form}
use Rattle.values.proofs.amount.AmountReadable.read.Goals as goal

pub returns-in_err-array : goal.returns-in_err-array
unfolding read_amount
returns-in_err-array c = record { value = search rules; form = search rules }

pub returns : goal.returns
unfolding read_amount
returns c =
    let bs = c.args.bytes.now in
    let same : c.in_ok-array.array ≡ bs = search rules in
    let n : length bs ≡ 8 = search rules in
    let m : c.from_be_bytes.result ≡ number_from_digits 256 bs = c.from_be_bytes.ensures ∙ sym (number_places c.in_ok-array.array (ap length same ∙ n)) ∙ ap (number_from_digits 256) same in
    let v = c.new.ensures ∙ ap amount_of m in
    record { value = v ∙ sym (cond-true (eqb (length bs) 8) _ _ (eq-eqb (length bs) 8 n)); form = only_form c.new.result bs n (λ i. (c.type_inv.bytes i).fits) v }
