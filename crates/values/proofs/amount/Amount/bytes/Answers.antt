use Rattle.std.proofs.Common.{◌≡◌, true, ap, ◌∙◌, rules}
use Rattle.values.specs.Amounts.{amount, read_amount, amount_bytes}
use Rattle.values.proofs.Amounts.{reads_back}
use Rattle.values.proofs.amount.Amount.bytes.Goals as goal

pub returns : goal.returns
unfolding amount_bytes
returns c =
    let k = c.args.self.now.kopecks in
    let f : amount k ≡ true = search rules in
    record { value = c.to_be_bytes.ensures; back = ap read_amount c.to_be_bytes.ensures ∙ reads_back k f }
