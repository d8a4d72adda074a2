use Rattle.std.proofs.Common.{◌≡◌, true, length, take, sym, ap, ◌∙◌, rules}
use Rattle.values.specs.Texts.{padded, printed}
use Rattle.values.proofs.Padding.{take-padded}
use Rattle.values.proofs.text.PrintedTextReadable.read.Goals as goal

pub invariant_of-result : goal.invariant_of-result
invariant_of-result g c =
    let bs = c.args.bytes.now in
    let e : take (length bs) c.pad.result ≡ bs = ap (take (length bs)) c.pad.ensures ∙ take-padded g.row.W bs in
    let f : printed g.row.W bs ≡ true = search rules in
    record { formed = (search rules, ap (printed g.row.W) e ∙ f, c.pad.ensures ∙ ap (padded g.row.W) (sym e)) }

pub returns-then-admits_all : goal.returns-then-admits_all
returns-then-admits_all g c =
    let bs = c.args.bytes.now in
    let e : take (length bs) c.pad.result ≡ bs = ap (take (length bs)) c.pad.ensures ∙ take-padded g.row.W bs in
    let f : printed g.row.W bs ≡ true = search rules in
    record { value = search rules; form = e }
