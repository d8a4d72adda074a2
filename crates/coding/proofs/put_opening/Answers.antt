use Rattle.std.proofs.Common.{[], ◌∷◌, subst}
use Rattle.coding.specs.CaseFields.{field}
use Rattle.coding.specs.Putting.{Puts}
use Rattle.coding.proofs.Putting.{puts_both}
use Rattle.coding.proofs.put_opening.Goals as goal

pub returns : goal.returns
returns c =
    let kind = subst (λ n. Puts c.args.writer.now (field 1 (n ∷ []) ∷ []) c.put.new.writer) c.number.ensures c.put.ensures in
    puts_both _ _ _ _ _ kind (puts_both _ _ _ _ _ c.put-2.ensures (puts_both _ _ _ _ _ c.put-3.ensures c.put-4.ensures))
