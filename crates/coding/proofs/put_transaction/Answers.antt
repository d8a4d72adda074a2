use Rattle.std.proofs.Common.{[], ◌∷◌, subst}
use Rattle.coding.specs.CaseFields.{field}
use Rattle.coding.specs.Putting.{Puts}
use Rattle.coding.proofs.Putting.{puts_both}
use Rattle.coding.proofs.put_transaction.Goals as goal

pub returns : goal.returns
returns c =
    let text = subst (λ v. Puts c.put.new.writer (field 17 v ∷ []) c.put-2.new.writer) c.bytes.ensures.value c.put-2.ensures in
    let amount = subst (λ v. Puts c.put-2.new.writer (field 18 v ∷ []) c.put-3.new.writer) c.bytes-2.ensures.value c.put-3.ensures in
    puts_both _ _ _ _ _ c.put.ensures (puts_both _ _ _ _ _ text amount)
