use Rattle.std.proofs.Common.{[], ◌∷◌, sym, subst}
use Rattle.cases.specs.Views.{subject_view}
use Rattle.coding.specs.CaseFields.{field, original_fields}
use Rattle.coding.specs.Putting.{Puts}
use Rattle.coding.proofs.Putting.{puts_both}
use Rattle.coding.proofs.put_original.Goals as goal

pub returns-in-Recall : goal.returns-in-Recall
returns-in-Recall c =
    let kind = subst (λ n. Puts c.args.writer.now (field 7 (n ∷ []) ∷ []) c.put.new.writer) c.number.ensures c.put.ensures in
    let both = puts_both _ _ _ _ _ kind c.put-in-Recall.ensures in
    subst (λ s. Puts c.args.writer.now (original_fields (subject_view s)) c.put-in-Recall.new.writer) (sym c.in-Recall.is) both
