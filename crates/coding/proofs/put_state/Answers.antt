use Rattle.std.proofs.Common.{[], ◌∷◌, subst}
use Rattle.cases.specs.Numbers.{state_number}
use Rattle.cases.specs.Views.{state_view}
use Rattle.coding.specs.CaseFields.{field, closing_fields}
use Rattle.coding.specs.Putting.{Puts}
use Rattle.coding.proofs.Putting.{puts_both}
use Rattle.coding.proofs.put_state.Goals as goal

pub returns-in-Some : goal.returns-in-Some
returns-in-Some c =
    let state = subst (λ n. Puts c.args.writer.now (field 12 (n ∷ []) ∷ []) c.put.new.writer) c.number.ensures c.put.ensures in
    let both = puts_both _ _ _ _ _ state c.put-in-Some.ensures in
    let f = field 12 (state_number (state_view c.args.state.now) ∷ []) in
    subst (λ o. Puts c.args.writer.now (f ∷ closing_fields o) c.put-in-Some.new.writer) c.in-Some.ensures both
