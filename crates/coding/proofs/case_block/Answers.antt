use Rattle.std.proofs.Common.{◌≡◌, ◌++◌, sym, ap, ◌∙◌, subst, rules}
use Rattle.block.specs.Fields.{Legal, last_tag}
use Rattle.block.specs.Block.{block_of}
use Rattle.block.specs.Writer.{written}
use Rattle.cases.specs.Views.{view}
use Rattle.cases.proofs.Fits.{fit_case}
use Rattle.coding.specs.CaseFields.{case_fields, case_block}
use Rattle.coding.specs.Putting.{Puts}
use Rattle.coding.proofs.Writing.{legal_case}
use Rattle.coding.proofs.Putting.{puts_both}
use Rattle.coding.proofs.case_block.Goals as goal

pub returns : goal.returns
unfolding case_block case_fields
returns c =
    let k = view c.args.case.now in
    let w = c.new-writer.result in
    let all : Puts w (case_fields k) c.put_transaction.new.writer =
    puts_both _ _ _ _ _ c.put_opening.ensures (puts_both _ _ _ _ _ c.put_original.ensures (puts_both _ _ _ _ _ c.put_state.ensures c.put_transaction.ensures)) in
    let legal : Legal (last_tag 0 (written w)) (case_fields k) = subst (λ fs. Legal (last_tag 0 fs) (case_fields k)) (sym c.new-writer.ensures.fields) (legal_case k (fit_case c.args.case.now)) in
    let fields : written c.put_transaction.new.writer ≡ case_fields k = all.fields legal ∙ ap (λ fs. fs ++ case_fields k) c.new-writer.ensures.fields in
    let e = c.close.ensures.bytes ∙ ap block_of fields in
    search rules
