use Rattle.std.proofs.Common.{◌≡◌, Some, Err, sym, ap, ◌∙◌, subst}
use Rattle.std.proofs.lemmas.Bool.{cond-true, cond-false}
use Rattle.std.proofs.lemmas.Result.{err_from_is_err_and}
use Rattle.block.specs.Reading.{layout, reading, judged}
use Rattle.block.specs.Reader.{Gives}
use Rattle.block.proofs.Laws.{only_form}
use Rattle.block.proofs.reader.judge.Goals as goal

pub returns-then-not-has_check : goal.returns-then-not-has_check
unfolding reading
returns-then-not-has_check c =
    record {
      answer = sym (ap judged (cond-false _ _ _ (sym c.if-not-has_check.ensures)));
      only = only_form c.args.block.now (c.told-block, c.fits-block);
    }

pub returns-in_err-field : goal.returns-in_err-field
unfolding reading
returns-in_err-field c =
    let p = err_from_is_err_and c.from_residual.result c.from_residual.ensures.1 in
    let a : judged (reading c.args.block.now) ≡ judged (layout c.args.block.now) = ap judged (cond-true _ _ _ (sym c.if-not-has_check.ensures)) in
    let k : Gives c.loop-field.field-iterator (Some (Err c.in_err-field.field-0.0)) c.next.new.self = subst (λ r. Gives c.loop-field.field-iterator (Some r) c.next.new.self) c.in_err-field.was c.in-Some.ensures.steps in
    record {
      answer = p.1 ∙ ap Err p.2 ∙ sym (ap judged k.0) ∙ c.loop-field.invariant.2 ∙ sym a;
      only = only_form c.args.block.now (c.told-block, c.fits-block);
    }

pub returns : goal.returns
unfolding reading
returns c =
    let a : judged (reading c.args.block.now) ≡ judged (layout c.args.block.now) = ap judged (cond-true _ _ _ (sym c.if-not-has_check.ensures)) in
    record {
      answer = sym (ap judged c.in-None.ensures.steps.0) ∙ c.loop-field.invariant.2 ∙ sym a;
      only = only_form c.args.block.now (c.told-block, c.fits-block);
    }
