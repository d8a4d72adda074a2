use Rattle.std.proofs.Common.{◌≡◌, ◌≤◌, length, Some, None, sym, ap, ◌∙◌, arith, ltb-false, ltb-true}
use Rattle.block.specs.Fields.{fields_of, value_of}
use Rattle.block.proofs.Scanning.{value_here, value_behind, fields_of-short, fields_of-end}
use Rattle.block.proofs.Laws.{reading_fields_of}
use Rattle.block.proofs.reader.value.Goals as goal
use Rattle.block.proofs.reader.value.Goals.{in_default, in-len2-up+then-number-eq0}

pub returns-then-number-tag : goal.returns-then-number-tag
returns-then-number-tag c =
    let h : 2 ≤ length c.loop-rest.rest.now = omega (arith, ltb-true, ltb-false) in
    let e = ap Some c.split_at.ensures.front ∙ value_here c.loop-rest.rest.now c.args.tag c.min.result h c.if-number-eq0.false c.min.ensures c.if-number-tag.true ∙ c.loop-rest.invariant in
    record { found = e; read = λ fs k r. e ∙ ap (value_of c.args.tag) (reading_fields_of c.args.bytes.now fs k r) }

pub loop-rest-preserved : goal.loop-rest-preserved
loop-rest-preserved c =
    let h : 2 ≤ length c.loop-rest.rest.now = omega (arith, ltb-true, ltb-false) in
    ap (λ ys. value_of c.args.tag (fields_of ys)) c.split_at.ensures.back
    ∙ value_behind c.loop-rest.rest.now c.args.tag c.min.result h c.if-number-eq0.false c.min.ensures c.if-number-tag.false
    ∙ c.loop-rest.invariant

pub returns : goal.returns
returns c =
    let e : None ≡ value_of c.args.tag (fields_of c.args.bytes.now) =
    elim c.if-rest-lt2.branch [
      | in_default w ↦ sym (ap (value_of c.args.tag) (fields_of-short c.loop-rest.rest.now (omega (arith, ltb-true, ltb-false)))) ∙ c.loop-rest.invariant
      | in-len2-up+then-number-eq0 w ↦ sym (ap (value_of c.args.tag) (fields_of-end c.loop-rest.rest.now w.if-number-eq0.true)) ∙ c.loop-rest.invariant
    ] in
    record { found = e; read = λ fs k r. e ∙ ap (value_of c.args.tag) (reading_fields_of c.args.bytes.now fs k r) }
