use Rattle.std.proofs.Common.{◌≡◌, ℕ, ◌-◌, Bool, true, List, length, take, drop, is_some, Option, sym, ap, ◌∙◌, subst, arith, MatchOption}
use Rattle.std.proofs.lemmas.List.{drop_all, take_rest}
use Rattle.cases.specs.Cases.{CaseValue}
use Rattle.cases.specs.Views.{view}
use Rattle.cases.proofs.Fits.{fit_case}
use Rattle.image.specs.Image.{all_zero, ImageOf, cases_in}
use Rattle.image.proofs.Chunks.{joined}
use Rattle.image.proofs.Judging.{place_so_far, judged_more, judged_all, no_case, name_again}
use Rattle.image.proofs.mounting.count_cases.Goals as goal

-- what is seen of the bytes that are left
left : (bs : List (List ℕ)) (at : ℕ) (rest : List ℕ) (b : Bool) → rest ≡ joined (take (length bs - at) (drop at bs)) → b ≡ all_zero rest → all_zero (joined (drop at bs)) ≡ b
left bs at rest b r e = sym (e ∙ ap all_zero (r ∙ ap joined (take_rest bs at)))

pub returns-then-is_blank : goal.returns-then-is_blank
returns-then-is_blank c =
    let bs = c.as_chunks.result.0.now in
    let k = c.as_chunks.ensures in
    judged_all c.args.bytes.now bs k.front c.loop-at.at c.loop-at.invariant (sym c.if-not-has_fit_length.ensures) (omega (arith, k.front_len)) (left bs c.loop-at.at c.as_flattened.result.now _ c.as_flattened.ensures.value c.if-is_blank.ensures)

pub returns-in_err-case : goal.returns-in_err-case
returns-in_err-case c =
    let bytes = c.args.bytes.now in
    let bs = c.as_chunks.result.0.now in
    let P : Option ℕ → Type 0 = λ o. MatchOption o ((cs : List CaseValue) → ImageOf bytes cs → ⊥) (λ n. ImageOf bytes (cases_in n bytes)) in
    let z = left bs c.loop-at.at c.as_flattened.result.now _ c.as_flattened.ensures.value c.if-is_blank.ensures in
    subst P (sym c.from_residual.ensures) (no_case bytes bs c.as_chunks.ensures.front c.loop-at.at c.loop-at.invariant z c.in_err-case.ensures)

pub returns-then-is_some : goal.returns-then-is_some
returns-then-is_some c =
    let bs = c.as_chunks.result.0.now in
    let at = c.loop-at.at in
    let s = c.loop-at.invariant in
    let d = view c.in_ok-case.case in
    let z = left bs at c.as_flattened.result.now _ c.as_flattened.ensures.value c.if-is_blank.ensures in
    name_again c.args.bytes.now bs c.as_chunks.ensures.front at s z d (fit_case c.in_ok-case.case) c.in_ok-case.ensures (ap is_some (sym (place_so_far bs at s d.name) ∙ sym c.find_in.ensures) ∙ sym c.if-is_some.ensures)

pub loop-at-preserved : goal.loop-at-preserved
loop-at-preserved c =
    let bs = c.as_chunks.result.0.now in
    let at = c.loop-at.at in
    let s = c.loop-at.invariant in
    let d = view c.in_ok-case.case in
    judged_more bs at s c.loop-at-test.true d (fit_case c.in_ok-case.case) c.in_ok-case.ensures (ap is_some (sym (place_so_far bs at s d.name) ∙ sym c.find_in.ensures) ∙ sym c.if-is_some.ensures)

pub returns : goal.returns
returns c =
    let bytes = c.args.bytes.now in
    let bs = c.as_chunks.result.0.now in
    let k = c.as_chunks.ensures in
    let at = c.loop-at.at in
    let e : at ≡ length bs = omega arith in
    let z : all_zero (joined (drop at bs)) ≡ true = ap (λ r. all_zero (joined r)) (drop_all at bs (omega arith)) in
    subst (λ n. ImageOf bytes (cases_in n bytes)) e (judged_all bytes bs k.front at c.loop-at.invariant (sym c.if-not-has_fit_length.ensures) (omega (arith, k.front_len)) z)
