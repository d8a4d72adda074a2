use Rattle.std.proofs.Common.{◌≡◌, ℕ, ◌≤◌, true, false, List, length, get_or, take, drop, Some, sym, refl, ap, ◌∙◌, arith, ltb-false, ltb-true}
use Rattle.std.specs.Option.{option_map}
use Rattle.std.proofs.lemmas.List.{take_rest, length-drop}
use Rattle.std.proofs.lemmas.Result.{err_from_is_err_and}
use Rattle.tags.specs.Tags.{rule_of}
use Rattle.block.specs.Reading.{fields_from, may_stand, blank, led}
use Rattle.block.specs.Reader.{ahead, bytes_of}
use Rattle.block.proofs.Putting.{listed_by_none, listed_by_rule}
use Rattle.block.proofs.Scanning.{fields_from-short, fields_from-end, fields_from-more, fields_from_fault, stands, stands_low, stands_unlisted, stands_long, judged_fault, judged_blank}
use Rattle.block.proofs.fields.Fields.read.Goals as goal
use Rattle.block.proofs.fields.Fields.read.Goals.{then-tag-self-via-then-tag-self, then-tag-self-via-else-tag-self+then-not-admits, then-tag-self-via-else-tag-self+else-not-admits+then-tail-n, in_default-via-then-self-lt2, in_default-via-in-len2-up+else-tag-ne0}

pub returns-in_default-rule_of : goal.returns-in_default-rule_of
returns-in_default-rule_of c =
    let xs = c.args.self.now.rest.now in
    let h : 2 ≤ length xs = omega (arith, ltb-true, ltb-false) in
    let f = stands_unlisted c.args.self.now.last (get_or xs 0 0) (get_or xs 1 0) (length (drop 2 xs)) (listed_by_none 0 (get_or xs 0 0) (get_or xs 1 0) (sym c.in_default-rule_of.ensures.value)) in
    (fields_from_fault c.args.self.now.at c.args.self.now.last xs h c.if-tag-ne0.true f, refl)

pub returns-then-tag-self : goal.returns-then-tag-self
returns-then-tag-self c =
    let xs = c.args.self.now.rest.now in
    let p = c.args.self.now.last in
    let h : 2 ≤ length xs = omega (arith, ltb-true, ltb-false) in
    let t = take_rest xs 2 in
    let n = length-drop 2 xs in
    let f : may_stand p (get_or xs 0 0) (get_or xs 1 0) (length (drop 2 xs)) ≡ false =
    elim c.then-tag-self.branch [
      | then-tag-self-via-then-tag-self w ↦ stands_low p (get_or xs 0 0) (get_or xs 1 0) (length (drop 2 xs)) w.if-tag-self.true
      | then-tag-self-via-else-tag-self+then-not-admits w ↦
          stands_unlisted p (get_or xs 0 0) (get_or xs 1 0) (length (drop 2 xs)) (listed_by_rule 0 (get_or xs 0 0) (get_or xs 1 0) c.in-Some.rule (sym c.in-Some.ensures.value) ∙ sym w.if-not-admits.ensures)
      | then-tag-self-via-else-tag-self+else-not-admits+then-tail-n w ↦ stands_long p (get_or xs 0 0) (get_or xs 1 0) (length (drop 2 xs)) (omega (arith, ap length t))
    ] in
    (fields_from_fault c.args.self.now.at p xs h c.if-tag-ne0.true f, refl)

-- there is no further field: fewer than two bytes are left, or a zero stands in the tag's place
pub returns-in_err-all_zeros-in_default : goal.returns-in_err-all_zeros-in_default
returns-in_err-all_zeros-in_default c =
    let p = err_from_is_err_and c.from_residual.result c.from_residual.ensures.1 in
    let v : ahead c.args.self.now ≡ blank c.args.self.now.at c.args.self.now.rest.now =
    elim c.in_default.branch [
      | in_default-via-then-self-lt2 w ↦ fields_from-short c.args.self.now.at c.args.self.now.last c.args.self.now.rest.now (omega (arith, ltb-true, ltb-false))
      | in_default-via-in-len2-up+else-tag-ne0 w ↦ fields_from-end c.args.self.now.at c.args.self.now.last c.args.self.now.rest.now w.if-tag-ne0.false
    ] in
    rw (p.1, p.2) (v ∙ judged_fault _ _ c.in_err-all_zeros-in_default.ensures, refl)

pub returns-in_ok-all_zeros-in_default : goal.returns-in_ok-all_zeros-in_default
returns-in_ok-all_zeros-in_default c =
    let v : ahead c.args.self.now ≡ blank c.args.self.now.at c.args.self.now.rest.now =
    elim c.in_default.branch [
      | in_default-via-then-self-lt2 w ↦ fields_from-short c.args.self.now.at c.args.self.now.last c.args.self.now.rest.now (omega (arith, ltb-true, ltb-false))
      | in_default-via-in-len2-up+else-tag-ne0 w ↦ fields_from-end c.args.self.now.at c.args.self.now.last c.args.self.now.rest.now w.if-tag-ne0.false
    ] in
    (v ∙ judged_blank c.args.self.now.at c.args.self.now.rest.now c.in_ok-all_zeros-in_default.ensures, refl)

same_step : {v w xs ys : List ℕ} {s t at bt : ℕ} → s ≡ t → v ≡ w → xs ≡ ys → at ≡ bt → led (record { tag = s; value = v }) (fields_from at t xs) ≡ led (record { tag = t; value = w }) (fields_from bt t ys)
same_step a b d e = cc

pub returns-else-tail-n : goal.returns-else-tail-n
returns-else-tail-n c =
    let xs = c.args.self.now.rest.now in
    let h : 2 ≤ length xs = omega (arith, ltb-true, ltb-false) in
    let t = take_rest xs 2 in
    let n = length-drop 2 xs in
    let p = c.args.self.now.last in
    let a = c.args.self.now.at in
    let k = listed_by_rule 0 (get_or xs 0 0) (get_or xs 1 0) c.in-Some.rule (sym c.in-Some.ensures.value) ∙ sym c.if-not-admits.ensures in
    let f : may_stand p (get_or xs 0 0) (get_or xs 1 0) (length (drop 2 xs)) ≡ true =
    stands p (get_or xs 0 0) (get_or xs 1 0) (length (drop 2 xs)) c.if-tag-self.false k (omega (arith, ap length t)) in
    let v : bytes_of c.of.result ≡ take (get_or xs 1 0) (drop 2 xs) = c.of.ensures.bytes ∙ c.split_at.ensures.front ∙ ap (take (get_or xs 1 0)) t in
    let b : c.split_at.result.1.now ≡ drop (get_or xs 1 0) (drop 2 xs) = c.split_at.ensures.back ∙ ap (drop (get_or xs 1 0)) t in
    record {
      fields = fields_from-more a p xs h c.if-tag-ne0.true f ∙ sym (same_step c.in-Some.ensures.numbered v b refl);
      form = ap (λ m. option_map (λ r. r.form) (rule_of m)) c.in-Some.ensures.numbered ∙ sym (ap (option_map (λ r. r.form)) c.in-Some.ensures.value) ∙ ap Some (sym c.of.ensures.form);
      at = refl;
      block = refl;
      next_at = omega (arith, ap length c.of.ensures.bytes, c.split_at.ensures.front_len);
      next_block = refl;
      fewer = omega (arith, ap length b, length-drop (get_or xs 1 0) (drop 2 xs));
    }
