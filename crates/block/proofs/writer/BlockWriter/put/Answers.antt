use Rattle.std.proofs.Common.{◌≡◌, ℕ, ◌+◌, ◌<◌, ◌≤◌, true, List, [], ◌∷◌, ◌++◌, length, take, drop, Some, sym, ap, ◌∙◌, subst, arith}
use Rattle.std.proofs.Props.{props}
use Rattle.tags.specs.declared.listing.Rule.{Rule}
use Rattle.tags.specs.Tags.{rule_of, admits}
use Rattle.block.specs.Fields.{encoded, fields_of, last_tag}
use Rattle.block.specs.Sound.{Sound}
use Rattle.block.specs.Writer.{written}
use Rattle.block.proofs.Encoding.{field_bytes, listed-length}
use Rattle.block.proofs.Putting.{unlisted_tag, unlisted_length, not_rising, is_put, listed_by_rule}
use Rattle.block.proofs.Drafting.{fits, laid-check, laid-fields, laid-sound}
use Rattle.block.proofs.writer.BlockWriter.put.Goals as goal

pub returns-in_default-clause-answer : goal.returns-in_default-clause-answer
returns-in_default-clause-answer c =
    sym (unlisted_tag (last_tag 0 (written c.args.self.now)) c.args.tag (length c.args.value.now) (sym c.in_default.ensures.value))

pub returns-then-not-admits-clause-answer : goal.returns-then-not-admits-clause-answer
returns-then-not-admits-clause-answer c =
    sym (unlisted_length (last_tag 0 (written c.args.self.now)) c.args.tag (length c.args.value.now) c.in-Some.rule (sym c.in-Some.ensures.value) (sym c.if-not-admits.ensures))

pub returns-then-tag-last_tag-clause-answer : goal.returns-then-tag-last_tag-clause-answer
returns-then-tag-last_tag-clause-answer c =
    let low : c.args.tag ≤ last_tag 0 (written c.args.self.now) = subst (λ p. c.args.tag ≤ p) c.last_field-last_tag.ensures.tag c.if-tag-last_tag.true in
    sym (not_rising (last_tag 0 (written c.args.self.now)) c.args.tag (length c.args.value.now) c.in-Some.rule (sym c.in-Some.ensures.value) (sym c.if-not-admits.ensures) low)

pub returns-then-tag-last_tag-clause-fields : goal.returns-then-tag-last_tag-clause-fields
returns-then-tag-last_tag-clause-fields c =
    let p : IsProp (Sound c.args.self.now.block.now c.args.self.now.last) = hlevel props in
    ap (λ s. record { block = c.args.self.now.block; last = c.args.self.now.last; sound = s }) (p _ _)

-- a field under a rule that admits it and with a tag that rises, laid behind the others: it fits, and the block is still sound
record Added (b : List ℕ) (t : ℕ) (v : List ℕ) (a : ℕ) : Type 0 where
  fits : (a + (2 + length v) ≤ 512) × (length v < 256)
  sound : Sound (take a b ++ field_bytes t v ++ drop (a + (2 + length v)) b) a
  fields : fields_of (take a b ++ field_bytes t v ++ drop (a + (2 + length v)) b) ≡ fields_of b ++ record { tag = t; value = v } ∷ []
  check : drop 510 (take a b ++ field_bytes t v ++ drop (a + (2 + length v)) b) ≡ drop 510 b

added : (b : List ℕ) (last t : ℕ) (v : List ℕ) (p a : ℕ) (r : Rule) → Sound b last → p ≡ last_tag 0 (fields_of b) → a ≡ length (encoded (fields_of b)) → p < t → Some r ≡ rule_of t → true ≡ admits r (length v) → Added b t v a
added b last t v p a r s q n h e m =
    let k = listed_by_rule 0 t (length v) r (sym e) ∙ sym m in
    let l : last_tag 0 (fields_of b) < t = subst (λ x. x < t) q h in
    let f = fits b last s t v a n l k in
    let g = listed-length t (length v) k in
    record { fits = (omega arith, omega arith); sound = laid-sound b last s t v a n l k; fields = laid-fields b last s t v a n l k; check = laid-check b last s t v a n l k }

pub lay-requires : goal.lay-requires
lay-requires c =
    let w = c.args.self.now in
    let x = added w.block.now w.last c.args.tag c.args.value.now _ _ _ w.sound c.last_field-last_tag.ensures.tag c.last_field-last_tag.ensures.end c.if-tag-last_tag.false c.in-Some.ensures.value c.if-not-admits.ensures in
    x.fits

pub invariant_of-self-2 : goal.invariant_of-self-2
invariant_of-self-2 c =
    let w = c.args.self.now in
    let x = added w.block.now w.last c.args.tag c.args.value.now _ _ _ w.sound c.last_field-last_tag.ensures.tag c.last_field-last_tag.ensures.end c.if-tag-last_tag.false c.in-Some.ensures.value c.if-not-admits.ensures in
    record { sound = subst (λ b. Sound b c.last_field-last_tag.result.1) (sym c.lay.ensures) x.sound }

pub returns-clause-answer : goal.returns-clause-answer
returns-clause-answer c =
    let rises : last_tag 0 (written c.args.self.now) < c.args.tag = subst (λ p. p < c.args.tag) c.last_field-last_tag.ensures.tag c.if-tag-last_tag.false in
    sym (is_put (last_tag 0 (written c.args.self.now)) c.args.tag (length c.args.value.now) c.in-Some.rule (sym c.in-Some.ensures.value) (sym c.if-not-admits.ensures) rises)

pub returns-clause-fields : goal.returns-clause-fields
returns-clause-fields c =
    let w = c.args.self.now in
    let x = added w.block.now w.last c.args.tag c.args.value.now _ _ _ w.sound c.last_field-last_tag.ensures.tag c.last_field-last_tag.ensures.end c.if-tag-last_tag.false c.in-Some.ensures.value c.if-not-admits.ensures in
    ap fields_of c.lay.ensures ∙ x.fields

pub returns-clause-check : goal.returns-clause-check
returns-clause-check c =
    let w = c.args.self.now in
    let x = added w.block.now w.last c.args.tag c.args.value.now _ _ _ w.sound c.last_field-last_tag.ensures.tag c.last_field-last_tag.ensures.end c.if-tag-last_tag.false c.in-Some.ensures.value c.if-not-admits.ensures in
    ap (drop 510) c.lay.ensures ∙ x.check
