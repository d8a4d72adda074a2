-- What a field gets by its rule, case by case.
use Rattle.std.proofs.Common.{◌≡◌, ℕ, ◌<◌, ◌≤◌, true, false, ltb, Some, None, Ok, Err, Option, sym, refl, ap, ◌∙◌}
use Rattle.std.proofs.lemmas.Bool.{lt-ltb, le-ltb, false≢true}
use Rattle.tags.specs.declared.listing.Rule.{Rule}
use Rattle.tags.specs.declared.faults.FieldRefusal.TheVariants.{UnlistedTag, UnlistedLength, NotRising}
use Rattle.tags.specs.Tags.{rule_of, admits, admitted, listed}
use Rattle.block.specs.Writer.{by_rule, put_answer}

module _ (p t n : ℕ) where
  pub unlisted_tag : rule_of t ≡ None → put_answer p t n ≡ Err UnlistedTag
  unfolding put_answer
  unlisted_tag e = ap (λ o. by_rule o n (ltb p t)) e

  pub listed_by_none : rule_of t ≡ None → listed t n ≡ false
  unfolding listed
  listed_by_none e = ap (λ o. admitted o n) e

  module _ (r : Rule) (e : rule_of t ≡ Some r) where
    pub unlisted_length : admits r n ≡ false → put_answer p t n ≡ Err UnlistedLength
    unfolding put_answer
    unlisted_length a = ap (λ o. by_rule o n (ltb p t)) e ∙ rw a

    pub not_rising : admits r n ≡ true → t ≤ p → put_answer p t n ≡ Err NotRising
    unfolding put_answer
    not_rising a h = ap (λ o. by_rule o n (ltb p t)) e ∙ rw (a, le-ltb p t h)

    pub is_put : admits r n ≡ true → p < t → put_answer p t n ≡ Ok tt
    unfolding put_answer
    is_put a h = ap (λ o. by_rule o n (ltb p t)) e ∙ rw (a, lt-ltb p t h)

    pub listed_by_rule : listed t n ≡ admits r n
    unfolding listed
    listed_by_rule = ap (λ o. admitted o n) e

-- a listed field that rises is put
pub listed_put : (p t n : ℕ) → listed t n ≡ true → p < t → put_answer p t n ≡ Ok tt
listed_put p t n e h = go (rule_of t) refl
  where
    go : (o : Option Rule) → rule_of t ≡ o → put_answer p t n ≡ Ok tt
    go None q = absurd (false≢true (sym (listed_by_none p t n q) ∙ e))
    go (Some r) q = is_put p t n r q (sym (listed_by_rule p t n r q) ∙ e) h
