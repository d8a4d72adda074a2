-- The rules stand at the numbers of their tags.
use Rattle.std.proofs.Common.{◌≡◌, ℕ, zero, suc, ◌+◌, List, [], ◌∷◌, IfSome, Some, None, Option, refl, ◌∙◌, arith}
use Rattle.std.specs.Prelude.{slice_index_or}
use Rattle.tags.specs.declared.listing.Rule.{Rule}
use Rattle.tags.specs.Tags.{rules as listed_rules, number_of, rule_of}

-- each rule is that of the tag whose number is its place, counted from i
abbrev Numbered : ℕ → List (Option Rule) → Type 0
Numbered i [] = Unit {0}
Numbered i (r ∷ rs) = IfSome r (λ rule. number_of rule.tag ≡ i) × Numbered (i + 1) rs

found : (i n : ℕ) (rs : List (Option Rule)) → Numbered i rs → (m : ℕ) → m ≡ n + i → IfSome (slice_index_or rs n None) (λ rule. number_of rule.tag ≡ m)
found i n [] h m e = tt
found i zero (None ∷ rs) h m e = tt
found i zero (Some r ∷ rs) h m e = h.0 ∙ omega arith
found i (suc n) (r ∷ rs) h m e = found (i + 1) n rs h.1 m (omega arith)

pub numbered : (n : ℕ) → IfSome (rule_of n) (λ rule. number_of rule.tag ≡ n)
numbered n = found 0 n listed_rules (tt, (refl, (refl, (refl, (refl, (refl, (refl, (refl, (refl, (refl, (refl, (refl, (refl, (refl, (tt, (tt, (refl, (refl, (refl, (refl, (refl, (refl, (refl, tt))))))))))))))))))))))) n (omega arith)
