use Rattle.std.proofs.Common.{◌≡◌, ℕ, ◌+◌, ◌-◌, ◌*◌, ◌%◌, ◌<◌, ◌≤◌, List, [], ◌∷◌, length, ap, ◌∙◌, ⊎_elim, mul-le-mul, arith, rules}
use Rattle.block.specs.Block.{check, weighted_sum}
use Rattle.block.proofs.check.check_of.Goals as goal

-- one byte more, b at the place p: the sum stays the whole sum, and grows by at most 510 × 255
one_more : (bs cs : List ℕ) (b n p m s w : ℕ) → bs ≡ b ∷ cs → p ≡ n → m ≡ p + 1 → b < 256 → n + length bs ≡ 511 → 1 ≤ n → s + weighted_sum (n - 1) bs ≡ w → s ≤ 130050 * (n - 1) → (m + length cs ≡ 511) × (1 ≤ m) × ((s + p * b) + weighted_sum (m - 1) cs ≡ w) × (s + p * b ≤ 130050 * (m - 1))
one_more bs cs b n p m s w e q r f l h g k =
    let c : (n - 1) + 1 ≡ p = omega arith in
    let d : p ≡ m - 1 = omega arith in
    let t : weighted_sum (n - 1) bs ≡ p * b + weighted_sum (m - 1) cs =
    ap (weighted_sum (n - 1)) e ∙ ap (λ i. i * b + weighted_sum i cs) c ∙ ap (λ i. p * b + weighted_sum i cs) d in
    let x : p ≤ 510 = omega (arith, ap length e) in
    let y : b ≤ 255 = omega arith in
    let z : p * b ≤ 130050 = mul-le-mul x y in
    (omega (arith, ap length e), omega arith, omega (arith, t, g), omega arith)

pub loop-byte-preserved : goal.loop-byte-preserved
loop-byte-preserved c =
    let h = c.in-Some.ensures.steps in
    let i = c.loop-byte.invariant in
    let b : c.in-Some.byte.now < 256 = search rules in
    one_more _ _ c.in-Some.byte.now _ _ _ _ _ h.0 h.1.0 h.1.1 b i.0 i.1 i.2 i.3

-- no byte to come adds nothing
ended : (bs : List ℕ) (k s w : ℕ) → length bs ≡ 0 → s + weighted_sum k bs ≡ w → s ≡ w
ended [] k s w n e = omega arith
ended (b ∷ bs) k s w n e = absurd (omega arith)

pub returns : goal.returns
unfolding check
returns c =
    let n : length c.loop-byte.byte-iterator.a.rest.now ≡ 0 = ⊎_elim (λ l. l.1.0) (λ r. absurd (omega (arith, r.1.0, c.loop-byte.invariant.0))) c.in-None.ensures.steps in
    ap (λ s. s % 65521) (ended c.loop-byte.byte-iterator.a.rest.now _ _ _ n c.loop-byte.invariant.2)
