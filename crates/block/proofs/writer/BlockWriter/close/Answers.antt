use Rattle.std.proofs.Common.{◌≡◌, ℕ, ◌/◌, ◌%◌, ◌<◌, List, [], ◌∷◌, slice_index_or, ap, ◌∙◌, arith}
use Rattle.block.proofs.Drafting.{closed-is, closed-reads, closed-sound}
use Rattle.block.proofs.writer.BlockWriter.close.Goals as goal

-- the two bytes of a check, the high one first
high : (x y : ℕ) (bs : List ℕ) → bs ≡ x / 256 % 256 ∷ x % 256 ∷ [] → x < 65536 → x ≡ y → slice_index_or bs 0 0 ≡ y / 256
high x y bs e h q = ap (λ ys. slice_index_or ys 0 0) e ∙ omega (arith, q)

low : (x y : ℕ) (bs : List ℕ) → bs ≡ x / 256 % 256 ∷ x % 256 ∷ [] → x ≡ y → slice_index_or bs 1 0 ≡ y % 256
low x y bs e q = ap (λ ys. slice_index_or ys 1 0) e ∙ ap (λ n. n % 256) q

pub invariant_of-self : goal.invariant_of-self
invariant_of-self c =
    let h = high _ _ _ c.to_be_bytes.ensures c.check_of.type_inv c.check_of.ensures in
    let l = low _ _ _ c.to_be_bytes.ensures c.check_of.ensures in
    record { sound = closed-sound c.args.self.block.now c.args.self.last c.args.self.sound _ _ h l }

pub returns-clause-bytes : goal.returns-clause-bytes
returns-clause-bytes c =
    let h = high _ _ _ c.to_be_bytes.ensures c.check_of.type_inv c.check_of.ensures in
    let l = low _ _ _ c.to_be_bytes.ensures c.check_of.ensures in
    closed-is c.args.self.block.now c.args.self.last c.args.self.sound _ _ h l

pub returns-clause-reads : goal.returns-clause-reads
returns-clause-reads c =
    let h = high _ _ _ c.to_be_bytes.ensures c.check_of.type_inv c.check_of.ensures in
    let l = low _ _ _ c.to_be_bytes.ensures c.check_of.ensures in
    closed-reads c.args.self.block.now c.args.self.last c.args.self.sound _ _ h l
