-- What the writer makes of the bytes of its block.
use Rattle.std.proofs.Common.{◌≡◌, ℕ, ◌+◌, ◌-◌, ◌≤◌, List, [], ◌∷◌, ◌++◌, length, take, drop, replicate, sym, refl, ap, ◌∙◌, arith}
use Rattle.std.proofs.lemmas.List.{append_assoc, length-append, length-replicate, take_at, drop_at, drop-replicate, drop-drop, take-append-le, drop-append-le}
use Rattle.block.specs.Fields.{FieldValue, Legal, encoded}
use Rattle.block.specs.Block.{padded, closed, block_of}
use Rattle.block.proofs.Encoding.{field_bytes, encoded-push, encoded_bound}

pub length-padded : (n : ℕ) (e : List ℕ) → length e ≤ n → length (padded n e) ≡ n
unfolding padded
length-padded n e h = simp (length-append, length-replicate) (omega arith)

-- bytes laid right behind others, over zeros
padded-push : (n : ℕ) (e x : List ℕ) → length e + length x ≤ n → take (length e) (padded n e) ++ x ++ drop (length e + length x) (padded n e) ≡ padded n (e ++ x)
unfolding padded
padded-push n e x h =
    let d : drop (length e + length x) (padded n e) ≡ replicate (n - length (e ++ x)) 0 =
    sym (drop-drop (length x) (length e) (padded n e))
    ∙ ap (λ y. drop (length x) y) (drop_at e (replicate (n - length e) 0) (length e) refl)
    ∙ drop-replicate (length x) (n - length e) 0
    ∙ ap (λ k. replicate k 0) (simp length-append (omega arith)) in
    rw (take_at e (replicate (n - length e) 0) (length e) refl) (ap (λ y. (e ++ x) ++ y) d)

-- bytes laid within the first of two parts
laid_within : (p q x : List ℕ) (a : ℕ) → a + length x ≤ length p → take a (p ++ q) ++ x ++ drop (a + length x) (p ++ q) ≡ (take a p ++ x ++ drop (a + length x) p) ++ q
laid_within p q x a h =
    rw (take-append-le a p q (omega arith), drop-append-le (a + length x) p q h) (sym (append_assoc (take a p ++ x) (drop (a + length x) p) q))

-- a field laid behind the others, with the check's bytes behind the body
pub appended_bytes : (b q : List ℕ) (a : ℕ) (fs : List FieldValue) (t : ℕ) (v : List ℕ) → b ≡ padded 510 (encoded fs) ++ q → a ≡ length (encoded fs) → a + (2 + length v) ≤ 510 → take a b ++ field_bytes t v ++ drop (a + (2 + length v)) b ≡ padded 510 (encoded (fs ++ record { tag = t; value = v } ∷ [])) ++ q
appended_bytes b q a fs t v e n h =
    let n2 : 2 + length v ≡ length (field_bytes t v) = omega arith in
    let m = length-padded 510 (encoded fs) (omega arith) in
    rw (e, n, encoded-push t v fs, n2)
    (laid_within (padded 510 (encoded fs)) q (field_bytes t v) (length (encoded fs)) (omega arith)
    ∙ ap (λ y. y ++ q) (padded-push 510 (encoded fs) (field_bytes t v) (omega arith)))

-- the block of legal fields has 512 bytes
pub length-block_of : (fs : List FieldValue) → Legal 0 fs → length (block_of fs) ≡ 512
unfolding block_of closed
length-block_of fs l =
    let s = encoded_bound fs l in
    let n = length-padded 510 (encoded fs) (omega arith) in
    simp length-append (omega arith)
