-- A list cut into chunks of n elements, and joined again.
use Rattle.std.proofs.Common.{◌≡◌, ℕ, zero, suc, ◌+◌, ◌-◌, ◌*◌, ◌<◌, ◌≤◌, List, [], ◌∷◌, ◌++◌, length, take, drop, set, sym, refl, ap, ◌∙◌, arith}
use Rattle.std.specs.List.{flat_map, All}
use Rattle.std.specs.Simd.{first_chunks}
use Rattle.std.proofs.Math.Seq.{take-add}
use Rattle.std.proofs.lemmas.List.{nil_from_length, append_assoc, length-append, length-drop, length-take-le, take-append-drop, take_at, drop_at, drop-drop}
use Rattle.std.proofs.lemmas.List.Elements.{All-nil, All-cons, All-head, All-tail}

-- chunks, one after the other
abbrev pub joined : {X : Type 0} → List (List X) → List X
joined bs = flat_map (λ b. b) bs

module _ {X : Type 0} (n : ℕ) where
  pub length-chunks : (k : ℕ) (xs : List X) → length (first_chunks n k xs) ≡ k
  length-chunks zero xs = refl
  length-chunks (suc k) xs = ap suc (length-chunks k (drop n xs))

  pub take-chunks : (j k : ℕ) (xs : List X) → j ≤ k → take j (first_chunks n k xs) ≡ first_chunks n j xs
  take-chunks zero k xs h = refl
  take-chunks (suc j) zero xs h = absurd (omega arith)
  take-chunks (suc j) (suc k) xs h = ap (λ r. take n xs ∷ r) (take-chunks j k (drop n xs) (omega arith))

  -- the first chunk
  chunks_front : (k : ℕ) (b xs : List X) → length b ≡ n → first_chunks n (suc k) (b ++ xs) ≡ b ∷ first_chunks n k xs
  chunks_front k b xs m = ap (λ r. r ∷ first_chunks n k (drop n (b ++ xs))) (take_at b xs n m) ∙ ap (λ r. b ∷ first_chunks n k r) (drop_at b xs n m)

  -- parts of n elements are the chunks of what they are joined to
  pub chunks-joined : (bs : List (List X)) → All (λ b. length b ≡ n) bs → first_chunks n (length bs) (joined bs) ≡ bs
  chunks-joined [] a = refl
  chunks-joined (b ∷ bs) a =
      let P : List X → Type 0 = λ c. length c ≡ n in
      chunks_front (length bs) b (joined bs) (All-head P b bs a) ∙ ap (λ r. b ∷ r) (chunks-joined bs (All-tail P b bs a))

  pub length-joined : (bs : List (List X)) → All (λ b. length b ≡ n) bs → length (joined bs) ≡ length bs * n
  length-joined [] a = omega arith
  length-joined (b ∷ bs) a =
      let P : List X → Type 0 = λ c. length c ≡ n in
      length-append b (joined bs) ∙ omega (arith, All-head P b bs a, length-joined bs (All-tail P b bs a))

  -- a list of k chunks is what its chunks are joined to
  pub joined-chunks : (k : ℕ) (xs : List X) → length xs ≡ k * n → joined (first_chunks n k xs) ≡ xs
  joined-chunks zero xs h = sym (nil_from_length xs (omega arith))
  joined-chunks (suc k) xs h = ap (λ r. take n xs ++ r) (joined-chunks k (drop n xs) (omega (arith, length-drop n xs))) ∙ take-append-drop n xs

  pub chunks_even : (k : ℕ) (xs : List X) → k * n ≤ length xs → All (λ b. length b ≡ n) (first_chunks n k xs)
  chunks_even zero xs h = All-nil (λ b. length b ≡ n)
  chunks_even (suc k) xs h = All-cons (λ b. length b ≡ n) (take n xs) (first_chunks n k (drop n xs)) (length-take-le n xs (omega arith)) (chunks_even k (drop n xs) (omega (arith, length-drop n xs)))

  -- a chunk that is written over
  pub chunks-written : (k i s : ℕ) (xs b : List X) → s ≡ i * n → i < k → k * n ≤ length xs → length b ≡ n → first_chunks n k (take s xs ++ (b ++ drop (s + n) xs)) ≡ set (first_chunks n k xs) i b
  chunks-written zero i s xs b e h l m = absurd (omega arith)
  chunks-written (suc k) zero s xs b e h l m =
      let z : s ≡ 0 = omega arith in
      let y : s + n ≡ n = omega arith in
      ap (λ t. first_chunks n (suc k) (take t xs ++ (b ++ drop (s + n) xs))) z
      ∙ ap (λ t. first_chunks n (suc k) (b ++ drop t xs)) y
      ∙ chunks_front k b (drop n xs) m
  chunks-written (suc k) (suc i) s xs b e h l m =
      let t = s - n in
      let ys = drop n xs in
      let z : s ≡ n + t = omega arith in
      let y : s + n ≡ n + (t + n) = omega arith in
      let front : length (take n xs) ≡ n = length-take-le n xs (omega arith) in
      ap (λ j. first_chunks n (suc k) (take j xs ++ (b ++ drop (s + n) xs))) z
      ∙ ap (λ j. first_chunks n (suc k) (take (n + t) xs ++ (b ++ drop j xs))) y
      ∙ ap (λ r. first_chunks n (suc k) (r ++ (b ++ drop (n + (t + n)) xs))) (take-add n t xs)
      ∙ ap (λ r. first_chunks n (suc k) ((take n xs ++ take t ys) ++ (b ++ r))) (sym (drop-drop (t + n) n xs))
      ∙ ap (first_chunks n (suc k)) (append_assoc (take n xs) (take t ys) (b ++ drop (t + n) ys))
      ∙ chunks_front k (take n xs) (take t ys ++ (b ++ drop (t + n) ys)) front
      ∙ ap (λ r. take n xs ∷ r) (chunks-written k i t ys b (omega arith) (omega arith) (omega (arith, length-drop n xs)) m)
