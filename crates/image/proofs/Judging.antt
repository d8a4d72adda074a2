-- Blocks that are judged from the front: the cases so far, and the blocks that are left.
use Rattle.std.proofs.Common.{◌≡◌, ℕ, zero, suc, ◌+◌, ◌-◌, ◌*◌, ◌/◌, ◌<◌, ◌≤◌, true, false, eqb, List, [], ◌∷◌, ◌++◌, map, length, get_or, take, drop, replicate, is_some, Some, None, sym, refl, ap, ◌∙◌, subst, ⊎_elim, arith}
use Rattle.std.specs.List.{position, slice_get, All, AllByRecursion}
use Rattle.std.specs.Simd.{first_chunks}
use Rattle.std.proofs.Math.Path.{ap₂}
use Rattle.std.proofs.lemmas.List.{length-map, length-drop, take-append-drop, take_more, take-append-le, take-map, map_push, drop_at, drop-drop, drop-replicate}
use Rattle.std.proofs.lemmas.List.Elements.{All-head, All-tail, All-push, All-take, All-drop, All-same}
use Rattle.std.proofs.lemmas.List.Folds.{list_all-append}
use Rattle.std.proofs.lemmas.Option.{slice_get-get_or}
use Rattle.std.proofs.lemmas.Bool.{and_parts, eqb-true, cases_lt, true≢false}
use Rattle.table.proofs.Bridges.{place_none}
use Rattle.cases.specs.Cases.{NameValue, CaseValue, same_name}
use Rattle.cases.specs.Vacant.{vacant}
use Rattle.cases.specs.Fitness.{Fit}
use Rattle.books.specs.Books.{has_name, place_of, names, Apart}
use Rattle.books.proofs.Naming.{apart_more}
use Rattle.coding.specs.CaseFields.{case_block}
use Rattle.image.specs.Image.{fit_length, all_zero, ImageOf, held, cases_in, named}
use Rattle.image.proofs.Chunks.{joined, length-chunks, take-chunks, chunks_even}
use Rattle.image.proofs.Images.{blank, blank-zeros, joined-blank, held_again, held_all_again, place_in_blocks, length_cases_in, image_blocks, whole, image_from_blocks, blocks_from_image, block_at}

-- Zeros.

zeros_blank : (n : ℕ) → all_zero (replicate n 0) ≡ true
zeros_blank zero = refl
zeros_blank (suc n) = zeros_blank n

-- bytes that all pass as zero are zeros
zeros_only : (xs : List ℕ) → all_zero xs ≡ true → xs ≡ replicate (length xs) 0
zeros_only [] e = refl
zeros_only (x ∷ xs) e = let p = and_parts (eqb x 0) (all_zero xs) e in ap₂ (λ y ys. y ∷ ys) (eqb-true x 0 p.0) (zeros_only xs p.1)

blank_blocks : (bs : List (List ℕ)) → All (λ b. length b ≡ 512) bs → all_zero (joined bs) ≡ true → bs ≡ replicate (length bs) blank
blank_blocks [] a e = refl
blank_blocks (b ∷ bs) a e =
    let P : List ℕ → Type 0 = λ c. length c ≡ 512 in
    let p = and_parts (all_zero b) (all_zero (joined bs)) (sym (list_all-append (λ x. eqb x 0) b (joined bs)) ∙ e) in
    ap (λ c. c ∷ bs) (zeros_only b p.0 ∙ ap (λ k. replicate k 0) (All-head P b bs a) ∙ blank-zeros) ∙ ap (λ r. blank ∷ r) (blank_blocks bs (All-tail P b bs a) p.1)

-- The first so many blocks are those of fit cases with names that are apart.

abbrev pub so_far : List (List ℕ) → ℕ → List CaseValue
so_far bs at = map held (take at bs)

pub record Judged (bs : List (List ℕ)) (at : ℕ) : Type 0 where
  pub fit : All Fit (so_far bs at)
  pub apart : Apart (names (so_far bs at))
  pub form : take at bs ≡ map case_block (so_far bs at)

-- a name stands among the blocks so far where it stands among their cases
pub place_so_far : (bs : List (List ℕ)) (at : ℕ) → Judged bs at → (n : NameValue) → position (named n) (take at bs) ≡ place_of n (so_far bs at)
place_so_far bs at s n = ap (position (named n)) s.form ∙ place_in_blocks n (so_far bs at) s.fit

-- one case more
pub judged_more : (bs : List (List ℕ)) (at : ℕ) → Judged bs at → at < length bs → (c : CaseValue) → Fit c → get_or bs at [] ≡ case_block c → is_some (place_of c.name (so_far bs at)) ≡ false → Judged bs (at + 1)
judged_more bs at s h c f e q =
    let cs = so_far bs at in
    let t : take (at + 1) bs ≡ take at bs ++ case_block c ∷ [] = take_more bs at [] h ∙ ap (λ b. take at bs ++ b ∷ []) e in
    let g : so_far bs (at + 1) ≡ cs ++ c ∷ [] = ap (map held) t ∙ map_push held (take at bs) (case_block c) ∙ ap (λ x. cs ++ x ∷ []) (held_again c f) in
    record {
      fit = All-same Fit (so_far bs (at + 1)) (cs ++ c ∷ []) g (All-push Fit cs c s.fit f);
      apart = subst (λ (xs : List CaseValue). Apart (names xs)) (sym g) (apart_more cs c s.apart q);
      form = t ∙ ap (λ r. r ++ case_block c ∷ []) s.form ∙ sym (map_push case_block cs c) ∙ ap (map case_block) (sym g);
    }

-- a case's name differs from the names before it
apart_before : (ds : List CaseValue) (k : ℕ) (d : CaseValue) → Apart (names ds) → slice_get ds k ≡ Some d → AllByRecursion (λ c. has_name d.name c ≡ false) (take k ds)
apart_before [] k d a e = absurd (cc)
apart_before (c ∷ ds) zero d a e = tt
apart_before (c ∷ ds) (suc k) d a e = (differs ds k a.0 e, apart_before ds k d a.1 e)
  where
    differs : (xs : List CaseValue) (j : ℕ) → AllByRecursion (λ m. same_name c.name m ≡ false) (names xs) → slice_get xs j ≡ Some d → same_name c.name d.name ≡ false
    differs [] j b q = absurd (cc)
    differs (x ∷ xs) zero b q = let same : x ≡ d = cc in ap (λ (y : CaseValue). same_name c.name y.name) (sym same) ∙ b.0
    differs (x ∷ xs) (suc j) b q = differs xs j b.1 q

module _ (bytes : List ℕ) (bs : List (List ℕ)) (cut : bs ≡ first_chunks 512 (length bytes / 512) bytes) (at : ℕ) (s : Judged bs at) where
  -- nothing but zeros is left
  pub judged_all : fit_length (length bytes) ≡ true → at ≤ length bytes / 512 → all_zero (joined (drop at bs)) ≡ true → ImageOf bytes (cases_in at bytes)
  judged_all w h z =
      let n = length bytes / 512 in
      let same : so_far bs at ≡ cases_in at bytes = ap (λ x. map held (take at x)) cut ∙ ap (map held) (take-chunks 512 at n bytes h) in
      let even = subst (All (λ b. length b ≡ 512)) (sym cut) (chunks_even 512 n bytes (omega (arith, whole (length bytes) w))) in
      let left : length (drop at bs) ≡ n - length (so_far bs at) = omega (arith, length-drop at bs, ap length cut, length-chunks 512 n bytes, ap length same, length_cases_in at bytes) in
      subst (ImageOf bytes) same
      (image_from_blocks bytes (so_far bs at) w s.fit s.apart
      (sym cut ∙ sym (take-append-drop at bs) ∙ ap (λ r. r ++ drop at bs) s.form
      ∙ ap (λ r. map case_block (so_far bs at) ++ r) (blank_blocks (drop at bs) (All-drop (λ b. length b ≡ 512) at bs even) z ∙ ap (λ k. replicate k blank) left)))

  -- Whatever cases the bytes are the image of: where more than zeros is left, the next of them begins what is left.
  module _ (z : all_zero (joined (drop at bs)) ≡ false) (ds : List CaseValue) (i : ImageOf bytes ds) where
    all_blocks : bs ≡ image_blocks (length bytes / 512) ds
    all_blocks = cut ∙ blocks_from_image bytes ds i

    more_left : at < length ds
    more_left =
        ⊎_elim (λ (h : at < length ds). h)
        (λ (h : length ds ≤ at).
        let m = length bytes / 512 - length ds in
        let j = at - length ds in
        let e : at ≡ length ds + j = omega arith in
        let b : drop at bs ≡ replicate (m - j) blank =
        ap (drop at) all_blocks ∙ ap (λ k. drop k (image_blocks (length bytes / 512) ds)) e
        ∙ sym (drop-drop j (length ds) (image_blocks (length bytes / 512) ds))
        ∙ ap (drop j) (drop_at (map case_block ds) (replicate m blank) (length ds) (length-map ds case_block))
        ∙ drop-replicate j m blank in
        absurd (true≢false (sym (zeros_blank (512 * (m - j))) ∙ ap all_zero (sym (ap joined b ∙ joined-blank (m - j))) ∙ z)))
        (cases_lt at (length ds))

    next_case : Fit (get_or ds at vacant) × (get_or bs at [] ≡ case_block (get_or ds at vacant))
    next_case = (i.fit at vacant more_left, ap (λ x. get_or x at []) cut ∙ block_at bytes ds i at [] more_left)

    -- and those before it are the cases so far
    before_next : so_far bs at ≡ take at ds
    before_next =
        let h = more_left in
        let m = length-map ds case_block in
        ap (λ x. so_far x at) all_blocks
        ∙ ap (map held) (take-append-le at (map case_block ds) (replicate (length bytes / 512 - length ds) blank) (omega arith) ∙ take-map case_block at ds)
        ∙ held_all_again (take at ds) (All-take Fit at ds i.fit)

  -- Why bytes are refused.

  -- the next block is no case's
  pub no_case : all_zero (joined (drop at bs)) ≡ false → ((c : CaseValue) → Fit c → get_or bs at [] ≡ case_block c → ⊥) → (ds : List CaseValue) → ImageOf bytes ds → ⊥
  no_case z h ds i = let n = next_case z ds i in h (get_or ds at vacant) n.0 n.1

  -- the name of the next case stands already
  pub name_again : all_zero (joined (drop at bs)) ≡ false → (c : CaseValue) → Fit c → get_or bs at [] ≡ case_block c → is_some (place_of c.name (so_far bs at)) ≡ true → (ds : List CaseValue) → ImageOf bytes ds → ⊥
  name_again z c f e q ds i =
      let d = get_or ds at vacant in
      let n = next_case z ds i in
      let same : c ≡ d = sym (held_again c f) ∙ ap held (sym e ∙ n.1) ∙ held_again d n.0 in
      let none : place_of d.name (take at ds) ≡ None = place_none (has_name d.name) (take at ds) (apart_before ds at d i.apart (slice_get-get_or ds at vacant (more_left z ds i))) in
      true≢false (sym q ∙ ap (λ (k : CaseValue). is_some (place_of k.name (so_far bs at))) same ∙ ap (λ xs. is_some (place_of d.name xs)) (before_next z ds i) ∙ ap is_some none)
