-- The blocks of an image: those of its cases, then blocks of zeros.
use Rattle.std.proofs.Common.{◌≡◌, ℕ, zero, suc, ◌+◌, ◌-◌, ◌*◌, ◌/◌, ◌%◌, ◌<◌, ◌≤◌, true, ◌&&◌, eqb, List, [], ◌++◌, map, length, get_or, take, replicate, Some, None, unwrap_or, sym, refl, ap, ◌∙◌, ⊎_elim, arith}
use Rattle.std.specs.List.{slice_get, flat_map, All, position}
use Rattle.std.specs.Simd.{first_chunks}
use Rattle.std.proofs.Math.Path.{ap₂}
use Rattle.std.proofs.lemmas.Bool.{and_parts, and_from, eqb-true, eq-eqb, cases_lt}
use Rattle.std.proofs.lemmas.Option.{slice_get-get_or}
use Rattle.std.proofs.lemmas.List.{length-append, length-map, length-replicate, replicate-append-replicate, take_at, get_or_append_left, get_or-append_right, get_or-map, get_or-replicate}
use Rattle.std.proofs.lemmas.List.Elements.{All-nil, All-weaker, All-append, All-map, All-replicate, recursion_from_All}
use Rattle.std.proofs.lemmas.List.Folds.{flat_map-map, map_fixed}
use Rattle.std.proofs.lemmas.Grind.{flat_map-append}
use Rattle.std.proofs.lemmas.Simd.{map-map}
use Rattle.block.specs.Fields.{fields_of, value_of}
use Rattle.block.proofs.Scanning.{fields_of-end}
use Rattle.table.proofs.Bridges.{place_position, place_map, place_same}
use Rattle.cases.specs.Cases.{NameValue, CaseValue}
use Rattle.cases.specs.Vacant.{vacant}
use Rattle.cases.specs.Fitness.{Fit}
use Rattle.books.specs.Books.{has_name, place_of, names, Apart, fit_capacity}
use Rattle.coding.specs.CaseFields.{case_fields, case_block}
use Rattle.coding.specs.Decoding.{case_in}
use Rattle.coding.proofs.Finding.{uetr_value, identifier_value}
use Rattle.coding.proofs.CaseBlocks.{length-case_block, fields-case_block, case_block_again}
use Rattle.image.specs.Image.{fit_length, image, ImageOf, held, cases_in, is_value, named}
use Rattle.image.proofs.Chunks.{joined, length-chunks, take-chunks, chunks-joined, length-joined, joined-chunks}

-- One block.

-- a block of zeros
pub blank : List ℕ
blank = replicate 512 0

pub blank-zeros : replicate 512 0 ≡ blank
unfolding blank
blank-zeros = refl

length-blank : length blank ≡ 512
unfolding blank
length-blank = length-replicate {A = ℕ} 512 0

blank_case : case_in (fields_of blank) ≡ None
unfolding blank
blank_case = ap case_in (fields_of-end (replicate 512 0) refl)

pub joined-blank : (k : ℕ) → joined (replicate k blank) ≡ replicate (512 * k) 0
unfolding blank
joined-blank zero = refl
joined-blank (suc k) = ap (λ r. replicate 512 0 ++ r) (joined-blank k) ∙ replicate-append-replicate 512 (512 * k) 0 ∙ ap (λ j. replicate j 0) (omega arith)

-- the block of a fit case holds the case
pub held_again : (c : CaseValue) → Fit c → held (case_block c) ≡ c
held_again c f = ap (λ o. unwrap_or o vacant) (case_block_again c f)

-- and has just its name
pub named_case_block : (c : CaseValue) → Fit c → (n : NameValue) → named n (case_block c) ≡ has_name n c
unfolding named
named_case_block c f n =
    ap (λ fs. is_value (value_of 2 fs) n.identifier && is_value (value_of 16 fs) n.uetr) (fields-case_block c f)
    ∙ ap (λ o. is_value o n.identifier && is_value (value_of 16 (case_fields c)) n.uetr) (identifier_value c f)
    ∙ ap (λ o. is_value (Some c.name.identifier) n.identifier && is_value o n.uetr) (uetr_value c f)

-- The blocks of cases.

pub held_all_again : (cs : List CaseValue) → All Fit cs → map held (map case_block cs) ≡ cs
held_all_again cs a = map-map held case_block cs ∙ map_fixed (λ c. held (case_block c)) cs (All-weaker Fit (λ c. held (case_block c) ≡ c) held_again cs a)

-- a name stands among the blocks where it stands among the cases
pub place_in_blocks : (n : NameValue) (cs : List CaseValue) → All Fit cs → position (named n) (map case_block cs) ≡ place_of n cs
place_in_blocks n cs a =
    sym (place_position (named n) (map case_block cs))
    ∙ place_map case_block (named n) cs
    ∙ place_same (λ c. named n (case_block c)) (has_name n) cs (recursion_from_All (λ c. named n (case_block c) ≡ has_name n c) cs (All-weaker Fit (λ c. named n (case_block c) ≡ has_name n c) (λ c f. named_case_block c f n) cs a))

-- the block at a place holds the case at that place
pub case_at_place : (cs : List CaseValue) → All Fit cs → (bs : List (List ℕ)) → bs ≡ map case_block cs → (i : ℕ) (block : List ℕ) → i < length bs → block ≡ get_or bs i block → case_in (fields_of block) ≡ slice_get cs i
case_at_place cs a bs s i block h e =
    let l : i < length cs = omega (arith, ap length s, length-map cs case_block) in
    let c = get_or cs i vacant in
    let same : block ≡ case_block c = e ∙ ap (λ xs. get_or xs i block) s ∙ get_or-map case_block cs i vacant block l in
    ap (λ b. case_in (fields_of b)) same ∙ case_block_again c (a i vacant l) ∙ sym (slice_get-get_or cs i vacant l)

pub length_cases_in : (n : ℕ) (bytes : List ℕ) → length (cases_in n bytes) ≡ n
length_cases_in n bytes = length-map (first_chunks 512 n bytes) held ∙ length-chunks 512 n bytes

-- The blocks of an image.

abbrev pub image_blocks : ℕ → List CaseValue → List (List ℕ)
image_blocks n cs = map case_block cs ++ replicate (n - length cs) blank

joined_image : (n : ℕ) (cs : List CaseValue) → joined (image_blocks n cs) ≡ image n cs
unfolding image
joined_image n cs =
    flat_map-append (λ b. b) (map case_block cs) (replicate (n - length cs) blank)
    ∙ ap (λ r. r ++ joined (replicate (n - length cs) blank)) (flat_map-map (λ b. b) case_block cs)
    ∙ ap (λ r. flat_map case_block cs ++ r) (joined-blank (n - length cs))

length-image_blocks : (n : ℕ) (cs : List CaseValue) → length (image_blocks n cs) ≡ length cs + (n - length cs)
length-image_blocks n cs = omega (arith, length-append (map case_block cs) (replicate (n - length cs) blank), length-map cs case_block, length-replicate (n - length cs) blank)

-- the first of them are those of the cases
pub take-image_blocks : (n : ℕ) (cs : List CaseValue) → take (length cs) (image_blocks n cs) ≡ map case_block cs
take-image_blocks n cs = take_at (map case_block cs) (replicate (n - length cs) blank) (length cs) (length-map cs case_block)

-- bytes of a fit length are whole blocks
pub whole : (n : ℕ) → fit_length n ≡ true → n ≡ n / 512 * 512
whole n w = let r = eqb-true (n % 512) 0 (and_parts (eqb (n % 512) 0) (fit_capacity (n / 512)) w).0 in omega arith

-- bytes with the blocks of an image are that image
pub from_blocks : (n : ℕ) (cs : List CaseValue) (bytes : List ℕ) → length bytes ≡ n * 512 → first_chunks 512 n bytes ≡ image_blocks n cs → bytes ≡ image n cs
from_blocks n cs bytes l e = sym (joined-chunks 512 n bytes l) ∙ ap joined e ∙ joined_image n cs

pub image_from_blocks : (bytes : List ℕ) (cs : List CaseValue) → fit_length (length bytes) ≡ true → All Fit cs → Apart (names cs) → first_chunks 512 (length bytes / 512) bytes ≡ image_blocks (length bytes / 512) cs → ImageOf bytes cs
image_from_blocks bytes cs w f a e =
    let n = length bytes / 512 in
    record {
      capacity = (and_parts (eqb (length bytes % 512) 0) (fit_capacity n) w).1;
      within = omega (arith, length-chunks 512 n bytes, ap length e, length-image_blocks n cs);
      fit = f;
      apart = a;
      form = from_blocks n cs bytes (whole (length bytes) w) e;
    }

pub image_blocks-none : (n : ℕ) → first_chunks 512 n (replicate (512 * n) 0) ≡ image_blocks n []
image_blocks-none n =
    ap (first_chunks 512 n) (sym (joined-blank n))
    ∙ ap (λ k. first_chunks 512 k (joined (replicate n blank))) (sym (length-replicate n blank))
    ∙ chunks-joined 512 (replicate n blank) (All-replicate (λ b. length b ≡ 512) n blank length-blank)
    ∙ ap (λ k. replicate k blank) (omega arith)

-- zeros are the image of no cases
pub image_of_none : (n : ℕ) → fit_length n ≡ true → ImageOf (replicate n 0) []
image_of_none n w =
    let l = length-replicate {A = ℕ} n 0 in
    image_from_blocks (replicate n 0) [] (ap fit_length l ∙ w) (All-nil Fit) tt
    (ap (λ k. first_chunks 512 (k / 512) (replicate n 0)) l
    ∙ ap (λ k. first_chunks 512 (n / 512) (replicate k 0)) (omega (arith, whole n w))
    ∙ image_blocks-none (n / 512)
    ∙ ap (λ k. image_blocks (k / 512) []) (sym l))

module _ (bytes : List ℕ) (cs : List CaseValue) (i : ImageOf bytes cs) where
  even : All (λ b. length b ≡ 512) (image_blocks (length bytes / 512) cs)
  even =
      let P : List ℕ → Type 0 = λ b. length b ≡ 512 in
      All-append P (map case_block cs) _ (All-map P case_block cs (All-weaker Fit (λ c. length (case_block c) ≡ 512) length-case_block cs i.fit)) (All-replicate P (length bytes / 512 - length cs) blank length-blank)

  many : length (image_blocks (length bytes / 512) cs) ≡ length bytes / 512
  many = let w = i.within in omega (arith, length-image_blocks (length bytes / 512) cs)

  bytes_joined : bytes ≡ joined (image_blocks (length bytes / 512) cs)
  bytes_joined = i.form ∙ sym (joined_image (length bytes / 512) cs)

  pub image_length : fit_length (length bytes) ≡ true
  image_length =
      let n = length bytes / 512 in
      let l : length bytes ≡ n * 512 = ap length bytes_joined ∙ length-joined 512 (image_blocks n cs) even ∙ ap (λ k. k * 512) many in
      and_from (eqb (length bytes % 512) 0) (fit_capacity n) (eq-eqb (length bytes % 512) 0 (omega arith)) i.capacity

  pub whole_image : length bytes ≡ length bytes / 512 * 512
  whole_image = whole (length bytes) image_length

  pub blocks_from_image : first_chunks 512 (length bytes / 512) bytes ≡ image_blocks (length bytes / 512) cs
  blocks_from_image =
      let n = length bytes / 512 in
      ap (λ k. first_chunks 512 k bytes) (sym many)
      ∙ ap (first_chunks 512 (length (image_blocks n cs))) bytes_joined
      ∙ chunks-joined 512 (image_blocks n cs) even

  -- the first blocks are those of the cases
  pub first_blocks : (k : ℕ) → k ≡ length cs → take k (first_chunks 512 (length bytes / 512) bytes) ≡ map case_block cs
  first_blocks k e = ap₂ take e blocks_from_image ∙ take-image_blocks (length bytes / 512) cs

  pub cases_again : (k : ℕ) → k ≡ length cs → cases_in k bytes ≡ cs
  cases_again k e =
      let w = i.within in
      ap (map held) (sym (take-chunks 512 k (length bytes / 512) bytes (omega arith)) ∙ first_blocks k e) ∙ held_all_again cs i.fit

  -- what stands at a place: a case's block, or a blank one behind the cases
  pub block_at : (k : ℕ) (d : List ℕ) → k < length cs → get_or (first_chunks 512 (length bytes / 512) bytes) k d ≡ case_block (get_or cs k vacant)
  block_at k d h =
      let m = length-map cs case_block in
      ap (λ bs. get_or bs k d) blocks_from_image
      ∙ get_or_append_left (map case_block cs) (replicate (length bytes / 512 - length cs) blank) d k (omega arith)
      ∙ get_or-map case_block cs k vacant d h

  blank_at : (k : ℕ) → length cs ≤ k → k < length bytes / 512 → get_or (first_chunks 512 (length bytes / 512) bytes) k blank ≡ blank
  blank_at k h l =
      ap (λ bs. get_or bs k blank) blocks_from_image
      ∙ get_or-append_right (map case_block cs) (replicate (length bytes / 512 - length cs) blank) (length cs) k blank (length-map cs case_block) h
      ∙ get_or-replicate (length bytes / 512 - length cs) (k - length cs) blank blank (omega arith)

-- bytes are the image of no more cases than they are seen to be
no_more : (bytes : List ℕ) (cs ds : List CaseValue) → ImageOf bytes cs → ImageOf bytes ds → length ds ≤ length cs
no_more bytes cs ds i j =
    ⊎_elim
    (λ (h : length cs < length ds).
    let d = get_or ds (length cs) vacant in
    let w = j.within in
    let same : blank ≡ case_block d = sym (blank_at bytes cs i (length cs) (omega arith) (omega arith)) ∙ block_at bytes ds j (length cs) blank h in
    let q : None ≡ Some d = sym blank_case ∙ ap (λ b. case_in (fields_of b)) same ∙ case_block_again d (j.fit (length cs) vacant h) in
    absurd (cc))
    (λ (h : length ds ≤ length cs). h)
    (cases_lt (length cs) (length ds))

-- so they are the image of one list of cases
pub one_list : (bytes : List ℕ) (cs ds : List CaseValue) → ImageOf bytes cs → ImageOf bytes ds → ds ≡ cs
one_list bytes cs ds i j =
    let e : length ds ≡ length cs = let a = no_more bytes cs ds i j in let b = no_more bytes ds cs j i in omega arith in
    sym (cases_again bytes ds j (length ds) refl) ∙ cases_again bytes cs i (length ds) e
