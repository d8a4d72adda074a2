-- Bytes that are the image of cases stay the image of the cases that opening and changing leave.
use Rattle.std.proofs.Common.{◌≡◌, ℕ, suc, ◌+◌, ◌-◌, ◌*◌, ◌/◌, ◌<◌, false, List, [], ◌∷◌, ◌++◌, map, length, take, drop, set, replicate, is_some, Some, sym, refl, ap, ◌∙◌, subst, add-one, arith}
use Rattle.std.specs.List.{slice_get, All}
use Rattle.std.specs.Simd.{first_chunks}
use Rattle.std.proofs.lemmas.List.{append_assoc, length-map, length-set, length_push, map-set, map_push, set_at, set_split, set-append_left}
use Rattle.std.proofs.lemmas.List.Elements.{All-set, All-push, All-same}
use Rattle.std.proofs.lemmas.Option.{slice_get_within}
use Rattle.table.specs.Lists.{alter_at}
use Rattle.table.proofs.Bridges.{alter_split, map-alter}
use Rattle.cases.specs.Cases.{StateValue, CaseValue, with_state}
use Rattle.cases.specs.Fitness.{Fit}
use Rattle.books.specs.Books.{place_of, changed, names, Apart}
use Rattle.books.proofs.Naming.{apart_more}
use Rattle.coding.specs.CaseFields.{case_block}
use Rattle.coding.proofs.CaseBlocks.{length-case_block}
use Rattle.image.specs.Image.{fit_length, ImageOf}
use Rattle.image.proofs.Chunks.{chunks-written}
use Rattle.image.proofs.Images.{blank, image_blocks, whole_image, image_from_blocks, image_length, blocks_from_image}

-- altering what stands at a place sets it there
alter_set : {X : Type 0} (f : X → X) (xs : List X) (i : ℕ) (x : X) → slice_get xs i ≡ Some x → alter_at i f xs ≡ set xs i (f x)
alter_set f xs i x e = alter_split f xs i x e ∙ rw add-one (sym (set_split xs i (f x) (slice_get_within xs i x e)))

-- one more case
pub blocks-opened : (n : ℕ) (cs : List CaseValue) (d : CaseValue) → length cs < n → set (image_blocks n cs) (length cs) (case_block d) ≡ image_blocks n (cs ++ d ∷ [])
blocks-opened n cs d h =
    let k = n - length (cs ++ d ∷ []) in
    let m = length_push cs d in
    let z : n - length cs ≡ suc k = omega arith in
    ap (λ j. set (map case_block cs ++ replicate j blank) (length cs) (case_block d)) z
    ∙ set_at (map case_block cs) blank (replicate k blank) (case_block d) (length cs) (length-map cs case_block)
    ∙ sym (append_assoc (map case_block cs) (case_block d ∷ []) (replicate k blank))
    ∙ ap (λ r. r ++ replicate k blank) (sym (map_push case_block cs d))

-- a case that is set
blocks-set : (n : ℕ) (cs : List CaseValue) (i : ℕ) (d : CaseValue) → i < length cs → set (image_blocks n cs) i (case_block d) ≡ image_blocks n (set cs i d)
blocks-set n cs i d h =
    let m = length-map cs case_block in
    set-append_left (map case_block cs) (replicate (n - length cs) blank) i (case_block d) (omega arith)
    ∙ ap (λ r. r ++ replicate (n - length cs) blank) (sym (map-set case_block cs i d))
    ∙ ap (λ k. map case_block (set cs i d) ++ replicate (n - k) blank) (sym (length-set cs i d))

-- bytes with a block written at the place i
abbrev pub with_block : List ℕ → ℕ → List ℕ → List ℕ
with_block bytes i block = take (512 * i) bytes ++ (block ++ drop (512 * i + 512) bytes)

-- the block of a case is written into bytes that have the blocks of an image
pub blocks-written : (n i : ℕ) (bytes : List ℕ) (cs : List CaseValue) (d : CaseValue) → length bytes ≡ n * 512 → first_chunks 512 n bytes ≡ image_blocks n cs → Fit d → i < n → first_chunks 512 n (with_block bytes i (case_block d)) ≡ set (image_blocks n cs) i (case_block d)
blocks-written n i bytes cs d l e f h = chunks-written 512 n i (512 * i) bytes (case_block d) (omega arith) h (omega arith) (length-case_block d f) ∙ ap (λ bs. set bs i (case_block d)) e

module _ (bytes : List ℕ) (cs : List CaseValue) (s : ImageOf bytes cs) (more : List ℕ) (long : length more ≡ length bytes) where
  remade : (i : ℕ) (d : CaseValue) (ds : List CaseValue) → Fit d → i < length bytes / 512 → more ≡ with_block bytes i (case_block d) → All Fit ds → Apart (names ds) → set (image_blocks (length bytes / 512) cs) i (case_block d) ≡ image_blocks (length bytes / 512) ds → ImageOf more ds
  remade i d ds f h e a p q =
      let n = length bytes / 512 in
      image_from_blocks more ds (ap fit_length long ∙ image_length bytes cs s) a p
      (ap (λ k. first_chunks 512 (k / 512) more) long
      ∙ ap (first_chunks 512 n) e
      ∙ blocks-written n i bytes cs d (whole_image bytes cs s) (blocks_from_image bytes cs s) f h
      ∙ q
      ∙ ap (λ k. image_blocks (k / 512) ds) (sym long))

  pub opened_image : (d : CaseValue) → Fit d → length cs < length bytes / 512 → is_some (place_of d.name cs) ≡ false → more ≡ with_block bytes (length cs) (case_block d) → ImageOf more (cs ++ d ∷ [])
  opened_image d f h q e =
      remade (length cs) d (cs ++ d ∷ []) f h e (All-push Fit cs d s.fit f)
      (apart_more cs d s.apart q)
      (blocks-opened (length bytes / 512) cs d h)

  pub changed_image : (t : StateValue) (i : ℕ) (c : CaseValue) → Fit (with_state t c) → slice_get cs i ≡ Some c → more ≡ with_block bytes i (case_block (with_state t c)) → ImageOf more (changed i t cs)
  changed_image t i c f q e =
      let h = slice_get_within cs i c q in
      let w = s.within in
      let same = alter_set (with_state t) cs i c q in
      remade i (with_state t c) (changed i t cs) f (omega arith) e
      (All-same Fit (changed i t cs) (set cs i (with_state t c)) same (All-set Fit cs i (with_state t c) f s.fit))
      (subst Apart (sym (map-alter (λ (k : CaseValue). k.name) (with_state t) cs i (λ k. refl))) s.apart)
      (blocks-set (length bytes / 512) cs i (with_state t c) h ∙ ap (image_blocks (length bytes / 512)) (sym same))
