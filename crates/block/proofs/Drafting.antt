-- A block while it is written: with no field, with one field more, and with its check.
use Rattle.std.proofs.Common.{◌≡◌, ◌≢◌, ℕ, ◌+◌, ◌/◌, ◌%◌, ◌<◌, ◌≤◌, true, List, [], ◌∷◌, ◌++◌, length, get_or, take, drop, set, replicate, Ok, sym, refl, ap, ◌∙◌, arith}
use Rattle.std.proofs.lemmas.List.{append_assoc, length-append, length-drop, get_or-replicate, get_or_at, get_or-append-add, get_or-set_other, length-take-le, set_at, take_all, take_at, drop_at, take-append-drop, length-set, take-set-le}
use Rattle.tags.specs.Tags.{listed}
use Rattle.block.specs.Fields.{FieldValue, Legal, encoded, fields_of, last_tag}
use Rattle.block.specs.Block.{padded, weighted_sum, check, closed, block_of}
use Rattle.block.specs.Reading.{layout, reading}
use Rattle.block.specs.Sound.{Sound}
use Rattle.block.proofs.Encoding.{field_bytes, encoded-push, last_tag-push, Legal-push, encoded_bound-push, encoded_bound}
use Rattle.block.proofs.Laying.{length-padded, appended_bytes}
use Rattle.block.proofs.Laws.{laid_out, layout_holds, layout_fields_of, reads_back, two_ends}

-- a block that is laid out as these fields is sound
sound_from : (b : List ℕ) (last : ℕ) (fs : List FieldValue) → length b ≡ 512 → layout b ≡ Ok fs → last < 509 → get_or b last 0 ≡ last_tag 0 fs → (get_or b last 0 ≢ 0 → last + (2 + get_or b (last + 1) 0) ≡ length (encoded fs)) → Sound b last
sound_from b last fs n l h t e =
    let q : fs ≡ fields_of b = sym (layout_fields_of b fs n l) in
    (n, l ∙ ap Ok q, h, t ∙ ap (last_tag 0) q, λ z. e z ∙ ap (λ x. length (encoded x)) q)

-- zeros are sound, wherever a field stood
pub zeros_sound : (last : ℕ) → last < 509 → Sound (replicate 512 0) last
unfolding padded
zeros_sound last h =
    let z = get_or-replicate 512 last 0 0 (omega arith) in
    sound_from (replicate 512 0) last [] refl (laid_out (replicate 512 0) [] refl tt) h z (λ n. absurd (n z))

pub zeros_empty : fields_of (replicate 512 0) ≡ []
unfolding padded
zeros_empty = layout_fields_of (replicate 512 0) [] refl (laid_out (replicate 512 0) [] refl tt)

-- no field has the tag 0
last_tag-rises : (p : ℕ) (fs : List FieldValue) → Legal p fs → p ≤ last_tag p fs
last_tag-rises p [] l = omega arith
last_tag-rises p (f ∷ fs) l = omega (arith, last_tag-rises f.tag fs l.2, l.0)

no_field : (fs : List FieldValue) → Legal 0 fs → last_tag 0 fs ≡ 0 → length (encoded fs) ≡ 0
no_field [] l e = refl
no_field (f ∷ fs) l e = absurd (omega (arith, last_tag-rises f.tag fs l.2, l.0))

module _ (b : List ℕ) (last : ℕ) (s : Sound b last) where
  pub parts : (take 510 b ≡ padded 510 (encoded (fields_of b))) × Legal 0 (fields_of b)
  parts = layout_holds b (fields_of b) s.0 s.1

  -- a zero where the last field would stand: there is none
  pub end-none : get_or b last 0 ≡ 0 → length (encoded (fields_of b)) ≡ 0
  end-none z = no_field (fields_of b) parts.1 (sym s.3 ∙ z)

  -- one field more
  module _ (t : ℕ) (v : List ℕ) (a : ℕ) (n : a ≡ length (encoded (fields_of b))) (h : last_tag 0 (fields_of b) < t) (k : listed t (length v) ≡ true) where
    pub fits : a + (2 + length v) ≤ 314
    fits = omega (arith, encoded_bound-push (fields_of b) t v parts.1 h k)

    abbrev more : List FieldValue
    more = fields_of b ++ record { tag = t; value = v } ∷ []

    abbrev laid : List ℕ
    laid = take a b ++ field_bytes t v ++ drop (a + (2 + length v)) b

    laid-is : laid ≡ padded 510 (encoded more) ++ drop 510 b
    laid-is = appended_bytes b (drop 510 b) a (fields_of b) t v (sym (take-append-drop 510 b) ∙ ap (λ x. x ++ drop 510 b) parts.0) n (omega (arith, fits))

    more-legal : Legal 0 more
    more-legal = Legal-push t v 0 (fields_of b) parts.1 h k

    padded-long : length (padded 510 (encoded more)) ≡ 510
    padded-long = length-padded 510 (encoded more) (omega (arith, encoded_bound more more-legal))

    pub laid-check : drop 510 laid ≡ drop 510 b
    laid-check = ap (drop 510) laid-is ∙ drop_at (padded 510 (encoded more)) (drop 510 b) 510 padded-long

    laid-layout : layout laid ≡ Ok more
    laid-layout = laid_out laid more (ap (take 510) laid-is ∙ take_at (padded 510 (encoded more)) (drop 510 b) 510 padded-long) more-legal

    laid-long : length laid ≡ 512
    laid-long = omega (arith, ap length laid-is, length-append (padded 510 (encoded more)) (drop 510 b), padded-long, length-drop 510 b, s.0)

    pub laid-fields : fields_of laid ≡ more
    laid-fields = layout_fields_of laid more laid-long laid-layout

    laid-at : laid ≡ take a b ++ (field_bytes t v ++ drop (a + (2 + length v)) b)
    laid-at = append_assoc (take a b) (field_bytes t v) (drop (a + (2 + length v)) b)

    pub laid-sound : Sound laid a
    laid-sound =
        let f = fits in
        let w : length (take a b) ≡ a = length-take-le a b (omega (arith, s.0)) in
        let rest = v ++ drop (a + (2 + length v)) b in
        let g : get_or laid a 0 ≡ t = ap (λ x. get_or x a 0) laid-at ∙ get_or_at (take a b) t (length v ∷ rest) 0 a w in
        let l : get_or laid (a + 1) 0 ≡ length v =
        ap (λ x. get_or x (a + 1) 0) laid-at
        ∙ ap (λ i. get_or (take a b ++ t ∷ length v ∷ rest) (i + 1) 0) (sym w)
        ∙ get_or-append-add (take a b) (t ∷ length v ∷ rest) 1 0 in
        sound_from laid a more laid-long laid-layout (omega (arith, f)) (g ∙ sym (last_tag-push t v 0 (fields_of b)))
        (λ _. omega (arith, l, n, ap length (encoded-push t v (fields_of b)), length-append (encoded (fields_of b)) (field_bytes t v)))

  -- the two bytes of the check behind the body
  module _ (u w : ℕ) (hi : u ≡ check b / 256) (lo : w ≡ check b % 256) where
    pub closed-is : set (set b 510 u) 511 w ≡ block_of (fields_of b)
    unfolding block_of closed check
    closed-is =
        let p = padded 510 (encoded (fields_of b)) in
        let f = encoded_bound (fields_of b) parts.1 in
        let m : length p ≡ 510 = length-padded 510 (encoded (fields_of b)) (omega arith) in
        let y : check b ≡ check p = ap (λ z. weighted_sum 0 z % 65521) (parts.0 ∙ sym (take_all 510 p (omega arith))) in
        let r : length (p ++ u ∷ []) ≡ 511 = simp length-append (omega arith) in
        ap (λ z. set (set z 510 u) 511 w) (two_ends b s.0 ∙ ap (λ z. z ++ get_or b 510 0 ∷ get_or b 511 0 ∷ []) parts.0)
        ∙ ap (λ z. set z 511 w) (set_at p (get_or b 510 0) (get_or b 511 0 ∷ []) u 510 m ∙ sym (append_assoc p (u ∷ []) (get_or b 511 0 ∷ [])))
        ∙ set_at (p ++ u ∷ []) (get_or b 511 0) [] w 511 r
        ∙ append_assoc p (u ∷ []) (w ∷ [])
        ∙ ap (λ z. p ++ z ∷ w ∷ []) (hi ∙ ap (λ n. n / 256) y)
        ∙ ap (λ z. p ++ check p / 256 ∷ z ∷ []) (lo ∙ ap (λ n. n % 256) y)

    pub closed-reads : reading (set (set b 510 u) 511 w) ≡ Ok (fields_of b)
    closed-reads = ap reading closed-is ∙ reads_back (fields_of b) parts.1

    pub closed-sound : Sound (set (set b 510 u) 511 w) last
    closed-sound =
        let same : (i : ℕ) → i < 510 → get_or (set (set b 510 u) 511 w) i 0 ≡ get_or b i 0 =
        λ i h. get_or-set_other (set b 510 u) 511 i w 0 (omega arith) ∙ get_or-set_other b 510 i u 0 (omega arith) in
        let n : length (set (set b 510 u) 511 w) ≡ 512 = length-set (set b 510 u) 511 w ∙ length-set b 510 u ∙ s.0 in
        let e : take 510 (set (set b 510 u) 511 w) ≡ take 510 b = take-set-le 510 (set b 510 u) 511 w (omega arith) ∙ take-set-le 510 b 510 u (omega arith) in
        let g = same last (omega (arith, s.2)) in
        let k = same (last + 1) (omega (arith, s.2)) in
        sound_from (set (set b 510 u) 511 w) last (fields_of b) n (laid_out (set (set b 510 u) 511 w) (fields_of b) (e ∙ parts.0) parts.1) s.2 (g ∙ s.3)
        (λ z. ap (λ x. last + (2 + x)) k ∙ s.4 (rw g at z))
