-- The steps of the two readers, at bytes as the code sees them.
use Rattle.std.proofs.Common.{◌≡◌, ℕ, zero, suc, ◌+◌, ◌-◌, ◌<◌, ◌≤◌, min, true, false, cond, ◌&&◌, eqb, ltb, leb, List, [], ◌∷◌, length, get_or, take, drop, Some, Ok, Err, sym, refl, ap, ◌∙◌, ⊎_elim, not-suc-le-zero, arith}
use Rattle.std.proofs.lemmas.List.{length-drop, take_rest, take_all, drop_all}
use Rattle.std.proofs.lemmas.Bool.{ne_eqb, eq-eqb, cases_Bool, cases_lt, lt-ltb, le-ltb, le-leb, lt-leb, and_from, and_left, and_right}
use Rattle.tags.specs.declared.faults.BlockFault.{BlockFault}
use Rattle.tags.specs.declared.faults.BlockFault.TheVariants.{BrokenLayout}
use Rattle.tags.specs.Tags.{listed}
use Rattle.block.specs.Fields.{fields_of, parsed, value_of}
use Rattle.block.specs.Reading.{Reading, led, blank, may_stand, scanned, fields_from, judged}

-- more fuel than there are bytes changes nothing
parsed_fuel : (n m : ℕ) (bs : List ℕ) → length bs ≤ n → length bs ≤ m → parsed n bs ≡ parsed m bs
parsed_fuel zero zero bs h k = refl
parsed_fuel zero (suc m) [] h k = refl
parsed_fuel zero (suc m) (x ∷ bs) h k = absurd (not-suc-le-zero h)
parsed_fuel (suc n) zero [] h k = refl
parsed_fuel (suc n) zero (x ∷ bs) h k = absurd (not-suc-le-zero k)
parsed_fuel (suc n) (suc m) [] h k = refl
parsed_fuel (suc n) (suc m) (t ∷ []) h k = refl
parsed_fuel (suc n) (suc m) (t ∷ l ∷ bs) h k =
    let d = length-drop l bs in
    ap (λ r. cond (eqb t 0) [] (record { tag = t; value = take l bs } ∷ r)) (parsed_fuel n m (drop l bs) (omega arith) (omega arith))

scanned_fuel : (n m at p : ℕ) (bs : List ℕ) → length bs ≤ n → length bs ≤ m → scanned n at p bs ≡ scanned m at p bs
scanned_fuel zero zero at p bs h k = refl
scanned_fuel zero (suc m) at p [] h k = refl
scanned_fuel zero (suc m) at p (x ∷ bs) h k = absurd (not-suc-le-zero h)
scanned_fuel (suc n) zero at p [] h k = refl
scanned_fuel (suc n) zero at p (x ∷ bs) h k = absurd (not-suc-le-zero k)
scanned_fuel (suc n) (suc m) at p [] h k = refl
scanned_fuel (suc n) (suc m) at p (t ∷ []) h k = refl
scanned_fuel (suc n) (suc m) at p (t ∷ l ∷ bs) h k =
    let d = length-drop l bs in
    ap (λ r. cond (eqb t 0) (blank at (t ∷ l ∷ bs)) (cond (may_stand p t l (length bs)) (led (record { tag = t; value = take l bs }) r) (Err (BrokenLayout at))))
    (scanned_fuel n m (at + (2 + l)) t (drop l bs) (omega arith) (omega arith))

-- the fields at the front of any bytes: none, or one and those behind it
pub fields_of-short : (xs : List ℕ) → length xs < 2 → fields_of xs ≡ []
unfolding fields_of
fields_of-short [] h = refl
fields_of-short (t ∷ []) h = refl
fields_of-short (t ∷ l ∷ bs) h = absurd (omega arith)

pub fields_of-end : (xs : List ℕ) → get_or xs 0 0 ≡ 0 → fields_of xs ≡ []
unfolding fields_of
fields_of-end [] e = refl
fields_of-end (t ∷ []) e = refl
fields_of-end (t ∷ l ∷ bs) e = rw (eq-eqb t 0 e)

fields_of-more : (xs : List ℕ) → 2 ≤ length xs → (get_or xs 0 0 ≡ 0 → ⊥) → fields_of xs ≡ record { tag = get_or xs 0 0; value = take (get_or xs 1 0) (drop 2 xs) } ∷ fields_of (drop (get_or xs 1 0) (drop 2 xs))
unfolding fields_of
fields_of-more [] h n = absurd (omega arith)
fields_of-more (t ∷ []) h n = absurd (omega arith)
fields_of-more (t ∷ l ∷ bs) h n =
    let d = length-drop l bs in
    rw (ne_eqb t 0 n) (ap (λ r. record { tag = t; value = take l bs } ∷ r) (parsed_fuel (suc (length bs)) (length (drop l bs)) (drop l bs) (omega arith) (omega arith)))

-- the fields from a byte on: none and zeros, one and those behind it, or a fault
module _ (at p : ℕ) where
  pub fields_from-short : (xs : List ℕ) → length xs < 2 → fields_from at p xs ≡ blank at xs
  unfolding fields_from
  fields_from-short [] h = refl
  fields_from-short (t ∷ []) h = refl
  fields_from-short (t ∷ l ∷ bs) h = absurd (omega arith)

  pub fields_from-end : (xs : List ℕ) → get_or xs 0 0 ≡ 0 → fields_from at p xs ≡ blank at xs
  unfolding fields_from
  fields_from-end [] e = refl
  fields_from-end (t ∷ []) e = refl
  fields_from-end (t ∷ l ∷ bs) e = rw (eq-eqb t 0 e)

  pub fields_from-more : (xs : List ℕ) → 2 ≤ length xs → (get_or xs 0 0 ≡ 0 → ⊥) → may_stand p (get_or xs 0 0) (get_or xs 1 0) (length (drop 2 xs)) ≡ true → fields_from at p xs ≡ led (record { tag = get_or xs 0 0; value = take (get_or xs 1 0) (drop 2 xs) }) (fields_from (at + (2 + get_or xs 1 0)) (get_or xs 0 0) (drop (get_or xs 1 0) (drop 2 xs)))
  unfolding fields_from
  fields_from-more [] h n f = absurd (omega arith)
  fields_from-more (t ∷ []) h n f = absurd (omega arith)
  fields_from-more (t ∷ l ∷ bs) h n f =
      let d = length-drop l bs in
      rw (ne_eqb t 0 n, f) (ap (led (record { tag = t; value = take l bs })) (scanned_fuel (suc (length bs)) (length (drop l bs)) (at + (2 + l)) t (drop l bs) (omega arith) (omega arith)))

  pub fields_from_fault : (xs : List ℕ) → 2 ≤ length xs → (get_or xs 0 0 ≡ 0 → ⊥) → may_stand p (get_or xs 0 0) (get_or xs 1 0) (length (drop 2 xs)) ≡ false → fields_from at p xs ≡ Err (BrokenLayout at)
  unfolding fields_from
  fields_from_fault [] h n f = absurd (omega arith)
  fields_from_fault (t ∷ []) h n f = absurd (omega arith)
  fields_from_fault (t ∷ l ∷ bs) h n f = rw (ne_eqb t 0 n, f)

-- the first byte that is not zero
pub blank_stops : (at : ℕ) (xs : List ℕ) (i : ℕ) → i < length xs → (get_or xs i 0 ≡ 0 → ⊥) → ((k : ℕ) → k < i → get_or xs k 0 ≡ 0) → blank at xs ≡ Err (BrokenLayout (at + i))
blank_stops at [] i h n z = absurd (omega arith)
blank_stops at (x ∷ xs) zero h n z = rw (ne_eqb x 0 n) (ap (λ m. Err (BrokenLayout m)) (omega arith))
blank_stops at (x ∷ xs) (suc i) h n z =
    rw (eq-eqb x 0 (z 0 (omega arith)))
    (blank_stops (at + 1) xs i (omega arith) n (λ k l. z (suc k) (omega arith)) ∙ ap (λ m. Err (BrokenLayout m)) (omega arith))

-- nothing but zeros
pub blank_ends : (at : ℕ) (xs : List ℕ) → ((k : ℕ) → k < length xs → get_or xs k 0 ≡ 0) → blank at xs ≡ Ok []
blank_ends at [] z = refl
blank_ends at (x ∷ xs) z = rw (eq-eqb x 0 (z 0 (omega arith))) (blank_ends (at + 1) xs (λ k l. z (suc k) (omega arith)))

-- no byte, no fault
pub fault_left : (at p : ℕ) (xs : List ℕ) (e : BlockFault) → fields_from at p xs ≡ Err e → 0 < length xs
unfolding fields_from
fault_left at p [] e q = absurd (let z : ◌≡◌ {A = ℕ} 0 1 = cc in omega arith)
fault_left at p (x ∷ xs) e q = omega arith

-- what the answer of a test for zeros says of the bytes
pub judged_fault : (v : Reading) (e : BlockFault) → Err e ≡ judged v → v ≡ Err e
judged_fault (Ok fs) e q = absurd (let z : ◌≡◌ {A = ℕ} 0 1 = cc in omega arith)
judged_fault (Err f) e q = let s : f ≡ e = cc in ap Err s

pub judged_blank : (at : ℕ) (bs : List ℕ) → Ok tt ≡ judged (blank at bs) → blank at bs ≡ Ok []
judged_blank at [] q = refl
judged_blank at (b ∷ bs) q =
    ⊎_elim (λ (t : eqb b 0 ≡ true). rw t (judged_blank (at + 1) bs (rw t at q)))
    (λ (t : eqb b 0 ≡ false). let e : Ok tt ≡ Err (BrokenLayout at) = rw t at q in absurd (let z : ◌≡◌ {A = ℕ} 0 1 = cc in omega arith))
    (cases_Bool (eqb b 0))

-- the bytes behind a tag and a length, as the pattern `[tag, len, tail @ ..]` has them
abbrev pub tail : List ℕ → List ℕ
tail xs = take (length xs - 2) (drop 2 xs)

-- a cut at a length that the bytes may not have
module _ (l : ℕ) (ys : List ℕ) where
  take_min : take (min l (length ys)) ys ≡ take l ys
  take_min =
      ⊎_elim (λ (g : l < length ys). let e : min l (length ys) ≡ l = omega arith in rw e)
      (λ (g : length ys ≤ l). let e : min l (length ys) ≡ length ys = omega arith in rw e (take_all (length ys) ys (omega arith) ∙ sym (take_all l ys g)))
      (cases_lt l (length ys))

  drop_min : drop (min l (length ys)) ys ≡ drop l ys
  drop_min =
      ⊎_elim (λ (g : l < length ys). let e : min l (length ys) ≡ l = omega arith in rw e)
      (λ (g : length ys ≤ l). let e : min l (length ys) ≡ length ys = omega arith in rw e (drop_all (length ys) ys (omega arith) ∙ sym (drop_all l ys g)))
      (cases_lt l (length ys))

-- a field is sought: it stands here, or the search goes on behind this one
module _ (xs : List ℕ) (tag n : ℕ) (h : 2 ≤ length xs) (z : get_or xs 0 0 ≡ 0 → ⊥) (m : n ≡ min (get_or xs 1 0) (length (tail xs))) where
  pub value_here : get_or xs 0 0 ≡ tag → Some (take n (tail xs)) ≡ value_of tag (fields_of xs)
  value_here e =
      ap Some (ap (λ k. take k (tail xs)) m ∙ take_min (get_or xs 1 0) (tail xs) ∙ ap (take (get_or xs 1 0)) (take_rest xs 2))
      ∙ sym (ap (value_of tag) (fields_of-more xs h z) ∙ rw (eq-eqb (get_or xs 0 0) tag e))

  pub value_behind : (get_or xs 0 0 ≡ tag → ⊥) → value_of tag (fields_of (drop n (tail xs))) ≡ value_of tag (fields_of xs)
  value_behind e =
      ap (λ ys. value_of tag (fields_of ys)) (ap (λ k. drop k (tail xs)) m ∙ drop_min (get_or xs 1 0) (tail xs) ∙ ap (drop (get_or xs 1 0)) (take_rest xs 2))
      ∙ sym (ap (value_of tag) (fields_of-more xs h z) ∙ rw (ne_eqb (get_or xs 0 0) tag e))

module _ (p t l room : ℕ) where
  pub stands : p < t → listed t l ≡ true → l ≤ room → may_stand p t l room ≡ true
  unfolding may_stand
  stands h e k = and_from (ltb p t) (listed t l && leb l room) (lt-ltb p t h) (and_from (listed t l) (leb l room) e (le-leb l room k))

  pub stands_low : t ≤ p → may_stand p t l room ≡ false
  unfolding may_stand
  stands_low h = and_left (ltb p t) (listed t l && leb l room) (le-ltb p t h)

  pub stands_unlisted : listed t l ≡ false → may_stand p t l room ≡ false
  unfolding may_stand
  stands_unlisted e = and_right (ltb p t) (listed t l && leb l room) (and_left (listed t l) (leb l room) e)

  pub stands_long : room < l → may_stand p t l room ≡ false
  unfolding may_stand
  stands_long h = and_right (ltb p t) (listed t l && leb l room) (and_right (listed t l) (leb l room) (lt-leb l room h))
