-- What is written reads back, and a block that reads is the only one with its fields.
use Rattle.std.proofs.Common.{◌≡◌, ℕ, zero, suc, ◌+◌, ◌-◌, ◌*◌, ◌/◌, ◌%◌, ◌<◌, ◌≤◌, true, false, ◌&&◌, eqb, ltb, leb, List, [], ◌∷◌, ◌++◌, length, get_or, take, drop, replicate, Ok, Err, sym, refl, ap, ◌∙◌, subst, ⊎_elim, not-suc-le-zero, div-add-mod', arith}
use lib.Arith.{digits_div, digits_mod}
use Rattle.std.proofs.lemmas.List.{append_assoc, length-append, length-replicate, length-take-le, take_at, drop_at, get_or_at, take_all, drop_all, drop_more, take-append-drop}
use Rattle.std.proofs.lemmas.Bool.{ne_eqb, eq-eqb, eqb-true, ltb-true, leb-true, and_parts, cases_Bool, cond-true}
use Rattle.tags.specs.declared.faults.BlockFault.TheVariants.{WrongCheck, BrokenLayout}
use Rattle.tags.specs.Tags.{listed}
use Rattle.block.specs.Fields.{FieldValue, Legal, encoded, fields_of, parsed}
use Rattle.block.specs.Block.{Block, padded, weighted_sum, check, checks, closed, block_of}
use Rattle.block.specs.Reading.{Reading, led, blank, may_stand, scanned, fields_from, layout, reading, OnlyForm}
use Rattle.block.proofs.Encoding.{encoded_bound, parsed-encoded}
use Rattle.block.proofs.Laying.{length-padded}
use Rattle.block.proofs.Scanning.{stands}

blank-zeros : (at z : ℕ) → blank at (replicate z 0) ≡ Ok []
blank-zeros at zero = refl
blank-zeros at (suc z) = blank-zeros (at + 1) z

scanned-zeros : (k at p z : ℕ) → scanned k at p (replicate z 0) ≡ Ok []
scanned-zeros zero at p z = blank-zeros at z
scanned-zeros (suc k) at p zero = refl
scanned-zeros (suc k) at p (suc zero) = refl
scanned-zeros (suc k) at p (suc (suc z)) = blank-zeros (at + 1 + 1) z

-- the bytes of legal fields, with zeros behind them, hold those fields
scanned-encoded : (k at p z : ℕ) (fs : List FieldValue) → Legal p fs → length (encoded fs) ≤ k → scanned k at p (encoded fs ++ replicate z 0) ≡ Ok fs
scanned-encoded k at p z [] l h = scanned-zeros k at p z
scanned-encoded zero at p z (f ∷ fs) l h = absurd (not-suc-le-zero h)
scanned-encoded (suc k) at p z (f ∷ fs) l h =
    let ne : eqb f.tag 0 ≡ false = ne_eqb f.tag 0 (λ e. omega (arith, l.0)) in
    let n = length-append f.value (encoded fs) in
    let le : length (encoded fs) ≤ k = omega arith in
    let m = length-append f.value (encoded fs ++ replicate z 0) in
    let g : may_stand p f.tag (length f.value) (length (f.value ++ (encoded fs ++ replicate z 0))) ≡ true =
    stands p f.tag (length f.value) (length (f.value ++ (encoded fs ++ replicate z 0))) l.0 l.1 (omega arith) in
    rw (ne, append_assoc f.value (encoded fs) (replicate z 0), g, take_at f.value (encoded fs ++ replicate z 0) (length f.value) refl, drop_at f.value (encoded fs ++ replicate z 0) (length f.value) refl, scanned-encoded k (at + (2 + length f.value)) f.tag z fs l.2 le)

module _ (body : List ℕ) (n : length body ≡ 510) where
  take-closed : take 510 (closed body) ≡ body
  unfolding closed
  take-closed = take_at body (check body / 256 ∷ check body % 256 ∷ []) 510 n

  check-closed : check (closed body) ≡ check body
  unfolding check
  check-closed = ap (λ x. weighted_sum 0 x % 65521) (take-closed ∙ sym (take_all 510 body (omega arith)))

  high_byte : get_or (closed body) 510 0 ≡ check body / 256
  unfolding closed
  high_byte = get_or_at body (check body / 256) (check body % 256 ∷ []) 0 510 n

  low_byte : get_or (closed body) 511 0 ≡ check body % 256
  unfolding closed
  low_byte =
      let m : length (body ++ check body / 256 ∷ []) ≡ 511 = simp length-append (omega arith) in
      ap (λ x. get_or x 511 0) (sym (append_assoc body (check body / 256 ∷ []) (check body % 256 ∷ [])))
      ∙ get_or_at (body ++ check body / 256 ∷ []) (check body % 256) [] 0 511 m

  checks-closed : checks (closed body) ≡ true
  unfolding checks
  checks-closed = eq-eqb _ _ (ap (λ x. x * 256 + get_or (closed body) 511 0) high_byte ∙ ap (λ x. check body / 256 * 256 + x) low_byte ∙ div-add-mod' (check body) 256 ∙ sym check-closed)

-- a block whose first 510 bytes are legal fields and zeros is laid out as those fields
pub laid_out : (b : List ℕ) (fs : List FieldValue) → take 510 b ≡ padded 510 (encoded fs) → Legal 0 fs → layout b ≡ Ok fs
unfolding layout fields_from padded
laid_out b fs e l =
    let s = encoded_bound fs l in
    let m = length-append (encoded fs) (replicate (510 - length (encoded fs)) 0) in
    ap (fields_from 0 0) e ∙ scanned-encoded (length (padded 510 (encoded fs))) 0 0 (510 - length (encoded fs)) fs l (omega arith)

-- legal fields are written as a block that reads as those fields
pub reads_back : (fs : List FieldValue) → Legal 0 fs → reading (block_of fs) ≡ Ok fs
unfolding reading block_of
reads_back fs l =
    let s = encoded_bound fs l in
    let n = length-padded 510 (encoded fs) (omega arith) in
    cond-true (checks (block_of fs)) _ _ (checks-closed (padded 510 (encoded fs)) n) ∙ laid_out (block_of fs) fs (take-closed (padded 510 (encoded fs)) n) l

-- bytes that hold fields are the bytes of those fields, which are legal, and z zeros
Holds : ℕ → List ℕ → List FieldValue → Type 0
Holds p bs fs = (z : ℕ) × (bs ≡ encoded fs ++ replicate z 0) × Legal p fs

-- a fault is no list of fields
never_fields : {P : Type 0} (e : Reading) (at : ℕ) (fs : List FieldValue) → e ≡ Err (BrokenLayout at) → e ≡ Ok fs → P
never_fields e at fs p q = absurd (let z : ◌≡◌ {A = ℕ} 0 1 = cc in omega arith)

blank_holds : (at : ℕ) (bs : List ℕ) (fs : List FieldValue) → blank at bs ≡ Ok fs → (fs ≡ []) × (bs ≡ replicate (length bs) 0)
blank_holds at [] fs e = (cc, refl)
blank_holds at (b ∷ bs) fs e =
    ⊎_elim (λ (t : eqb b 0 ≡ true). let r = blank_holds (at + 1) bs fs (rw t at e) in (r.0, let z = eqb-true b 0 t in rw z (ap (λ x. 0 ∷ x) r.1)))
    (λ (t : eqb b 0 ≡ false). let q : Err (BrokenLayout at) ≡ Ok fs = rw t at e in never_fields _ at fs refl q)
    (cases_Bool (eqb b 0))

led_holds : (f : FieldValue) (v : Reading) (fs : List FieldValue) → led f v ≡ Ok fs → (gs : List FieldValue) × (v ≡ Ok gs) × (fs ≡ f ∷ gs)
led_holds f (Ok gs) fs e = (gs, refl, cc)
led_holds f (Err at) fs e = absurd (let z : ◌≡◌ {A = ℕ} 0 1 = cc in omega arith)

stands_parts : (p t l room : ℕ) → may_stand p t l room ≡ true → (p < t) × (listed t l ≡ true) × (l ≤ room)
unfolding may_stand
stands_parts p t l room e =
    let a = and_parts (ltb p t) (listed t l && leb l room) e in
    let b = and_parts (listed t l) (leb l room) a.1 in
    (ltb-true p t a.0, b.0, leb-true l room b.1)

ended : (p : ℕ) (bs : List ℕ) (fs : List FieldValue) → (fs ≡ []) × (bs ≡ replicate (length bs) 0) → Holds p bs fs
unfolding Holds
ended p bs fs r = (length bs, rw r.0 r.1, rw r.0 tt)

grown : (p t l : ℕ) (bs : List ℕ) (gs : List FieldValue) → (p < t) × (listed t l ≡ true) × (l ≤ length bs) → Holds t (drop l bs) gs → Holds p (t ∷ l ∷ bs) (record { tag = t; value = take l bs } ∷ gs)
unfolding Holds
grown p t l bs gs a r =
    let n : length (take l bs) ≡ l = length-take-le l bs a.2 in
    let e : bs ≡ (take l bs ++ encoded gs) ++ replicate r.0 0 =
    sym (take-append-drop l bs) ∙ ap (λ x. take l bs ++ x) r.1 ∙ sym (append_assoc (take l bs) (encoded gs) (replicate r.0 0)) in
    (r.0, ap (λ x. t ∷ l ∷ x) e ∙ ap (λ x. t ∷ x ∷ ((take l bs ++ encoded gs) ++ replicate r.0 0)) (sym n), (a.0, ap (listed t) n ∙ a.1, r.2))

scanned_holds : (n at p : ℕ) (bs : List ℕ) (fs : List FieldValue) → scanned n at p bs ≡ Ok fs → Holds p bs fs
scanned_holds zero at p bs fs e = ended p bs fs (blank_holds at bs fs e)
scanned_holds (suc n) at p [] fs e = ended p [] fs (cc, refl)
scanned_holds (suc n) at p (t ∷ []) fs e = ended p (t ∷ []) fs (blank_holds at (t ∷ []) fs e)
scanned_holds (suc n) at p (t ∷ l ∷ bs) fs e =
    ⊎_elim (λ (z : eqb t 0 ≡ true). ended p (t ∷ l ∷ bs) fs (blank_holds at (t ∷ l ∷ bs) fs (sym (cond-true (eqb t 0) _ _ z) ∙ e)))
    (λ (z : eqb t 0 ≡ false).
    ⊎_elim (λ (y : may_stand p t l (length bs) ≡ true).
    let q = led_holds (record { tag = t; value = take l bs }) (scanned n (at + (2 + l)) t (drop l bs)) fs (rw (z, y) at e) in
    subst (Holds p (t ∷ l ∷ bs)) (sym q.2) (grown p t l bs q.0 (stands_parts p t l (length bs) y) (scanned_holds n (at + (2 + l)) t (drop l bs) q.0 q.1)))
    (λ (y : may_stand p t l (length bs) ≡ false). let q : Err (BrokenLayout at) ≡ Ok fs = rw (z, y) at e in never_fields _ at fs refl q)
    (cases_Bool (may_stand p t l (length bs))))
    (cases_Bool (eqb t 0))

-- the first 510 bytes of a block whose layout holds fields
pub layout_holds : (b : List ℕ) (fs : List FieldValue) → length b ≡ 512 → layout b ≡ Ok fs → (take 510 b ≡ padded 510 (encoded fs)) × Legal 0 fs
unfolding layout fields_from Holds padded
layout_holds b fs n e =
    let r = scanned_holds (length (take 510 b)) 0 0 (take 510 b) fs e in
    let m : length (take 510 b) ≡ 510 = length-take-le 510 b (omega arith) in
    let k = ap length r.1 ∙ length-append (encoded fs) (replicate r.0 0) in
    let y = length-replicate {A = ℕ} r.0 0 in
    let z : r.0 ≡ 510 - length (encoded fs) = omega arith in
    (r.1 ∙ ap (λ x. encoded fs ++ replicate x 0) z, r.2)

-- a block that reads has the check, and its layout holds the fields
pub reading_parts : (b : List ℕ) (fs : List FieldValue) → reading b ≡ Ok fs → (checks b ≡ true) × (layout b ≡ Ok fs)
unfolding reading
reading_parts b fs e =
    ⊎_elim (λ (t : checks b ≡ true). (t, sym (cond-true (checks b) _ _ t) ∙ e))
    (λ (t : checks b ≡ false). let q : Err WrongCheck ≡ Ok fs = rw t at e in absurd (let z : ◌≡◌ {A = ℕ} 0 1 = cc in omega arith))
    (cases_Bool (checks b))

-- a block by its body and its last two bytes
pub two_ends : (b : List ℕ) → length b ≡ 512 → b ≡ take 510 b ++ get_or b 510 0 ∷ get_or b 511 0 ∷ []
two_ends b n =
    sym (take-append-drop 510 b)
    ∙ ap (λ x. take 510 b ++ x)
    (drop_more b 510 0 (omega arith) ∙ ap (λ x. get_or b 510 0 ∷ x) (drop_more b 511 0 (omega arith) ∙ ap (λ x. get_or b 511 0 ∷ x) (drop_all 512 b (omega arith))))

-- a block that reads is the block that its fields are written as, and they are legal
pub reading_holds : (b : List ℕ) (fs : List FieldValue) → Block b → reading b ≡ Ok fs → (b ≡ block_of fs) × Legal 0 fs
unfolding checks check block_of closed
reading_holds b fs k e =
    let r = reading_parts b fs e in
    let f = layout_holds b fs k.0 r.1 in
    let p = padded 510 (encoded fs) in
    let s = encoded_bound fs f.1 in
    let n = length-padded 510 (encoded fs) (omega arith) in
    let c : check b ≡ check p = ap (λ x. weighted_sum 0 x % 65521) (f.0 ∙ sym (take_all 510 p (omega arith))) in
    let q : get_or b 510 0 * 256 + get_or b 511 0 ≡ check p = eqb-true _ _ r.0 ∙ c in
    let h : get_or b 510 0 ≡ check p / 256 = sym (digits_div (get_or b 510 0) (k.1 511)) ∙ ap (λ x. x / 256) q in
    let l : get_or b 511 0 ≡ check p % 256 = sym (digits_mod (get_or b 510 0) (k.1 511)) ∙ ap (λ x. x % 256) q in
    (two_ends b k.0 ∙ ap (λ x. x ++ get_or b 510 0 ∷ get_or b 511 0 ∷ []) f.0 ∙ ap (λ x. p ++ x ∷ get_or b 511 0 ∷ []) h ∙ ap (λ x. p ++ check p / 256 ∷ x ∷ []) l, f.1)

-- so no other block reads with its fields
pub only_form : (b : List ℕ) → Block b → OnlyForm b
only_form b h a fs k r s = (reading_holds a fs k s).0 ∙ sym (reading_holds b fs h r).0

parsed-zero : (xs : List ℕ) (j : ℕ) → parsed j (0 ∷ xs) ≡ []
parsed-zero xs zero = refl
parsed-zero [] (suc j) = refl
parsed-zero (x ∷ xs) (suc j) = refl

-- the fields of a block whose layout holds are those that are found at its front
pub layout_fields_of : (b : List ℕ) (fs : List FieldValue) → length b ≡ 512 → layout b ≡ Ok fs → fields_of b ≡ fs
unfolding padded fields_of
layout_fields_of b fs n r =
    let f = layout_holds b fs n r in
    let s = encoded_bound fs f.1 in
    let e = encoded fs in
    let xs = drop 510 b in
    let m : 510 - length e ≡ suc (509 - length e) = omega arith in
    let y : b ≡ e ++ 0 ∷ (replicate (509 - length e) 0 ++ xs) =
    sym (take-append-drop 510 b) ∙ ap (λ x. x ++ xs) f.0 ∙ append_assoc e (replicate (510 - length e) 0) xs ∙ ap (λ x. e ++ (replicate x 0 ++ xs)) m in
    let k = ap length y ∙ length-append e (0 ∷ (replicate (509 - length e) 0 ++ xs)) in
    ap (parsed (length b)) y ∙ parsed-encoded 0 (length b) fs (0 ∷ (replicate (509 - length e) 0 ++ xs)) (parsed-zero (replicate (509 - length e) 0 ++ xs)) f.1 (omega arith)

-- and so are those of a block that reads
pub reading_fields_of : (b : List ℕ) (fs : List FieldValue) → Block b → reading b ≡ Ok fs → fields_of b ≡ fs
reading_fields_of b fs k r = layout_fields_of b fs k.0 (reading_parts b fs r).1
