-- The fields of a block without a fault: those that its shape requires are there, and each holds a fit value.
use Rattle.std.proofs.Common.{◌≡◌, ℕ, Bool, true, false, cond, ◌&&◌, ◌||◌, eqb, List, [], ◌∷◌, length, is_some, Some, None, Option, sym, refl, ap, ◌∙◌, subst, ⊎_elim, arith}
use Rattle.std.proofs.lemmas.Bool.Decides.{nat_tests}
use Rattle.std.proofs.lemmas.Bool.{eqb-true, cases_Bool, cond-true, cond-false}
use Rattle.tags.specs.declared.listing.Tag.{Tag}
use Rattle.tags.specs.Tags.{number_of, listed}
use Rattle.block.specs.Fields.{FieldValue, Legal, value_of}
use Rattle.message.specs.declared.shapes.Slot.{Slot}
use Rattle.message.specs.declared.shapes.Slot.TheVariants.{Required, Optional}
use Rattle.values.specs.declared.kind.Kind.{Kind}
use Rattle.message.specs.Shapes.{slot_tag, is_required, shape, tag_fault, absent}
use Rattle.message.specs.Messages.{role, tags_fault}
use Rattle.message.specs.Fitness.{fits, field_fits, value_fault}
use Rattle.message.proofs.Passing.{field_fits_by_tag}

-- one of the slots requires the tag with the number n
abbrev demands : ℕ → List Slot → Bool
demands n [] = false
demands n (s ∷ ss) = is_required s && eqb (number_of (slot_tag s)) n || demands n ss

absent_none : (s : Slot) (after : Option ℕ) → absent s after ≡ None → (is_required s ≡ false) × (after ≡ None)
absent_none (Required t) after e = cc
absent_none (Optional t) after e = (refl, e)

-- a required tag has a value
with_value : (ss : List Slot) (fs : List FieldValue) (n : ℕ) → tag_fault ss fs ≡ None → demands n ss ≡ true → is_some (value_of n fs) ≡ true
with_value [] fs n e d = cc
with_value (s ∷ ss) [] n e d =
    let a = with_value ss [] n in
    grind (arith, nat_tests, absent_none)
with_value (s ∷ ss) (f ∷ fs) n e d =
    let a = with_value ss fs n in
    let b = with_value ss (f ∷ fs) n in
    grind (arith, nat_tests, absent_none)

-- block n of a message of this kind has to have the tag with the number t
abbrev pub demanded : Kind → ℕ → ℕ → Bool
demanded k n t = demands t (shape k (role n))

pub present : (k : Kind) (n : ℕ) (fs : List FieldValue) (t : ℕ) → tags_fault k n fs ≡ None → demanded k n t ≡ true → is_some (value_of t fs) ≡ true
present k n fs t e d = with_value (shape k (role n)) fs t e d

-- a value under this tag, if there is one, is fit and has a listed length
abbrev pub Fit : Tag → Option (List ℕ) → Type 0
Fit t None = Unit {0}
Fit t (Some v) = (fits t v ≡ true) × (listed (number_of t) (length v) ≡ true)

fit_first : (b : Bool) (after : Option ℕ) (t : ℕ) → cond b after (Some t) ≡ None → (b ≡ true) × (after ≡ None)
fit_first true after t e = (refl, e)
fit_first false after t e = cc

pub fit_value : (t : Tag) (p : ℕ) (fs : List FieldValue) → Legal p fs → value_fault fs ≡ None → Fit t (value_of (number_of t) fs)
fit_value t p [] l e = tt
fit_value t p (f ∷ fs) l e =
    let n = number_of t in
    let a = fit_first (field_fits f) (value_fault fs) f.tag e in
    ⊎_elim (λ (q : eqb f.tag n ≡ true).
    let y = eqb-true f.tag n q in
    let g : fits t f.value ≡ true = sym (field_fits_by_tag t f.value) ∙ ap (λ (m : ℕ). field_fits (record { tag = m; value = f.value })) (sym y) ∙ a.0 in
    let k : listed n (length f.value) ≡ true = ap (λ m. listed m (length f.value)) (sym y) ∙ l.1 in
    subst (Fit t) (sym (cond-true (eqb f.tag n) (Some f.value) (value_of n fs) q)) (g, k))
    (λ (q : eqb f.tag n ≡ false).
    subst (Fit t) (sym (cond-false (eqb f.tag n) (Some f.value) (value_of n fs) q)) (fit_value t f.tag fs l.2 a.1))
    (cases_Bool (eqb f.tag n))
