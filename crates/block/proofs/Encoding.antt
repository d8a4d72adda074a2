-- Fields and the bytes that they are written as: one field more, how many bytes they take, and how they are found again.
use Rattle.std.proofs.Common.{◌≡◌, ℕ, zero, suc, ◌+◌, ◌<◌, ◌≤◌, Bool, true, false, ◌&&◌, eqb, leb, List, [], ◌∷◌, ◌++◌, length, get_or, Some, None, Option, sym, refl, ap, ◌∙◌, ⊎_elim, not-suc-le-zero, arith, lit<}
use Rattle.std.proofs.lemmas.List.{append_assoc, append-nil, length-append, take_at, drop_at, get_or_past}
use Rattle.std.proofs.lemmas.Bool.{ne_eqb, leb-true, and_parts, cases_lt, false≢true}
use Rattle.tags.specs.declared.listing.Rule.{Rule}
use Rattle.tags.specs.Tags.{rules, rule_of, admitted, listed}
use Rattle.block.specs.Fields.{FieldValue, Legal, encoded, last_tag, parsed}

-- the bytes of one field
abbrev pub field_bytes : ℕ → List ℕ → List ℕ
field_bytes t v = t ∷ length v ∷ v

-- one field more
module _ (t : ℕ) (v : List ℕ) where
  pub encoded-push : (fs : List FieldValue) → encoded (fs ++ record { tag = t; value = v } ∷ []) ≡ encoded fs ++ field_bytes t v
  encoded-push [] = ap (λ x. t ∷ length v ∷ x) (append-nil v)
  encoded-push (f ∷ fs) =
      ap (λ x. f.tag ∷ length f.value ∷ x)
      (ap (λ x. f.value ++ x) (encoded-push fs) ∙ sym (append_assoc f.value (encoded fs) (field_bytes t v)))

  pub last_tag-push : (p : ℕ) (fs : List FieldValue) → last_tag p (fs ++ record { tag = t; value = v } ∷ []) ≡ t
  last_tag-push p [] = refl
  last_tag-push p (f ∷ fs) = last_tag-push f.tag fs

  pub Legal-push : (p : ℕ) (fs : List FieldValue) → Legal p fs → last_tag p fs < t → listed t (length v) ≡ true → Legal p (fs ++ record { tag = t; value = v } ∷ [])
  Legal-push p [] l h k = (h, k, tt)
  Legal-push p (f ∷ fs) l h k = (l.0, l.1, Legal-push f.tag fs l.2 h k)

-- the bytes that a field under this rule takes at most
abbrev cost : Option Rule → ℕ
cost None = 0
cost (Some r) = 2 + r.most

admitted_cost : (o : Option Rule) (n : ℕ) → admitted o n ≡ true → 2 + n ≤ cost o
admitted_cost None n e = absurd (false≢true e)
admitted_cost (Some r) n e = omega (arith, leb-true n r.most (and_parts (leb r.least n) (leb n r.most) e).1)

-- the bytes that fields with tags up to t take at most
abbrev room : ℕ → ℕ
room zero = 0
room (suc t) = room t + cost (rule_of (suc t))

room_mono : (p t : ℕ) → p ≤ t → room p ≤ room t
room_mono p zero h = let e : p ≡ 0 = omega arith in rw e (omega arith)
room_mono p (suc t) h =
    ⊎_elim (λ (l : p < suc t). omega (arith, room_mono p t (omega arith)))
    (λ (g : suc t ≤ p). let e : p ≡ suc t = omega arith in omega (arith, ap room e))
    (cases_lt p (suc t))

room_step : (p t n : ℕ) → p < t → listed t n ≡ true → room p + (2 + n) ≤ room t
unfolding listed
room_step p zero n h e = absurd (not-suc-le-zero h)
room_step p (suc t) n h e = omega (arith, room_mono p t (omega arith), admitted_cost (rule_of (suc t)) n e)

room_legal : (p : ℕ) (fs : List FieldValue) → Legal p fs → room p + length (encoded fs) ≤ room (last_tag p fs)
room_legal p [] l = omega arith
room_legal p (f ∷ fs) l =
    omega (arith, room_step p f.tag (length f.value) l.0 l.1, room_legal f.tag fs l.2, length-append f.value (encoded fs))

listed-tag : (t n : ℕ) → listed t n ≡ true → t < 23
unfolding listed
listed-tag t n e =
    ⊎_elim (λ (l : t < 23). l)
    (λ (g : 23 ≤ t). absurd (false≢true (sym (ap (λ o. admitted o n) (get_or_past rules t None g)) ∙ e)))
    (cases_lt t 23)

last_tag_below : (p : ℕ) (fs : List FieldValue) → p < 23 → Legal p fs → last_tag p fs < 23
last_tag_below p [] h l = h
last_tag_below p (f ∷ fs) h l = last_tag_below f.tag fs (listed-tag f.tag (length f.value) l.1) l.2

-- all listed fields together take 314 bytes
pub encoded_bound : (fs : List FieldValue) → Legal 0 fs → length (encoded fs) ≤ 314
encoded_bound fs l =
    let h : last_tag 0 fs ≤ 22 = omega (arith, last_tag_below 0 fs (lit< tt) l) in
    omega (arith, room_legal 0 fs l, room_mono (last_tag 0 fs) 22 h)

-- so there is room for each further field
pub encoded_bound-push : (fs : List FieldValue) (t : ℕ) (v : List ℕ) → Legal 0 fs → last_tag 0 fs < t → listed t (length v) ≡ true → length (encoded fs) + (2 + length v) ≤ 314
encoded_bound-push fs t v l h k =
    omega (arith, encoded_bound (fs ++ record { tag = t; value = v } ∷ []) (Legal-push t v 0 fs l h k), ap length (encoded-push t v fs), length-append (encoded fs) (field_bytes t v))

-- what holds of every rule holds of the rule of any tag
abbrev every_rule : (Option Rule → Bool) → List (Option Rule) → Bool
every_rule P [] = true
every_rule P (o ∷ os) = P o && every_rule P os

rule_at : (P : Option Rule → Bool) (os : List (Option Rule)) (t : ℕ) → P None ≡ true → every_rule P os ≡ true → P (get_or os t None) ≡ true
rule_at P [] t n e = n
rule_at P (o ∷ os) zero n e = (and_parts (P o) (every_rule P os) e).0
rule_at P (o ∷ os) (suc t) n e = rule_at P os t n (and_parts (P o) (every_rule P os) e).1

-- no value has more than 105 bytes, so that its length fits a byte
pub listed-length : (t n : ℕ) → listed t n ≡ true → n ≤ 105
unfolding listed
listed-length t n e =
    omega (arith, admitted_cost (rule_of t) n e, leb-true (cost (rule_of t)) 107 (rule_at (λ o. leb (cost o) 107) rules t refl refl))

-- fields before bytes that have none are found again
pub parsed-encoded : (p k : ℕ) (fs : List FieldValue) (ys : List ℕ) → ((j : ℕ) → parsed j ys ≡ []) → Legal p fs → length (encoded fs) ≤ k → parsed k (encoded fs ++ ys) ≡ fs
parsed-encoded p k [] ys o l h = o k
parsed-encoded p zero (f ∷ fs) ys o l h = absurd (not-suc-le-zero h)
parsed-encoded p (suc k) (f ∷ fs) ys o l h =
    let ne : eqb f.tag 0 ≡ false = ne_eqb f.tag 0 (λ e. omega (arith, l.0)) in
    let n = length-append f.value (encoded fs) in
    let le : length (encoded fs) ≤ k = omega arith in
    rw (ne, append_assoc f.value (encoded fs) ys, take_at f.value (encoded fs ++ ys) (length f.value) refl, drop_at f.value (encoded fs ++ ys) (length f.value) refl, parsed-encoded f.tag k fs ys o l.2 le)
