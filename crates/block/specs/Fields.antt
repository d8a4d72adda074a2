-- Fields, and the bytes that they are written as.
use Rattle.std.specs.Prelude.{◌≡◌, ℕ, zero, suc, ◌<◌, true, cond, List, [], ◌∷◌, ◌++◌, length, take, drop, Some, None, Option, ◌==◌}
use Rattle.tags.specs.Tags.{listed}

-- a field: the number of its tag and the bytes of its value
pub record FieldValue : Type 0 where
  pub tag : ℕ
  pub value : List ℕ

-- the tags rise, from above p on, and each is listed with the length of its value
abbrev pub Legal : ℕ → List FieldValue → Type 0
Legal p [] = Unit {0}
Legal p (f ∷ fs) = (p < f.tag) × (listed f.tag (length f.value) ≡ true) × Legal f.tag fs

-- the tag of the last field, or p where there is none
abbrev pub last_tag : ℕ → List FieldValue → ℕ
last_tag p [] = p
last_tag p (f ∷ fs) = last_tag f.tag fs

-- the bytes of fields one after the other: of each its tag, its length and its value
abbrev pub encoded : List FieldValue → List ℕ
encoded [] = []
encoded (f ∷ fs) = f.tag ∷ length f.value ∷ (f.value ++ encoded fs)

-- the value of the first field with the tag t, if there is one
abbrev pub value_of : ℕ → List FieldValue → Option (List ℕ)
value_of t [] = None
value_of t (f ∷ fs) = cond (f.tag == t) (Some f.value) (value_of t fs)

-- the fields at the front of any bytes, up to a zero in a tag's place: at most n of them, whatever tags and lengths they have
abbrev pub parsed : ℕ → List ℕ → List FieldValue
parsed zero bs = []
parsed (suc n) [] = []
parsed (suc n) (t ∷ []) = []
parsed (suc n) (t ∷ l ∷ bs) = cond (t == 0) [] (record { tag = t; value = take l bs } ∷ parsed n (drop l bs))

-- all the fields at the front of any bytes
unfoldable pub fields_of : List ℕ → List FieldValue
fields_of bs = parsed (length bs) bs
