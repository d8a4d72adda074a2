-- The fields of a fit case give that case again.
use Rattle.std.proofs.Common.{◌≡◌, ℕ, true, false, eqb, List, [], ◌∷◌, ◌++◌, is_some, IfSome, Some, None, Option, sym, refl, ap, ◌∙◌, ⊎_elim}
use Rattle.std.proofs.lemmas.Bool.{eqb-true, cases_Bool, true≢false}
use Rattle.octets.specs.Bytes.{kept, read_byte}
use Rattle.block.specs.Fields.{FieldValue, value_of}
use Rattle.block.specs.Following.{given}
use Rattle.block.proofs.Chaining.{given-some}
use Rattle.values.specs.Codes.{member_code, read_member_code, uetr, read_uetr}
use Rattle.values.specs.Texts.{end_to_end, read_end_to_end}
use Rattle.values.specs.Amounts.{amount, read_amount, amount_bytes}
use Rattle.values.specs.Identifiers.{identifier, read_identifier}
use Rattle.values.proofs.Amounts.{reads_back}
use Rattle.items.specs.Items.{item_in, byte_in, member_code_in, uetr_in, end_to_end_in, amount_in}
use Rattle.cases.specs.declared.case.OriginalKind.{OriginalKind}
use Rattle.cases.specs.declared.case.OriginalKind.TheVariants.{CustomerTransfer, InstitutionTransfer, Request}
use Rattle.cases.specs.Cases.{SubjectValue, request, recall, StateValue, opened, pending, agreed, declined, withdrawn, CaseValue}
use Rattle.cases.specs.Numbers.{subject_number, original_number, original_of, state_number, closing_of, state_of}
use Rattle.cases.specs.Fitness.{FitSubject, Fit}
use Rattle.coding.specs.CaseFields.{original_fields, closing_fields, state_fields, transaction_fields, case_fields}
use Rattle.coding.specs.Decoding.{formed_identifier_in, name_in, original_in, subject_by, subject_in, state_in, case_in}

-- Fields that are passed over in the search for a tag.

past_original : (t : ℕ) (s : SubjectValue) (fs : List FieldValue) → eqb 7 t ≡ false → eqb 8 t ≡ false → value_of t (original_fields s ++ fs) ≡ value_of t fs
past_original t request fs a b = refl
past_original t (recall kind id) fs a b = rw (a, b)

past_closing : (t : ℕ) (o : Option (List ℕ)) (fs : List FieldValue) → eqb 13 t ≡ false → value_of t (closing_fields o ++ fs) ≡ value_of t fs
past_closing t None fs a = refl
past_closing t (Some id) fs a = rw a

-- Values that are found, read.

module _ (fs : List FieldValue) where
  item_found : {X : Type 0} (reading : List ℕ → Option X) (t : ℕ) (bs : List ℕ) (x : X) → value_of t fs ≡ Some bs → reading bs ≡ Some x → item_in reading t fs ≡ Some x
  item_found reading t bs x e f = ap (λ o. given o reading) e ∙ f

  byte_found : (t n : ℕ) → value_of t fs ≡ Some (n ∷ []) → byte_in t fs ≡ Some n
  byte_found t n e = item_found read_byte t (n ∷ []) n e refl

  identifier_found : (t : ℕ) (id : List ℕ) → value_of t fs ≡ Some id → identifier id ≡ true → formed_identifier_in t fs ≡ Some id
  identifier_found t id e f = item_found read_identifier t id id e (ap (λ b. kept b id) f)

  closing_found : (o : Option (List ℕ)) → value_of 13 fs ≡ o → IfSome o (λ id. identifier id ≡ true) → formed_identifier_in 13 fs ≡ o
  closing_found None e f = ap (λ o. given o read_identifier) e
  closing_found (Some id) e f = identifier_found 13 id e f

  code_found : (t : ℕ) (code : List ℕ) → value_of t fs ≡ Some code → member_code code ≡ true → member_code_in t fs ≡ Some code
  code_found t code e f = item_found read_member_code t code code e (ap (λ b. kept b code) f)

  uetr_found : (bs : List ℕ) → value_of 16 fs ≡ Some bs → uetr bs ≡ true → uetr_in fs ≡ Some bs
  uetr_found bs e f = item_found read_uetr 16 bs bs e (ap (λ b. kept b bs) f)

  text_found : (bs : List ℕ) → value_of 17 fs ≡ Some bs → end_to_end bs ≡ true → end_to_end_in fs ≡ Some bs
  text_found bs e f = item_found read_end_to_end 17 bs bs e (ap (λ b. kept b bs) f)

  amount_found : (k : ℕ) → value_of 18 fs ≡ Some (amount_bytes k) → amount k ≡ true → amount_in fs ≡ Some k
  amount_found k e f = item_found read_amount 18 (amount_bytes k) k e (reads_back k f)

-- Numbers that are known.

state_again : (s : StateValue) → state_of (state_number s) (closing_of s) ≡ Some s
state_again opened = refl
state_again pending = refl
state_again (agreed id) = refl
state_again (declined id) = refl
state_again (withdrawn id) = refl

kind_again : (n : ℕ) → is_some (original_of n) ≡ true → (k : OriginalKind) × (original_of n ≡ Some k) × (original_number k ≡ n)
kind_again n e =
    ⊎_elim (λ (a : eqb n 8 ≡ true). (CustomerTransfer, rw a, sym (eqb-true n 8 a)))
    (λ (a : eqb n 8 ≡ false).
    ⊎_elim (λ (b : eqb n 9 ≡ true). (InstitutionTransfer, rw (a, b), sym (eqb-true n 9 b)))
    (λ (b : eqb n 9 ≡ false).
    ⊎_elim (λ (d : eqb n 13 ≡ true). (Request, rw (a, b, d), sym (eqb-true n 13 d)))
    (λ (d : eqb n 13 ≡ false). absurd (true≢false (sym e ∙ rw (a, b, d))))
    (cases_Bool (eqb n 13)))
    (cases_Bool (eqb n 9)))
    (cases_Bool (eqb n 8))

-- The case, part by part.

module _ (c : CaseValue) (f : Fit c) where
  -- the value of a tag behind the state
  behind : (t : ℕ) → eqb 1 t ≡ false → eqb 2 t ≡ false → eqb 4 t ≡ false → eqb 5 t ≡ false → eqb 7 t ≡ false → eqb 8 t ≡ false → eqb 12 t ≡ false → eqb 13 t ≡ false → value_of t (case_fields c) ≡ value_of t (transaction_fields c)
  unfolding case_fields
  behind t a1 a2 a4 a5 a7 a8 a12 a13 =
      rw (a1, a2, a4, a5)
      (past_original t c.subject (state_fields c.state ++ transaction_fields c) a7 a8
      ∙ rw a12 (past_closing t (closing_of c.state) (transaction_fields c) a13))

  pub uetr_value : value_of 16 (case_fields c) ≡ Some c.name.uetr
  uetr_value = behind 16 refl refl refl refl refl refl refl refl

  pub identifier_value : value_of 2 (case_fields c) ≡ Some c.name.identifier
  unfolding case_fields
  identifier_value = refl

  name_again : name_in (case_fields c) ≡ Some c.name
  name_again =
      given-some _ _ _ (sym (identifier_found (case_fields c) 2 c.name.identifier identifier_value f.identifier))
      ∙ given-some _ _ _ (sym (uetr_found (case_fields c) c.name.uetr uetr_value f.uetr))

  state_value : value_of 12 (case_fields c) ≡ Some (state_number c.state ∷ [])
  unfolding case_fields
  state_value = past_original 12 c.subject (state_fields c.state ++ transaction_fields c) refl refl

  closing_value : value_of 13 (case_fields c) ≡ closing_of c.state
  unfolding case_fields
  closing_value = past_original 13 c.subject (state_fields c.state ++ transaction_fields c) refl refl ∙ last (closing_of c.state)
    where
      last : (o : Option (List ℕ)) → value_of 13 (closing_fields o ++ transaction_fields c) ≡ o
      last None = refl
      last (Some id) = refl

  state_found : state_in (case_fields c) ≡ Some c.state
  state_found =
      given-some _ _ _ (sym (byte_found (case_fields c) 12 (state_number c.state) state_value))
      ∙ ap (state_of (state_number c.state)) (closing_found (case_fields c) (closing_of c.state) closing_value f.closing)
      ∙ state_again c.state

  subject_value : value_of 1 (case_fields c) ≡ Some (subject_number c.subject ∷ [])
  unfolding case_fields
  subject_value = refl

  -- of the fields behind those of the opening, the first two are the original's, where there is one
  original_values : (kind : ℕ) (id : List ℕ) → c.subject ≡ recall kind id → (value_of 7 (case_fields c) ≡ Some (kind ∷ [])) × (value_of 8 (case_fields c) ≡ Some id)
  unfolding case_fields
  original_values kind id e =
      let rest = state_fields c.state ++ transaction_fields c in
      (ap (λ s. value_of 7 (original_fields s ++ rest)) e, ap (λ s. value_of 8 (original_fields s ++ rest)) e)

  original_found : (kind : ℕ) (id : List ℕ) → c.subject ≡ recall kind id → FitSubject (recall kind id) → original_in (case_fields c) ≡ Some (recall kind id)
  original_found kind id e g =
      let v = original_values kind id e in
      let k = kind_again kind g.0 in
      given-some _ _ _ (sym (byte_found (case_fields c) 7 kind v.0))
      ∙ given-some _ _ _ (sym k.1)
      ∙ given-some _ _ _ (sym (identifier_found (case_fields c) 8 id v.1 g.1))
      ∙ ap (λ n. Some (recall n id)) k.2

  subject_found : subject_in (case_fields c) ≡ Some c.subject
  subject_found = given-some _ _ _ (sym (byte_found (case_fields c) 1 (subject_number c.subject) subject_value)) ∙ go c.subject refl f.subject
    where
      go : (s : SubjectValue) → c.subject ≡ s → FitSubject s → subject_by (case_fields c) (subject_number s) ≡ Some s
      go request e g = refl
      go (recall kind id) e g = original_found kind id e g

  code_values : (value_of 4 (case_fields c) ≡ Some c.opener) × (value_of 5 (case_fields c) ≡ Some c.assignee)
  unfolding case_fields
  code_values = (refl, refl)

  -- the fields of a fit case give the case
  pub case_again : case_in (case_fields c) ≡ Some c
  case_again =
      let fs = case_fields c in
      given-some _ _ _ (sym name_again)
      ∙ given-some _ _ _ (sym subject_found)
      ∙ given-some _ _ _ (sym (text_found fs c.end_to_end (behind 17 refl refl refl refl refl refl refl refl) f.end_to_end))
      ∙ given-some _ _ _ (sym (amount_found fs c.amount (behind 18 refl refl refl refl refl refl refl refl) f.amount))
      ∙ given-some _ _ _ (sym (code_found fs 4 c.opener code_values.0 f.opener))
      ∙ given-some _ _ _ (sym (code_found fs 5 c.assignee code_values.1 f.assignee))
      ∙ given-some _ _ _ (sym state_found)
