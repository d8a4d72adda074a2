-- The fields of a fit case may be written.
use Rattle.std.proofs.Common.{◌≡◌, ℕ, ◌<◌, true, ◌&&◌, eqb, leb, List, ◌++◌, length, IfSome, Some, None, Option, sym, refl, ap, ◌∙◌, ⊎_elim, lit<}
use Rattle.std.proofs.lemmas.Bool.{eqb-true, and_parts, cases_eq, true≢false}
use Rattle.octets.specs.Bytes.{every, is_printable}
use Rattle.tags.specs.Tags.{rule_of, admitted, listed}
use Rattle.block.specs.Fields.{Legal}
use Rattle.values.specs.Codes.{member_code, uetr}
use Rattle.values.specs.Texts.{end_to_end}
use Rattle.values.specs.Amounts.{amount_bytes}
use Rattle.values.specs.Identifiers.{identifier}
use Rattle.values.proofs.Identifiers.{wrong_length}
use Rattle.cases.specs.Cases.{SubjectValue, request, recall, CaseValue}
use Rattle.cases.specs.Numbers.{closing_of}
use Rattle.cases.specs.Fitness.{FitSubject, Fit}
use Rattle.coding.specs.CaseFields.{original_fields, closing_fields, state_fields, transaction_fields, case_fields}

-- How long fit values are.

pub identifier_length : (bs : List ℕ) → identifier bs ≡ true → length bs ≡ 20
identifier_length bs e = ⊎_elim (λ (h : length bs ≡ 20). h) (λ (h : length bs ≡ 20 → ⊥). absurd (true≢false (sym e ∙ wrong_length bs h))) (cases_eq (length bs) 20)

-- Listed with their lengths.

known : (t n : ℕ) → admitted (rule_of t) n ≡ true → listed t n ≡ true
unfolding listed
known t n e = e

of_length : (t n m : ℕ) → n ≡ m → admitted (rule_of t) m ≡ true → listed t n ≡ true
of_length t n m h e = ap (listed t) h ∙ known t m e

module _ (bs : List ℕ) where
  pub listed_identifier : (t : ℕ) → identifier bs ≡ true → admitted (rule_of t) 20 ≡ true → listed t (length bs) ≡ true
  listed_identifier t f e = of_length t (length bs) 20 (identifier_length bs f) e

  pub listed_code : (t : ℕ) → member_code bs ≡ true → admitted (rule_of t) 6 ≡ true → listed t (length bs) ≡ true
  listed_code t f e = of_length t (length bs) 6 (eqb-true (length bs) 6 (and_parts (eqb (length bs) 6) _ f).0) e

  pub listed_uetr : uetr bs ≡ true → listed 16 (length bs) ≡ true
  listed_uetr f = of_length 16 (length bs) 16 (eqb-true (length bs) 16 (and_parts (eqb (length bs) 16) _ f).0) refl

  pub listed_text : end_to_end bs ≡ true → listed 17 (length bs) ≡ true
  listed_text f = known 17 (length bs) (and_parts (leb 1 (length bs) && leb (length bs) 35) (every is_printable bs) f).0

pub listed_byte : (t : ℕ) → admitted (rule_of t) 1 ≡ true → listed t 1 ≡ true
listed_byte t e = known t 1 e

pub listed_amount : (k : ℕ) → listed 18 (length (amount_bytes k)) ≡ true
unfolding amount_bytes
listed_amount k = known 18 8 refl

-- From the last field to the first.

module _ (c : CaseValue) (f : Fit c) where
  legal_transaction : (p : ℕ) → p < 16 → Legal p (transaction_fields c)
  legal_transaction p h = (h, listed_uetr c.name.uetr f.uetr, (lit< tt, listed_text c.end_to_end f.end_to_end, (lit< tt, listed_amount c.amount, tt)))

  legal_closing : (o : Option (List ℕ)) → IfSome o (λ id. identifier id ≡ true) → Legal 12 (closing_fields o ++ transaction_fields c)
  legal_closing None g = legal_transaction 12 (lit< tt)
  legal_closing (Some id) g = (lit< tt, listed_identifier id 13 g refl, legal_transaction 13 (lit< tt))

  legal_state : (p : ℕ) → p < 12 → Legal p (state_fields c.state ++ transaction_fields c)
  legal_state p h = (h, listed_byte 12 refl, legal_closing (closing_of c.state) f.closing)

  legal_original : (s : SubjectValue) → FitSubject s → Legal 5 (original_fields s ++ (state_fields c.state ++ transaction_fields c))
  legal_original request g = legal_state 5 (lit< tt)
  legal_original (recall kind id) g = (lit< tt, listed_byte 7 refl, (lit< tt, listed_identifier id 8 g.1 refl, legal_state 8 (lit< tt)))

  pub legal_case : Legal 0 (case_fields c)
  unfolding case_fields
  legal_case = (
    lit< tt,
    listed_byte 1 refl,
    (
      lit< tt,
      listed_identifier c.name.identifier 2 f.identifier refl,
      (lit< tt, listed_code c.opener 4 f.opener refl, (lit< tt, listed_code c.assignee 5 f.assignee refl, legal_original c.subject f.subject)),
    ),
  )
