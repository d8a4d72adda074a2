-- Cases whose values are fit.
use Rattle.std.specs.Prelude.{◌≡◌, true, is_some, IfSome}
use Rattle.values.specs.Codes as codes
use Rattle.values.specs.Texts as texts
use Rattle.values.specs.Amounts as amounts
use Rattle.values.specs.Identifiers as identifiers
use Rattle.cases.specs.Cases.{SubjectValue, request, recall, CaseValue}
use Rattle.cases.specs.Numbers.{original_of, closing_of}

-- a recall has an original of a known kind, with a well-formed identifier
abbrev pub FitSubject : SubjectValue → Type 0
FitSubject request = Unit {0}
FitSubject (recall kind id) = (is_some (original_of kind) ≡ true) × (identifiers.identifier id ≡ true)

-- every value of the case is fit
pub record Fit (c : CaseValue) : Type 0 where
  pub identifier : identifiers.identifier c.name.identifier ≡ true
  pub uetr : codes.uetr c.name.uetr ≡ true
  pub subject : FitSubject c.subject
  pub end_to_end : texts.end_to_end c.end_to_end ≡ true
  pub amount : amounts.amount c.amount ≡ true
  pub opener : codes.member_code c.opener ≡ true
  pub assignee : codes.member_code c.assignee ≡ true
  pub closing : IfSome (closing_of c.state) (λ id. identifiers.identifier id ≡ true)
