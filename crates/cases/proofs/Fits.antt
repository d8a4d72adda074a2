-- The cases of the code are fit, whatever they hold.
use Rattle.std.proofs.Common.{◌≡◌, true, is_some, IfSome, refl}
use Rattle.values.specs.Identifiers.{identifier}
use Rattle.cases.specs.declared.case.OriginalKind.{OriginalKind}
use Rattle.cases.specs.declared.case.OriginalKind.TheVariants.{CustomerTransfer, InstitutionTransfer, Request}
use Rattle.cases.specs.declared.case.Subject.{Subject}
use Rattle.cases.specs.declared.case.Subject.TheVariants as subject
use Rattle.cases.specs.declared.case.State.{State}
use Rattle.cases.specs.declared.case.State.TheVariants as state
use Rattle.cases.specs.declared.case.Case.{Case}
use Rattle.cases.specs.Numbers.{original_number, original_of, closing_of}
use Rattle.cases.specs.Views.{subject_view, state_view, view}
use Rattle.cases.specs.Fitness.{FitSubject, Fit}

known_kind : (k : OriginalKind) → is_some (original_of (original_number k)) ≡ true
known_kind CustomerTransfer = refl
known_kind InstitutionTransfer = refl
known_kind Request = refl

fit_subject : (s : Subject) → FitSubject (subject_view s)
fit_subject subject.Request = tt
fit_subject (subject.Recall o) = (known_kind o.kind, o.identifier.formed)

pub fit_closing : (s : State) → IfSome (closing_of (state_view s)) (λ id. identifier id ≡ true)
fit_closing state.Open = tt
fit_closing state.Pending = tt
fit_closing (state.Agreed id) = id.formed
fit_closing (state.Declined id) = id.formed
fit_closing (state.Withdrawn id) = id.formed

pub fit_case : (c : Case) → Fit (view c)
fit_case c =
    record {
      identifier = c.name.identifier.formed;
      uetr = c.name.uetr.formed;
      subject = fit_subject c.subject;
      end_to_end = c.end_to_end.formed.1;
      amount = c.amount.fit;
      opener = c.opener.formed;
      assignee = c.assignee.formed;
      closing = fit_closing c.state;
    }
