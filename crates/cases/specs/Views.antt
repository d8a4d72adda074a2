-- What the cases of the code mean.
use Rattle.values.specs.Views.{characters}
use Rattle.cases.specs.declared.case.CaseName.{CaseName}
use Rattle.cases.specs.declared.case.Subject.{Subject}
use Rattle.cases.specs.declared.case.Subject.TheVariants as subject
use Rattle.cases.specs.declared.case.State.{State}
use Rattle.cases.specs.declared.case.State.TheVariants as state
use Rattle.cases.specs.declared.case.Case.{Case}
use Rattle.cases.specs.Cases.{NameValue, SubjectValue, request, recall, StateValue, opened, pending, agreed, declined, withdrawn, CaseValue}
use Rattle.cases.specs.Numbers.{original_number}

-- the name that a `CaseName` is
abbrev pub name_view : CaseName → NameValue
name_view n = record { identifier = n.identifier.bytes; uetr = n.uetr.bytes }

-- what a `Subject` is
abbrev pub subject_view : Subject → SubjectValue
subject_view subject.Request = request
subject_view (subject.Recall o) = recall (original_number o.kind) o.identifier.bytes

-- the state that a `State` is
abbrev pub state_view : State → StateValue
state_view state.Open = opened
state_view state.Pending = pending
state_view (state.Agreed id) = agreed id.bytes
state_view (state.Declined id) = declined id.bytes
state_view (state.Withdrawn id) = withdrawn id.bytes

-- the case that a `Case` is
abbrev pub view : Case → CaseValue
view c =
    record {
      name = name_view c.name;
      subject = subject_view c.subject;
      end_to_end = characters c.end_to_end;
      amount = c.amount.kopecks;
      opener = c.opener.bytes;
      assignee = c.assignee.bytes;
      state = state_view c.state;
    }
