-- The case that the fields of a block give.
use Rattle.std.specs.Prelude.{ℕ, cond, List, Some, None, Option, ◌==◌}
use Rattle.block.specs.Fields.{FieldValue}
use Rattle.block.specs.Following.{given}
use Rattle.values.specs.Identifiers.{read_identifier}
use Rattle.items.specs.Items.{item_in, byte_in, member_code_in, uetr_in, end_to_end_in, amount_in}
use Rattle.cases.specs.Cases.{NameValue, SubjectValue, request, recall, StateValue, CaseValue}
use Rattle.cases.specs.Numbers.{original_number, original_of, state_of}

-- a well-formed identifier under the tag t
abbrev pub formed_identifier_in : ℕ → List FieldValue → Option (List ℕ)
formed_identifier_in t fs = item_in read_identifier t fs

-- the name
abbrev pub name_in : List FieldValue → Option NameValue
name_in fs =
    given (formed_identifier_in 2 fs) (λ identifier.
    given (uetr_in fs) (λ uetr.
    Some (record { identifier = identifier; uetr = uetr })))

-- a recall, with its original
abbrev pub original_in : List FieldValue → Option SubjectValue
original_in fs =
    given (byte_in 7 fs) (λ number.
    given (original_of number) (λ kind.
    given (formed_identifier_in 8 fs) (λ identifier.
    Some (recall (original_number kind) identifier))))

-- what the case is about, by the number of its kind
abbrev pub subject_by : List FieldValue → ℕ → Option SubjectValue
subject_by fs n = cond (n == 13) (Some request) (cond (n == 56) (original_in fs) None)

abbrev pub subject_in : List FieldValue → Option SubjectValue
subject_in fs = given (byte_in 1 fs) (subject_by fs)

-- the state
abbrev pub state_in : List FieldValue → Option StateValue
state_in fs = given (byte_in 12 fs) (λ number. state_of number (formed_identifier_in 13 fs))

-- the case
abbrev pub case_in : List FieldValue → Option CaseValue
case_in fs =
    given (name_in fs) (λ name.
    given (subject_in fs) (λ subject.
    given (end_to_end_in fs) (λ end_to_end.
    given (amount_in fs) (λ amount.
    given (member_code_in 4 fs) (λ opener.
    given (member_code_in 5 fs) (λ assignee.
    given (state_in fs) (λ state.
    Some (record {
      name = name;
      subject = subject;
      end_to_end = end_to_end;
      amount = amount;
      opener = opener;
      assignee = assignee;
      state = state;
    }))))))))
