-- Cases as plain values: bytes stand as they were written, numbers as numbers.
use Rattle.std.specs.Prelude.{ℕ, Bool, ◌&&◌, List}
use Rattle.octets.specs.Bytes.{same_bytes}

-- the name of a case: the identifier of the message that opened it, and the reference of its transaction
pub record NameValue : Type 0 where
  pub identifier : List ℕ
  pub uetr : List ℕ

-- what a case is about: a request to pay, or the recall of an original with this kind's number and this identifier
pub data SubjectValue : Type 0 where
  request : SubjectValue
  recall : ℕ → List ℕ → SubjectValue

-- how far it has come: open, pending, or closed by the message with this identifier
pub data StateValue : Type 0 where
  opened : StateValue
  pending : StateValue
  agreed : List ℕ → StateValue
  declined : List ℕ → StateValue
  withdrawn : List ℕ → StateValue

-- a case
pub record CaseValue : Type 0 where
  pub name : NameValue
  pub subject : SubjectValue
  pub end_to_end : List ℕ
  pub amount : ℕ
  pub opener : List ℕ
  pub assignee : List ℕ
  pub state : StateValue

-- two names are one: the same identifier and the same reference
abbrev pub same_name : NameValue → NameValue → Bool
same_name a b = same_bytes a.identifier b.identifier && same_bytes a.uetr b.uetr

-- the case in another state
abbrev pub with_state : StateValue → CaseValue → CaseValue
with_state s c =
    record {
      name = c.name;
      subject = c.subject;
      end_to_end = c.end_to_end;
      amount = c.amount;
      opener = c.opener;
      assignee = c.assignee;
      state = s;
    }
