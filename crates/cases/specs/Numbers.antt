-- The numbers under which kinds and states are written.
use Rattle.std.specs.Prelude.{ℕ, cond, List, Some, None, Option, ◌==◌}
use Rattle.values.specs.declared.kind.Kind.{Kind}
use Rattle.values.specs.declared.kind.Kind.TheVariants as kind
use Rattle.cases.specs.declared.case.OriginalKind.{OriginalKind}
use Rattle.cases.specs.declared.case.OriginalKind.TheVariants.{CustomerTransfer, InstitutionTransfer, Request}
use Rattle.cases.specs.Cases.{SubjectValue, request, recall, StateValue, opened, pending, agreed, declined, withdrawn}

-- the kind of the message that opens a case
abbrev pub subject_kind : SubjectValue → Kind
subject_kind request = kind.Request
subject_kind (recall k id) = kind.Recall

-- the number of that kind: a request is 13, a recall 56
abbrev pub subject_number : SubjectValue → ℕ
subject_number request = 13
subject_number (recall kind id) = 56

-- a customer's payment is 8, an institution's 9, a request 13
abbrev pub original_number : OriginalKind → ℕ
original_number CustomerTransfer = 8
original_number InstitutionTransfer = 9
original_number Request = 13

-- the kind with this number
abbrev pub original_of : ℕ → Option OriginalKind
original_of n =
    cond (n == 8) (Some CustomerTransfer)
    (cond (n == 9) (Some InstitutionTransfer)
    (cond (n == 13) (Some Request) None))

-- the number of a state
abbrev pub state_number : StateValue → ℕ
state_number opened = 1
state_number pending = 2
state_number (agreed id) = 3
state_number (declined id) = 4
state_number (withdrawn id) = 5

-- the closing identifier of a state
abbrev pub closing_of : StateValue → Option (List ℕ)
closing_of opened = None
closing_of pending = None
closing_of (agreed id) = Some id
closing_of (declined id) = Some id
closing_of (withdrawn id) = Some id

-- the state with this number, where a closing identifier stands exactly from state 3 on
abbrev pub state_of : ℕ → Option (List ℕ) → Option StateValue
state_of n None = cond (n == 1) (Some opened) (cond (n == 2) (Some pending) None)
state_of n (Some id) =
    cond (n == 3) (Some (agreed id))
    (cond (n == 4) (Some (declined id))
    (cond (n == 5) (Some (withdrawn id)) None))
