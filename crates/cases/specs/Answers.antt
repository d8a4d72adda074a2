-- What an answer makes of a case.
use Rattle.std.specs.Prelude.{ℕ, Bool, true, false, List, Some, None, Option}
use Rattle.cases.specs.declared.state.Status.{Status}
use Rattle.cases.specs.declared.state.Status.TheVariants.{Accepted, Rejected, Pending, AcceptedCancellation, RejectedCancellation, PendingCancellation}
use Rattle.cases.specs.Cases.{StateValue, opened, pending, agreed, declined, withdrawn}

-- no answer changes the state any more
abbrev pub is_closed : StateValue → Bool
is_closed opened = false
is_closed pending = false
is_closed (agreed id) = true
is_closed (declined id) = true
is_closed (withdrawn id) = true

-- the state that a status stands for, under the identifier of the answering message
abbrev pub answered : Status → List ℕ → StateValue
answered Accepted id = agreed id
answered Rejected id = declined id
answered Pending id = pending
answered AcceptedCancellation id = agreed id
answered RejectedCancellation id = declined id
answered PendingCancellation id = pending

-- what an unclosed case becomes; a closed case becomes nothing
abbrev pub unless_closed : StateValue → StateValue → Option StateValue
unless_closed opened next = Some next
unless_closed pending next = Some next
unless_closed (agreed id) next = None
unless_closed (declined id) next = None
unless_closed (withdrawn id) next = None

-- what an answer with this status makes of a case
abbrev pub after : StateValue → Status → List ℕ → Option StateValue
after state status id = unless_closed state (answered status id)

-- what consent to its recall makes of a case
abbrev pub after_withdrawal : StateValue → List ℕ → Option StateValue
after_withdrawal state id = unless_closed state (withdrawn id)
