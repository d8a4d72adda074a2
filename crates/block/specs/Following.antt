-- What follows from a value that may be absent.
use Rattle.std.specs.Prelude.{Some, None, Option}

-- what follows from a value, if there is one
abbrev pub given : {A B : Type 0} → Option A → (A → Option B) → Option B
given None next = None
given (Some x) next = next x

-- the same where the value may be absent: without it, nothing is read; with it, what is read has to be fit
abbrev pub if_given : {A B : Type 0} → Option A → (A → Option B) → Option (Option B)
if_given None next = Some None
if_given (Some x) next = given (next x) (λ y. Some (Some y))
