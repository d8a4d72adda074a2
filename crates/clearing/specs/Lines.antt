-- What a line that makes no sense leaves behind.
use Rattle.std.specs.Prelude.{◌≡◌, Ok, Err, Result}
use Rattle.clearing.specs.declared.faults.ScriptError.{ScriptError}
use Rattle.clearing.specs.declared.faults.ScriptError.TheVariants.{Memory, Line}

-- a line that makes no sense leaves this as it was
abbrev pub NothingDone : {A B : Type 0} → Result B ScriptError → A → A → Type 0
NothingDone (Ok x) before after = Unit {0}
NothingDone (Err Memory) before after = Unit {0}
NothingDone (Err (Line fault)) before after = after ≡ before
