use Rattle.std.proofs.Common.{rules}
use Rattle.values.specs.Identifiers.{identifier}
use Rattle.values.proofs.identifier.IdentifierReadable.read.Goals as goal

pub returns-in_err-bytes : goal.returns-in_err-bytes
unfolding identifier
returns-in_err-bytes c = record { value = search rules; form = search rules }
