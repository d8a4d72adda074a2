use Rattle.std.proofs.Common.{rules}
use Rattle.dates.specs.Dates.{earlier}
use Rattle.dates.specs.Views.{view}
use Rattle.dates.proofs.Dates.{one_unless_earlier}
use Rattle.dates.proofs.date.Date.is_before.Goals as goal

pub returns : goal.returns
unfolding earlier
returns c = record { value = search rules; one = one_unless_earlier (view c.args.self.now) (view c.args.other.now) }
