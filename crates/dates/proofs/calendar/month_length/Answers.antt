use Rattle.std.proofs.Common.{rules}
use Rattle.dates.specs.Dates.{month_length}
use Rattle.dates.proofs.calendar.month_length.Goals as goal

pub returns-then-is_leap : goal.returns-then-is_leap
unfolding month_length
returns-then-is_leap c = search rules

pub returns-else-is_leap : goal.returns-else-is_leap
unfolding month_length
returns-else-is_leap c = search rules

pub returns-in-4 : goal.returns-in-4
unfolding month_length
returns-in-4 c = search rules

pub returns-in_default : goal.returns-in_default
unfolding month_length
returns-in_default c = search rules
