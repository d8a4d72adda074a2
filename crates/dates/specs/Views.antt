-- What the dates of the code mean.
use Rattle.dates.specs.declared.date.Date.{Date}
use Rattle.dates.specs.Dates.{DateValue, date}

-- the date that a `Date` is
abbrev pub view : Date → DateValue
view d = date d.year d.month d.day
