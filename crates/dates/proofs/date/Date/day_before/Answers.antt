use Rattle.std.proofs.Common.{◌-◌, Some, sym, ap, ◌∙◌, subst}
use Rattle.dates.specs.Dates.{date, GreatestBefore}
use Rattle.dates.specs.Views.{view}
use Rattle.dates.proofs.Dates.{real_parts, within_month, month_back, year_back, none_before, day_before_within, day_before_month, day_before_year, day_before_none}
use Rattle.dates.proofs.date.Date.day_before.Goals as goal

pub invariant_of-result : goal.invariant_of-result
invariant_of-result c =
    let d = view c.args.self.now in
    record { real = (within_month d (real_parts d c.args.self.now.real) c.if-day-gt1.true).0 }

pub invariant_of-result-then-month-gt1 : goal.invariant_of-result-then-month-gt1
invariant_of-result-then-month-gt1 c =
    let d = view c.args.self.now in
    let p = (month_back d (real_parts d c.args.self.now.real) c.if-day-gt1.false c.if-month-gt1.true).0 in
    record { real = rw c.month_length.ensures p }

pub invariant_of-result-then-year-gt-FIRST_YEAR : goal.invariant_of-result-then-year-gt-FIRST_YEAR
invariant_of-result-then-year-gt-FIRST_YEAR c =
    let d = view c.args.self.now in
    record { real = (year_back d (real_parts d c.args.self.now.real) c.if-day-gt1.false c.if-month-gt1.false c.if-year-gt-FIRST_YEAR.true).0 }

pub returns-then-day-gt1 : goal.returns-then-day-gt1
returns-then-day-gt1 c =
    let d = view c.args.self.now in
    record {
      value = sym (day_before_within d c.if-day-gt1.true);
      greatest = within_month d (real_parts d c.args.self.now.real) c.if-day-gt1.true;
    }

pub returns-then-month-gt1 : goal.returns-then-month-gt1
returns-then-month-gt1 c =
    let d = view c.args.self.now in
    let e = ap (λ n. Some (date d.year (d.month - 1) n)) c.month_length.ensures in
    record {
      value = e ∙ sym (day_before_month d c.if-day-gt1.false c.if-month-gt1.true);
      greatest = subst (GreatestBefore d) (sym e) (month_back d (real_parts d c.args.self.now.real) c.if-day-gt1.false c.if-month-gt1.true);
    }

pub returns-then-year-gt-FIRST_YEAR : goal.returns-then-year-gt-FIRST_YEAR
returns-then-year-gt-FIRST_YEAR c =
    let d = view c.args.self.now in
    record {
      value = sym (day_before_year d c.if-day-gt1.false c.if-month-gt1.false c.if-year-gt-FIRST_YEAR.true);
      greatest = year_back d (real_parts d c.args.self.now.real) c.if-day-gt1.false c.if-month-gt1.false c.if-year-gt-FIRST_YEAR.true;
    }

pub returns-else-year-gt-FIRST_YEAR : goal.returns-else-year-gt-FIRST_YEAR
returns-else-year-gt-FIRST_YEAR c =
    let d = view c.args.self.now in
    record {
      value = sym (day_before_none d c.if-day-gt1.false c.if-month-gt1.false c.if-year-gt-FIRST_YEAR.false);
      greatest = none_before d (real_parts d c.args.self.now.real) c.if-day-gt1.false c.if-month-gt1.false c.if-year-gt-FIRST_YEAR.false;
    }
