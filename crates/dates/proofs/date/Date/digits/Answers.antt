use Rattle.std.proofs.Common.{◌≡◌, [], ◌∷◌, ap, ◌∙◌}
use Rattle.dates.specs.Dates.{read_date, date_digits}
use Rattle.dates.specs.Views.{view}
use Rattle.dates.proofs.Digits.{reads_back}
use Rattle.dates.proofs.date.Date.digits.Goals as goal

pub returns : goal.returns
unfolding date_digits
returns c =
    let d = view c.args.self.now in
    let e : c.last_digit.result ∷ c.last_digit-2.result ∷ c.last_digit-3.result ∷ c.last_digit-4.result ∷ c.last_digit-5.result ∷ c.last_digit-6.result ∷ c.last_digit-7.result ∷ c.last_digit-8.result ∷ [] ≡ date_digits d = cc in
    record { value = e; back = ap read_date e ∙ reads_back d c.args.self.now.real }
