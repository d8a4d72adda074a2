-- Dates of the Gregorian calendar from 2000 to 2099.
use Rattle.std.specs.Prelude.{◌≡◌, ℕ, ◌+◌, ◌-◌, ◌/◌, ◌%◌, Bool, true, false, cond, not, ◌&&◌, ◌||◌, ◌⊎◌, List, [], ◌∷◌, map, length, take, drop, Some, None, Option, ◌==◌, nat_le, nat_lt}
use Rattle.std.specs.Int.Digits.{number_from_digits}
use Rattle.octets.specs.Bytes.{is_digit, every}

-- a year, a month from 1 on and a day from 1 on
pub record DateValue : Type 0 where
  pub year : ℕ
  pub month : ℕ
  pub day : ℕ

-- the date of a year, a month and a day, real or not
abbrev pub date : ℕ → ℕ → ℕ → DateValue
date y m d = record { year = y; month = m; day = d }

-- every fourth year, but of the full centuries only every fourth
abbrev pub leap_year : ℕ → Bool
leap_year y = y % 4 == 0 && (not (y % 100 == 0) || y % 400 == 0)

-- how many days a month has
unfoldable pub month_length : ℕ → ℕ → ℕ
month_length y m =
    cond (m == 2) (cond (leap_year y) 29 28)
    (cond (m == 4 || m == 6 || m == 9 || m == 11) 30 31)

-- from 1 January 2000 to 31 December 2099
unfoldable pub real_date : DateValue → Bool
real_date d =
    nat_le 2000 d.year && nat_le d.year 2099
    && nat_le 1 d.month && nat_le d.month 12
    && nat_le 1 d.day && nat_le d.day (month_length d.year d.month)

-- the date, if it is real
abbrev pub real_only : DateValue → Option DateValue
real_only d = cond (real_date d) (Some d) None

-- the number that digits write
abbrev pub numeral : List ℕ → ℕ
numeral bs = number_from_digits 10 (map (λ b. b - 48) bs)

-- four digits of the year, two of the month, two of the day
abbrev pub date_of : List ℕ → DateValue
date_of bs = date (numeral (take 4 bs)) (numeral (take 2 (drop 4 bs))) (numeral (take 2 (drop 6 bs)))

-- the date that bytes write
unfoldable pub read_date : List ℕ → Option DateValue
read_date bs = cond (length bs == 8 && every is_digit bs) (real_only (date_of bs)) None

-- the last digit of a number
abbrev pub digit : ℕ → ℕ
digit n = 48 + n % 10

-- the digits that a date is written with
unfoldable pub date_digits : DateValue → List ℕ
date_digits d =
    digit (d.year / 1000) ∷ digit (d.year / 100) ∷ digit (d.year / 10) ∷ digit d.year
    ∷ digit (d.month / 10) ∷ digit d.month
    ∷ digit (d.day / 10) ∷ digit d.day
    ∷ []

-- a is before b: by the year, else by the month, else by the day
unfoldable pub earlier : DateValue → DateValue → Bool
earlier a b =
    cond (a.year == b.year)
    (cond (a.month == b.month) (nat_lt a.day b.day) (nat_lt a.month b.month))
    (nat_lt a.year b.year)

-- where neither is before the other, they are one date
abbrev pub OneUnlessEarlier : DateValue → DateValue → Type 0
OneUnlessEarlier a b = earlier a b ≡ false → earlier b a ≡ false → a ≡ b

-- the day before, which 1 January 2000 does not have
unfoldable pub day_before : DateValue → Option DateValue
day_before d =
    cond (nat_lt 1 d.day) (Some (date d.year d.month (d.day - 1)))
    (cond (nat_lt 1 d.month) (Some (date d.year (d.month - 1) (month_length d.year (d.month - 1))))
    (cond (nat_lt 2000 d.year) (Some (date (d.year - 1) 12 31)) None))

-- the greatest of the real dates before d; or there is no real date before d
abbrev pub GreatestBefore : DateValue → Option DateValue → Type 0
GreatestBefore d None = (e : DateValue) → real_date e ≡ true → earlier e d ≡ false
GreatestBefore d (Some b) =
    (real_date b ≡ true) × (earlier b d ≡ true)
    × ((e : DateValue) → real_date e ≡ true → earlier e d ≡ true → (e ≡ b) ⊎ (earlier e b ≡ true))
