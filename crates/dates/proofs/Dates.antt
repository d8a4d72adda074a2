-- The order of real dates, and the day before.
use Rattle.std.proofs.Common.{◌≡◌, ℕ, ◌-◌, ◌<◌, ◌≤◌, true, false, ◌⊎◌, Some, None, refl, ap, ◌∙◌, inl, inr, ⊎_elim, arith}
use Rattle.std.proofs.lemmas.Bool.{cases_Bool, lt-ltb, le-ltb}
use Rattle.std.proofs.lemmas.Bool.Decides.{nat_tests}
use Rattle.dates.specs.Dates.{DateValue, date, month_length, real_date, earlier, OneUnlessEarlier, day_before, GreatestBefore}

-- what it says of a date that it is real
pub record Real (d : DateValue) : Type 0 where
  pub first_year : 2000 ≤ d.year
  pub last_year : d.year ≤ 2099
  pub first_month : 1 ≤ d.month
  pub last_month : d.month ≤ 12
  pub first_day : 1 ≤ d.day
  pub last_day : d.day ≤ month_length d.year d.month

pub real_parts : (d : DateValue) → real_date d ≡ true → Real d
unfolding real_date
real_parts d e = record {
  first_year = grind (arith, nat_tests);
  last_year = grind (arith, nat_tests);
  first_month = grind (arith, nat_tests);
  last_month = grind (arith, nat_tests);
  first_day = grind (arith, nat_tests);
  last_day = grind (arith, nat_tests);
}

pub real_from_parts : (d : DateValue) → Real d → real_date d ≡ true
unfolding real_date
real_from_parts d r = grind (arith, nat_tests)

pub month_length_least : (y m : ℕ) → 28 ≤ month_length y m
unfolding month_length
month_length_least y m = grind (arith, nat_tests)

pub month_length_most : (y m : ℕ) → month_length y m ≤ 31
unfolding month_length
month_length_most y m = grind (arith, nat_tests)

pub december : (y : ℕ) → month_length y 12 ≡ 31
unfolding month_length
december y = refl

-- the three ways to be earlier
abbrev Before : DateValue → DateValue → Type 0
Before a b = (a.year < b.year) ⊎ ((a.year ≡ b.year) × (a.month < b.month)) ⊎ ((a.year ≡ b.year) × (a.month ≡ b.month) × (a.day < b.day))

module _ (a b : DateValue) where
  pub earlier_parts : earlier a b ≡ true → Before a b
  unfolding earlier
  earlier_parts e = grind (arith, nat_tests)

  pub earlier_by_year : a.year < b.year → earlier a b ≡ true
  unfolding earlier
  earlier_by_year h = grind (arith, nat_tests)

  pub earlier_by_month : a.year ≡ b.year → a.month < b.month → earlier a b ≡ true
  unfolding earlier
  earlier_by_month e h = grind (arith, nat_tests)

  pub earlier_by_day : a.year ≡ b.year → a.month ≡ b.month → a.day < b.day → earlier a b ≡ true
  unfolding earlier
  earlier_by_day e f h = grind (arith, nat_tests)

  pub not_earlier : (Before a b → ⊥) → earlier a b ≡ false
  not_earlier h = ⊎_elim (λ e. absurd (h (earlier_parts e))) (λ e. e) (cases_Bool (earlier a b))

-- a date that is not after another is it or is earlier
module _ (e b : DateValue) where
  pub equal : e.year ≡ b.year → e.month ≡ b.month → e.day ≡ b.day → e ≡ b
  equal p q r = ap (λ y. date y e.month e.day) p ∙ ap (λ m. date b.year m e.day) q ∙ ap (date b.year b.month) r

  pub up_to : (e.year < b.year) ⊎ ((e.year ≡ b.year) × (e.month < b.month)) ⊎ ((e.year ≡ b.year) × (e.month ≡ b.month) × (e.day ≤ b.day)) → (e ≡ b) ⊎ (earlier e b ≡ true)
  up_to h =
      ⊎_elim (λ p. inr (earlier_by_year e b p))
      (λ g. ⊎_elim (λ p. inr (earlier_by_month e b p.0 p.1))
      (λ p. ⊎_elim (λ x. inl (equal p.0 p.1 x)) (λ x. inr (earlier_by_day e b p.0 p.1 x)) (day_cases p.2)) g)
      h
    where
      day_cases : e.day ≤ b.day → (e.day ≡ b.day) ⊎ (e.day < b.day)
      day_cases l = grind arith

pub one_unless_earlier : (a b : DateValue) → OneUnlessEarlier a b
unfolding earlier
one_unless_earlier a b e f = equal a b (grind (arith, nat_tests)) (grind (arith, nat_tests)) (grind (arith, nat_tests))

-- the day before is the greatest of the real dates before d
module _ (d : DateValue) (real : Real d) where
  pub within_month : 1 < d.day → GreatestBefore d (Some (date d.year d.month (d.day - 1)))
  within_month h =
      let b = date d.year d.month (d.day - 1) in (
        real_from_parts b (record {
          first_year = real.first_year;
          last_year = real.last_year;
          first_month = real.first_month;
          last_month = real.last_month;
          first_day = omega arith;
          last_day = omega (arith, real.last_day);
        }),
        earlier_by_day b d refl refl (omega arith),
        λ e r s. let p = earlier_parts e d s in up_to e b (grind arith),
      )

  pub month_back : d.day ≤ 1 → 1 < d.month → GreatestBefore d (Some (date d.year (d.month - 1) (month_length d.year (d.month - 1))))
  month_back h k =
      let b = date d.year (d.month - 1) (month_length d.year (d.month - 1)) in (
        real_from_parts b (record {
          first_year = real.first_year;
          last_year = real.last_year;
          first_month = omega arith;
          last_month = omega (arith, real.last_month);
          first_day = omega (arith, month_length_least d.year (d.month - 1));
          last_day = omega arith;
        }),
        earlier_by_month b d refl (omega arith),
        λ e r s. let p = earlier_parts e d s in let q = real_parts e r in up_to e b (grind arith),
      )

  pub year_back : d.day ≤ 1 → d.month ≤ 1 → 2000 < d.year → GreatestBefore d (Some (date (d.year - 1) 12 31))
  year_back h k l =
      let b = date (d.year - 1) 12 31 in (
        real_from_parts b (record {
          first_year = omega arith;
          last_year = omega (arith, real.last_year);
          first_month = omega arith;
          last_month = omega arith;
          first_day = omega arith;
          last_day = omega (arith, december (d.year - 1));
        }),
        earlier_by_year b d (omega arith),
        λ e r s. let p = earlier_parts e d s in let q = real_parts e r in let m = month_length_most e.year e.month in up_to e b (grind arith),
      )

  pub none_before : d.day ≤ 1 → d.month ≤ 1 → d.year ≤ 2000 → GreatestBefore d None
  none_before h k l e r = let q = real_parts e r in not_earlier e d (λ p. grind arith)

-- which day the day before is, case by case
module _ (d : DateValue) where
  pub day_before_within : 1 < d.day → day_before d ≡ Some (date d.year d.month (d.day - 1))
  unfolding day_before
  day_before_within h = rw (lt-ltb 1 d.day h)

  module _ (h : d.day ≤ 1) where
    pub day_before_month : 1 < d.month → day_before d ≡ Some (date d.year (d.month - 1) (month_length d.year (d.month - 1)))
    unfolding day_before
    day_before_month k = rw (le-ltb 1 d.day h, lt-ltb 1 d.month k)

    pub day_before_year : d.month ≤ 1 → 2000 < d.year → day_before d ≡ Some (date (d.year - 1) 12 31)
    unfolding day_before
    day_before_year k l = rw (le-ltb 1 d.day h, le-ltb 1 d.month k, lt-ltb 2000 d.year l)

    pub day_before_none : d.month ≤ 1 → d.year ≤ 2000 → day_before d ≡ None
    unfolding day_before
    day_before_none k l = rw (le-ltb 1 d.day h, le-ltb 1 d.month k, le-ltb 2000 d.year l)
