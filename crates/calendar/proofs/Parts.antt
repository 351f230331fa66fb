-- A number's year, month and day, and when they make a date.
use Rattle.std.proofs.Common.{◌≡◌, refl, subst, true, ℕ, ◌+◌, ◌≤◌, ◌<◌, arith, ltb-true, ltb}
use Rattle.std.proofs.lemmas.Bool.Decides.{nat_tests}
use Rattle.general_laws.proofs.Choice.{choice}
use Rattle.calendar.specs.Calendar.{last_date, year_of, month_of, day_of, ymd, days_in, is_date, following, next}
use Rattle.calendar.proofs.Lengths.{month_least, month-most}

-- what holds of three parts holds of those of their number
pub of_parts : (P : ℕ → ℕ → ℕ → Type 0) (y m d : ℕ) → m < 100 → d < 100 → P y m d
    → P (year_of (ymd y m d)) (month_of (ymd y m d)) (day_of (ymd y m d))
of_parts P y m d a b p =
    let ys : y ≡ year_of (ymd y m d) = omega arith in
    let ms : m ≡ month_of (ymd y m d) = omega arith in
    let ds : d ≡ day_of (ymd y m d) = omega arith in
    subst (λ (i : ℕ). P i (month_of (ymd y m d)) (day_of (ymd y m d))) ys
    (subst (λ (i : ℕ). P y i (day_of (ymd y m d))) ms (subst (P y m) ds p))

-- what holds of the day after in each of its three cases
pub of_following : (P : ℕ → Type 0) (y m d : ℕ) → (d < days_in y m → P (ymd y m (d + 1)))
    → (m < 12 → P (ymd y (m + 1) 1)) → P (ymd (y + 1) 1 1) → P (following y m d)
of_following P y m d same month year =
    choice P (ltb d (days_in y m)) (λ e. same (ltb-true d (days_in y m) e))
    (λ _. choice P (ltb m 12) (λ e. month (ltb-true m 12 e)) (λ _. year))

pub next-ymd : (y m d : ℕ) → m < 100 → d < 100 → next (ymd y m d) ≡ following y m d
next-ymd y m d a b = of_parts (λ i j k. following i j k ≡ following y m d) y m d a b refl

pub record Parts (y m d : ℕ) : Type 0 where
  pub year-low : 2000 ≤ y
  pub year-high : y < 2200
  pub month-low : 1 ≤ m
  pub month-high : m ≤ 12
  pub day-low : 1 ≤ d
  pub day-high : d ≤ days_in y m

pub parts_of : (x : ℕ) → is_date x ≡ true → Parts (year_of x) (month_of x) (day_of x)
parts_of x e =
    record {
      year-low = grind (arith, nat_tests);
      year-high = grind (arith, nat_tests);
      month-low = grind (arith, nat_tests);
      month-high = grind (arith, nat_tests);
      day-low = grind (arith, nat_tests);
      day-high = grind (arith, nat_tests);
    }

pub day-most : (y m d : ℕ) → Parts y m d → d ≤ 31
day-most y m d p = omega (arith, p.day-high, month-most y m p.month-low p.month-high)

is-date : (x : ℕ) → Parts (year_of x) (month_of x) (day_of x) → is_date x ≡ true
is-date x p =
    let d = day-most (year_of x) (month_of x) (day_of x) p in grind (arith, nat_tests)

pub ymd_is_date : (y m d : ℕ) → Parts y m d → is_date (ymd y m d) ≡ true
ymd_is_date y m d p =
    is-date (ymd y m d) (of_parts Parts y m d (omega (arith, p.month-high)) (omega (arith, day-most y m d p)) p)

first_is_date : (y m : ℕ) → 2000 ≤ y → y < 2200 → 1 ≤ m → m ≤ 12 → is_date (ymd y m 1) ≡ true
first_is_date y m a b l h =
    ymd_is_date y m 1
    (record {
      year-low = a;
      year-high = b;
      month-low = l;
      month-high = h;
      day-low = omega arith;
      day-high = omega (arith, month_least y m l h);
    })

pub next_is_date : (x : ℕ) → is_date x ≡ true → next x ≤ last_date → is_date (next x) ≡ true
next_is_date x e =
    let y : ℕ = year_of x in
    let m : ℕ = month_of x in
    let d : ℕ = day_of x in
    let p = parts_of x e in
    of_following (λ n. n ≤ last_date → is_date n ≡ true) y m d
    (λ l _. ymd_is_date y m (d + 1) (record {
      year-low = p.year-low;
      year-high = p.year-high;
      month-low = p.month-low;
      month-high = p.month-high;
      day-low = omega arith;
      day-high = omega arith;
    }))
    (λ l _. first_is_date y (m + 1) p.year-low p.year-high (omega arith) (omega arith))
    (λ h. first_is_date (y + 1) 1 (omega (arith, p.year-low)) (omega arith) (omega arith) (omega arith))
