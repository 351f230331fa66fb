-- Where day after day leads from the first date: over the days of a month, the months of a year, and the years.
use Rattle.std.proofs.Common.{◌≡◌, refl, ◌∙◌, sym, ap, subst, true, cond, ℕ, zero, suc, ◌+◌, ◌-◌, ◌<◌, ◌≤◌, add-zero, add-suc, add-one, arith, lt-ltb, le-ltb, ltb}
use Rattle.std.proofs.Math.Nat.{le_of_suc-le}
use Rattle.calendar.specs.Calendar.{first_date, year_of, month_of, day_of, ymd, days_in, is_date, next, after, days_of_years, days_of_months, day_count}
use Rattle.calendar.proofs.Lengths.{month_least, month-most, months-suc, years_more}
use Rattle.calendar.proofs.Parts.{next-ymd, parts_of}

-- n days after the first date is the month's first day
module _ (n y m : ℕ) (low : 1 ≤ m) (high : m ≤ 12) (first : after first_date n ≡ ymd y m 1) where
  in_month : (d : ℕ) → d < days_in y m → after first_date (n + d) ≡ ymd y m (d + 1)
  unfolding after
  in_month zero h = ap (after first_date) (add-zero n) ∙ first
  in_month (suc d) h =
      ap (after first_date) (add-suc n d) ∙ ap next (in_month d (le_of_suc-le h))
      ∙ next-ymd y m (d + 1) (omega arith) (omega (arith, month-most y m low high))
      ∙ simp (add-one d, lt-ltb (suc d) (days_in y m) h)

  month-over : after first_date (n + days_in y m) ≡ cond (ltb m 12) (ymd y (m + 1) 1) (ymd (y + 1) 1 1)
  unfolding after
  month-over =
      let d : ℕ = days_in y m - 1 in
      let least = month_least y m low high in
      let most = month-most y m low high in
      let last : n + days_in y m ≡ suc (n + d) = omega arith in
      ap (after first_date) last ∙ ap next (in_month d (omega arith)) ∙ next-ymd y m (d + 1) (omega arith) (omega arith)
      ∙ simp (le-ltb (d + 1) (days_in y m) (omega arith))

month-first : (n y k : ℕ) → k < 12 → after first_date n ≡ ymd y 1 1 → after first_date (n + days_of_months y k) ≡ ymd y (suc k) 1
month-first n y zero h first = ap (after first_date) (add-zero n) ∙ first
month-first n y (suc k) h first =
    ap (after first_date) (omega (arith, months-suc y k (le_of_suc-le h)))
    ∙ month-over (n + days_of_months y k) y (suc k) (omega arith) (omega arith) (month-first n y k (le_of_suc-le h) first)
    ∙ simp (lt-ltb (suc k) 12 h, add-one (suc k))

year-first : (k : ℕ) → after first_date (days_of_years k) ≡ ymd (2000 + k) 1 1
unfolding after days_of_years
year-first zero = refl
year-first (suc k) =
    let december : days_of_years (suc k) ≡ days_of_years k + days_of_months (2000 + k) 11 + days_in (2000 + k) 12 =
    omega (arith, rw add-one at (years_more k), months-suc (2000 + k) 11 (omega arith)) in
    ap (after first_date) december
    ∙ month-over (days_of_years k + days_of_months (2000 + k) 11) (2000 + k) 12 (omega arith) (omega arith)
    (month-first (days_of_years k) (2000 + k) 11 (omega arith) (year-first k))
    ∙ omega arith

day-at : (k m d : ℕ) → 1 ≤ m → m ≤ 12 → 1 ≤ d → d ≤ days_in (2000 + k) m
    → after first_date (days_of_years k + (days_of_months (2000 + k) (m - 1) + (d - 1))) ≡ ymd (2000 + k) m d
day-at k m d low high l h =
    let same : suc (m - 1) ≡ m = omega arith in
    let first = month-first (days_of_years k) (2000 + k) (m - 1) (omega arith) (year-first k) in
    ap (after first_date) (omega arith)
    ∙ in_month (days_of_years k + days_of_months (2000 + k) (m - 1)) (2000 + k) m low high
    (first ∙ ap (λ (i : ℕ). ymd (2000 + k) i 1) same) (d - 1) (omega arith)
    ∙ omega arith

-- a date is as many days after the first as its count says
pub date_of_count : (x : ℕ) → is_date x ≡ true → after first_date (day_count x) ≡ x
unfolding day_count
date_of_count x e =
    let p = parts_of x e in
    let k : ℕ = year_of x - 2000 in
    let year : 2000 + k ≡ year_of x = omega (arith, p.year-low) in
    let m : ℕ = month_of x in
    let d : ℕ = day_of x in
    subst (λ (y : ℕ). after first_date (days_of_years k + (days_of_months y (m - 1) + (d - 1))) ≡ ymd y m d) year
    (day-at k m d p.month-low p.month-high p.day-low (rw year p.day-high))
    ∙ omega arith

-- a day that is found in a month of a year
pub date_at : (n k m : ℕ) → 1 ≤ m → m ≤ 12 → days_of_years k ≤ n
    → days_of_months (2000 + k) (m - 1) ≤ n - days_of_years k → n - days_of_years k < days_of_months (2000 + k) m
    → after first_date n ≡ ymd (2000 + k) m (n - days_of_years k - days_of_months (2000 + k) (m - 1) + 1)
date_at n k m low high a b c =
    let d : ℕ = n - days_of_years k - days_of_months (2000 + k) (m - 1) + 1 in
    let same : suc (m - 1) ≡ m = omega arith in
    let more = months-suc (2000 + k) (m - 1) (omega arith) in
    let whole = subst (λ (i : ℕ). days_of_months (2000 + k) i ≡ days_of_months (2000 + k) (m - 1) + days_in (2000 + k) i) same more in
    ap (after first_date) (omega arith) ∙ day-at k m d low high (omega arith) (omega arith)

pub after-sum : (x m n : ℕ) → after (after x m) n ≡ after x (m + n)
unfolding after
after-sum x m zero = ap (after x) (sym (add-zero m))
after-sum x m (suc n) = ap next (after-sum x m n) ∙ ap (after x) (sym (add-suc m n))
