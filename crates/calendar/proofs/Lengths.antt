-- The lengths of months and years.
use Rattle.std.proofs.Common.{◌≡◌, refl, ap, Bool, true, false, List, [], ◌∷◌, ℕ, suc, ◌+◌, ◌-◌, ◌*◌, ◌/◌, ◌<◌, ◌≤◌, add-one, arith, leb-true, eqb-true, leb, eqb, get_or, take}
use Rattle.std.specs.List.{sum}
use Rattle.general_laws.proofs.Every.{every_below, at_each}
use Rattle.calendar.specs.Calendar.{is_leap, month_lengths, days_in, days_of_years, days_of_months}

-- a test that passes in a leap year and in another passes in every year
in_every_year : (n : ℕ) (f : Bool → ℕ → Bool) → every_below n (f true) ≡ true → every_below n (f false) ≡ true
    → (leap : Bool) (k : ℕ) → k < n → f leap k ≡ true
in_every_year n f leap common true = at_each n (f true) leap
in_every_year n f leap common false = at_each n (f false) common

pub month_least : (y m : ℕ) → 1 ≤ m → m ≤ 12 → 28 ≤ days_in y m
month_least y m l h =
    leb-true _ _ (in_every_year 12 (λ leap i. leb 28 (get_or (month_lengths leap) i 0)) refl refl (is_leap y) (m - 1) (omega arith))

pub month-most : (y m : ℕ) → 1 ≤ m → m ≤ 12 → days_in y m ≤ 31
month-most y m l h =
    leb-true _ _ (in_every_year 12 (λ leap i. leb (get_or (month_lengths leap) i 0) 31) refl refl (is_leap y) (m - 1) (omega arith))

pub months-suc : (y k : ℕ) → k < 12 → days_of_months y (suc k) ≡ days_of_months y k + days_in y (suc k)
months-suc y k h =
    eqb-true _ _
    (in_every_year 12
    (λ leap i. eqb (sum (take (suc i) (month_lengths leap))) (sum (take i (month_lengths leap)) + get_or (month_lengths leap) (suc i - 1) 0))
    refl refl (is_leap y) k h)

pub months_most : (y k : ℕ) → k < 13 → days_of_months y k ≤ 31 * k
months_most y k h =
    leb-true _ _ (in_every_year 13 (λ leap i. leb (sum (take i (month_lengths leap))) (31 * i)) refl refl (is_leap y) k h)

pub months_least : (y k : ℕ) → k < 12 → 31 * k ≤ days_of_months y (suc k)
months_least y k h =
    leb-true _ _ (in_every_year 12 (λ leap i. leb (31 * i) (sum (take (suc i) (month_lengths leap)))) refl refl (is_leap y) k h)

pub months_grow : (y m : ℕ) → 1 ≤ m → m ≤ 12 → days_of_months y (m - 1) ≤ days_of_months y m
months_grow y m l h =
    leb-true _ _
    (in_every_year 13 (λ leap i. leb (sum (take (i - 1) (month_lengths leap))) (sum (take i (month_lengths leap)))) refl refl (is_leap y) m (omega arith))

-- the days of the year before each month
abbrev pub month_starts : Bool → List ℕ
month_starts true = 0 ∷ 31 ∷ 60 ∷ 91 ∷ 121 ∷ 152 ∷ 182 ∷ 213 ∷ 244 ∷ 274 ∷ 305 ∷ 335 ∷ []
month_starts false = 0 ∷ 31 ∷ 59 ∷ 90 ∷ 120 ∷ 151 ∷ 181 ∷ 212 ∷ 243 ∷ 273 ∷ 304 ∷ 334 ∷ []

pub month-start : (leap : Bool) (k : ℕ) → k < 12 → get_or (month_starts leap) k 0 ≡ sum (take k (month_lengths leap))
month-start leap k h =
    eqb-true _ _ (in_every_year 12 (λ b i. eqb (get_or (month_starts b) i 0) (sum (take i (month_lengths b)))) refl refl leap k h)

pub years_formula : (k : ℕ) → k < 201 → days_of_years k ≡ 365 * k + (k + 3) / 4 - (k + 99) / 100 + (k + 399) / 400
unfolding days_of_years
years_formula k h =
    eqb-true _ _ (at_each 201 (λ i. eqb (days_of_years i) (365 * i + (i + 3) / 4 - (i + 99) / 100 + (i + 399) / 400)) refl k h)

whole-year : (leap : Bool) → sum (month_lengths leap) ≡ sum (take 12 (month_lengths leap))
whole-year true = refl
whole-year false = refl

pub years_more : (k : ℕ) → days_of_years (k + 1) ≡ days_of_years k + days_of_months (2000 + k) 12
unfolding days_of_years
years_more k = rw add-one (ap (λ (n : ℕ). days_of_years k + n) (whole-year (is_leap (2000 + k))))
