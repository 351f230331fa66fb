-- The Gregorian calendar as document 01 has it ("Dates"): "A date is the number YYYYMMDD, from 20000101 to 21991231, Gregorian."
use Rattle.std.specs.Prelude.{Bool, true, false, cond, not, ◌&&◌, ◌||◌, List, [], ◌∷◌, ℕ, zero, suc, ◌+◌, ◌-◌, ◌*◌, ◌/◌, ◌%◌, leb, ltb, eqb, get_or, take, sum}

abbrev pub first_date : ℕ
first_date = 20000101

abbrev pub last_date : ℕ
last_date = 21991231

-- YYYY, MM and DD of a number YYYYMMDD, and the number of the three
abbrev pub year_of : ℕ → ℕ
year_of x = x / 10000

abbrev pub month_of : ℕ → ℕ
month_of x = x / 100 % 100

abbrev pub day_of : ℕ → ℕ
day_of x = x % 100

abbrev pub ymd : ℕ → ℕ → ℕ → ℕ
ymd y m d = y * 10000 + m * 100 + d

-- every fourth year is a leap year, but of those that end a century only every fourth
abbrev pub is_leap : ℕ → Bool
is_leap y = eqb (y % 4) 0 && (not (eqb (y % 100) 0) || eqb (y % 400) 0)

-- the lengths of the months, January to December, in a leap year and in another
abbrev pub month_lengths : Bool → List ℕ
month_lengths true = 31 ∷ 29 ∷ 31 ∷ 30 ∷ 31 ∷ 30 ∷ 31 ∷ 31 ∷ 30 ∷ 31 ∷ 30 ∷ 31 ∷ []
month_lengths false = 31 ∷ 28 ∷ 31 ∷ 30 ∷ 31 ∷ 30 ∷ 31 ∷ 31 ∷ 30 ∷ 31 ∷ 30 ∷ 31 ∷ []

-- the days of the month m of the year y
abbrev pub days_in : ℕ → ℕ → ℕ
days_in y m = get_or (month_lengths (is_leap y)) (m - 1) 0

abbrev pub is_date : ℕ → Bool
is_date x =
    leb first_date x
    && (leb x last_date
    && (leb 1 (month_of x)
    && (leb (month_of x) 12 && (leb 1 (day_of x) && leb (day_of x) (days_in (year_of x) (month_of x))))))

-- the day after the day d of the month m of the year y: of the same month, else the next month's first, else the next year's
abbrev pub following : ℕ → ℕ → ℕ → ℕ
following y m d = cond (ltb d (days_in y m)) (ymd y m (d + 1)) (cond (ltb m 12) (ymd y (m + 1) 1) (ymd (y + 1) 1 1))

abbrev pub next : ℕ → ℕ
next x = following (year_of x) (month_of x) (day_of x)

-- the date n days after x
unfoldable pub after : ℕ → ℕ → ℕ
after x zero = x
after x (suc n) = next (after x n)

-- the days of the first k years from 2000 on
unfoldable pub days_of_years : ℕ → ℕ
days_of_years zero = 0
days_of_years (suc k) = days_of_years k + sum (month_lengths (is_leap (2000 + k)))

-- the days of the first k months of the year y
abbrev pub days_of_months : ℕ → ℕ → ℕ
days_of_months y k = sum (take k (month_lengths (is_leap y)))

-- a date's day count from 20000101: the years before it, the months before it in its year, the days before it in its month
unfoldable pub day_count : ℕ → ℕ
day_count x = days_of_years (year_of x - 2000) + (days_of_months (year_of x) (month_of x - 1) + (day_of x - 1))
