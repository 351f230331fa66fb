-- What callers may rely on of dates and day counts.
use Rattle.std.specs.Prelude.{◌≡◌, true, ℕ, ◌+◌, ◌<◌}
use Rattle.calendar.specs.Calendar.{first_date, last_date, is_date, after, day_count}
use Rattle.calendar.specs.Answers.{date_number, sum_of}

pub record Laws : Type 0 where
  -- the range has 73,049 days
  pub last-count : day_count last_date ≡ 73048
  pub count-within : (x : ℕ) → is_date x ≡ true → day_count x < 73049
  -- count and date are inverse to each other
  pub date_of_count : (x : ℕ) → is_date x ≡ true → after first_date (day_count x) ≡ x
  pub count_of_date : (n : ℕ) → n < 73049 → day_count (after first_date n) ≡ n
  -- what is made is a date
  pub made_is_date : (n : ℕ) → n < 73049 → is_date (after first_date n) ≡ true
  pub sum_is_date : (x n : ℕ) → is_date x ≡ true → day_count x + n < 73049 → is_date (after x n) ≡ true
  pub count_of_sum : (x n : ℕ) → is_date x ≡ true → day_count x + n < 73049 → day_count (after x n) ≡ day_count x + n
  -- a later date has a larger count, and the other way round
  pub count-grows : (x y : ℕ) → is_date x ≡ true → is_date y ≡ true → x < y → day_count x < day_count y
  pub date-grows : (x y : ℕ) → is_date x ≡ true → is_date y ≡ true → day_count x < day_count y → x < y
  -- a sum of a sum is the sum of both counts, and what lies beyond stays beyond
  pub sum_of_sum : (x y m n : ℕ) → sum_of x m ≡ (0, y) → sum_of y n ≡ sum_of x (m + n)
  pub beyond_stays : (x m n : ℕ) → sum_of x m ≡ (date_number, 0) → sum_of x (m + n) ≡ (date_number, 0)
