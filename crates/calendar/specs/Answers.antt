-- What the entries answer: the number of document 01's table, 0 where accepted, and the value, 0 where refused.
use Rattle.std.specs.Prelude.{cond, ◌&&◌, ℕ, ◌+◌, leb, ℤ, pos, ◌-ℤ◌, Result}
use Rattle.answers.specs.Answers.{stated}
use Rattle.calendar.specs.Calendar.{last_date, is_date, after, day_count}
use Rattle.calendar.specs.declared.NotADate.{NotADate}

-- 3, "date: not a date as above"
abbrev pub date_number : ℕ
date_number = 3

-- Number and value of each case

-- of a date, and of a count of days
abbrev pub date_stated : Result ℕ NotADate → ℕ × ℕ
date_stated = stated (λ _. date_number) 0

abbrev pub between_stated : Result ℤ NotADate → ℕ × ℤ
between_stated = stated (λ _. date_number) (pos 0)

-- What is answered

unfoldable pub count_of : ℕ → ℕ × ℕ
count_of x = cond (is_date x) (0, day_count x) (date_number, 0)

-- "A sum of date and days beyond the last one is refused with 3."
unfoldable pub sum_of : ℕ → ℕ → ℕ × ℕ
sum_of x n = cond (is_date x && leb (day_count x + n) (day_count last_date)) (0, after x n) (date_number, 0)

unfoldable pub between_of : ℕ → ℕ → ℕ × ℤ
between_of x y = cond (is_date x && is_date y) (0, pos (day_count y) -ℤ pos (day_count x)) (date_number, pos 0)
