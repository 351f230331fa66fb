-- Dates and day counts are inverse to each other and in the same order, and what is within the range is a date.
use Rattle.std.proofs.Common.{◌≡◌, refl, sym, ◌∙◌, ap, true, ℕ, zero, suc, ◌+◌, ◌<◌, ◌≤◌, le_of_suc-le-suc, arith}
use Rattle.std.proofs.Math.Nat.{le_of_suc-le}
use Rattle.calendar.specs.Calendar.{first_date, last_date, is_date, after, days_of_years, day_count}
use Rattle.calendar.proofs.Parts.{parts_of, day-most, next_is_date}
use Rattle.calendar.proofs.Walk.{date_of_count, after-sum}
use Rattle.calendar.proofs.Order.{after_lt, after_le, lt_of_after_lt, after_injective}

pub last_count : day_count last_date ≡ 73048
unfolding day_count days_of_years
last_count = refl

last-after : after first_date 73048 ≡ last_date
last-after = ap (after first_date) (sym last_count) ∙ date_of_count last_date refl

within-last : (n : ℕ) → n < 73049 → after first_date n ≤ last_date
within-last n h = omega (arith, last-after, after_le first_date n 73048 (le_of_suc-le-suc h))

pub made_is_date : (n : ℕ) → n < 73049 → is_date (after first_date n) ≡ true
unfolding after
made_is_date zero h = refl
made_is_date (suc n) h =
    next_is_date (after first_date n) (made_is_date n (le_of_suc-le h)) (within-last (suc n) h)

pub count_of_date : (n : ℕ) → n < 73049 → day_count (after first_date n) ≡ n
count_of_date n h = after_injective first_date _ n (date_of_count (after first_date n) (made_is_date n h))

pub count_within : (x : ℕ) → is_date x ≡ true → day_count x < 73049
count_within x e =
    let p = parts_of x e in
    let beyond = after_lt first_date 73048 73049 (omega arith) in
    lt_of_after_lt first_date (day_count x) 73049
    (omega (arith, date_of_count x e, last-after, p.year-high, p.month-high, day-most _ _ _ p))

-- a sum is counted from the first date on
pub from_first : (x n : ℕ) → is_date x ≡ true → after x n ≡ after first_date (day_count x + n)
from_first x n e = ap (λ (y : ℕ). after y n) (sym (date_of_count x e)) ∙ after-sum first_date (day_count x) n

pub sum_is_date : (x n : ℕ) → is_date x ≡ true → day_count x + n < 73049 → is_date (after x n) ≡ true
sum_is_date x n e h = ap is_date (from_first x n e) ∙ made_is_date (day_count x + n) h

pub count_of_sum : (x n : ℕ) → is_date x ≡ true → day_count x + n < 73049 → day_count (after x n) ≡ day_count x + n
count_of_sum x n e h = ap day_count (from_first x n e) ∙ count_of_date (day_count x + n) h

pub count-grows : (x y : ℕ) → is_date x ≡ true → is_date y ≡ true → x < y → day_count x < day_count y
count-grows x y e d h = lt_of_after_lt first_date (day_count x) (day_count y) (omega (arith, date_of_count x e, date_of_count y d))

pub date-grows : (x y : ℕ) → is_date x ≡ true → is_date y ≡ true → day_count x < day_count y → x < y
date-grows x y e d h = omega (arith, date_of_count x e, date_of_count y d, after_lt first_date (day_count x) (day_count y) h)
