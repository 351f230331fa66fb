-- Day after day the number of the date grows.
use Rattle.std.proofs.Common.{◌≡◌, ℕ, zero, suc, ◌<◌, ◌≤◌, arith}
use Rattle.calendar.specs.Calendar.{year_of, month_of, day_of, next, after}
use Rattle.calendar.proofs.Parts.{of_following}

next-later : (x : ℕ) → x < next x
next-later x =
    of_following (λ n. x < n) (year_of x) (month_of x) (day_of x) (λ _. omega arith) (λ _. omega arith) (omega arith)

pub after_lt : (x m n : ℕ) → m < n → after x m < after x n
unfolding after
after_lt x m zero h = absurd (omega arith)
after_lt x m (suc n) h = grind (arith, next-later (after x n), after_lt x m n)

pub after_le : (x m n : ℕ) → m ≤ n → after x m ≤ after x n
after_le x m n h = grind (arith, after_lt x m n)

pub lt_of_after_lt : (x m n : ℕ) → after x m < after x n → m < n
lt_of_after_lt x m n h = grind (arith, after_le x n m)

pub after_injective : (x m n : ℕ) → after x m ≡ after x n → m ≡ n
after_injective x m n e = grind (arith, after_lt x m n, after_lt x n m)
