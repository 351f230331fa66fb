-- What is answered in each case, and what an answer tells.
use Rattle.std.proofs.Common.{◌≡◌, true, false, ℕ, ◌+◌, ◌<◌, arith, ◌⊎◌}
use Rattle.std.specs.Prelude.{Result, Ok, Err}
use Rattle.std.specs.Result.{result_unwrap_or as unwrap_or}
use Rattle.std.proofs.lemmas.Grind.{common_steps}
use Rattle.calendar.specs.declared.NotADate.{NotADate}
use Rattle.calendar.specs.Calendar.{is_date, after, day_count}
use Rattle.calendar.specs.Answers.{date_number, date_stated, count_of, sum_of}
use Rattle.calendar.proofs.Counts.{last_count, count_within}

-- Day counts

pub record Counted (x n : ℕ) : Type 0 where
  pub is-date : is_date x ≡ true
  pub is-count : n ≡ day_count x
  pub within : n < 73049

module _ (x : ℕ) where
  pub count-date : is_date x ≡ true → count_of x ≡ (0, day_count x)
  unfolding count_of
  count-date e = rw e

  pub day_tells : (n : ℕ) → (0, n) ≡ count_of x → Counted x n
  unfolding count_of
  day_tells n e = record { is-date = grind (arith, common_steps); is-count = grind (arith, common_steps); within = grind (arith, common_steps, count_within) }

  pub no_date_tells : (date_number, 0) ≡ count_of x → is_date x ≡ false
  unfolding count_of
  no_date_tells e = grind (arith, common_steps)

-- Sums of a date and days

pub record Summed (x n y : ℕ) : Type 0 where
  pub is-date : is_date x ≡ true
  pub within : day_count x + n < 73049
  pub is_sum : y ≡ after x n

module _ (x n : ℕ) where
  pub date_tells : (y : ℕ) → (0, y) ≡ sum_of x n → Summed x n y
  unfolding sum_of
  date_tells y e =
      record {
        is-date = grind (arith, common_steps);
        within = grind (arith, common_steps, last_count);
        is_sum = grind (arith, common_steps);
      }

  pub refused_tells : (date_number, 0) ≡ sum_of x n → (is_date x ≡ false) ⊎ (73048 < day_count x + n)
  unfolding sum_of
  refused_tells e = grind (arith, common_steps, last_count)

  -- the value of the answer, where the sum is a date
  pub sum_value : (r : Result ℕ NotADate) → date_stated r ≡ sum_of x n → is_date x ≡ true → day_count x + n < 73049 → unwrap_or r 0 ≡ after x n
  unfolding sum_of
  sum_value (Ok y) e d h = grind (arith, common_steps, last_count)
  sum_value (Err _) e d h = grind (arith, common_steps, last_count)
