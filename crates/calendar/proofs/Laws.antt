-- The crate's laws.
use Rattle.std.proofs.Common.{◌≡◌, sym, ◌∙◌, ap, ℕ, ◌+◌, add_assoc, arith}
use Rattle.std.proofs.lemmas.Grind.{common_steps}
use Rattle.calendar.specs.Answers.{date_number, sum_of}
use Rattle.calendar.specs.Laws.{Laws}
use Rattle.calendar.proofs.Walk.{date_of_count, after-sum}
use Rattle.calendar.proofs.Counts.{last_count, count_within, count_of_date, made_is_date, sum_is_date, count_of_sum, count-grows, date-grows}
use Rattle.calendar.proofs.Answers.{date_tells}

sum_of_sum : (x y m n : ℕ) → sum_of x m ≡ (0, y) → sum_of y n ≡ sum_of x (m + n)
unfolding sum_of
sum_of_sum x y m n e =
    let told = date_tells x m y (sym e) in
    ap (λ (z : ℕ). sum_of z n) told.is_sum ∙ rw (
      told.is-date,
      sum_is_date x m told.is-date told.within,
      count_of_sum x m told.is-date told.within,
      after-sum,
      add_assoc,
    )

beyond_stays : (x m n : ℕ) → sum_of x m ≡ (date_number, 0) → sum_of x (m + n) ≡ (date_number, 0)
unfolding sum_of
beyond_stays x m n e = grind (arith, common_steps)

pub laws : Laws
laws =
    record {
      last-count = last_count;
      count-within = count_within;
      date_of_count = date_of_count;
      count_of_date = count_of_date;
      made_is_date = made_is_date;
      sum_is_date = sum_is_date;
      count_of_sum = count_of_sum;
      count-grows = count-grows;
      date-grows = date-grows;
      sum_of_sum = sum_of_sum;
      beyond_stays = beyond_stays;
    }
