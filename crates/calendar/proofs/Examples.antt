-- The worked examples, by computation.
use Rattle.std.proofs.Common.{refl}
use Rattle.calendar.specs.Calendar.{after, days_of_years, day_count}
use Rattle.calendar.specs.Answers.{count_of, sum_of, between_of}
use Rattle.calendar.specs.Examples.{Examples}

pub examples : Examples
unfolding after days_of_years day_count count_of sum_of between_of
examples =
    record {
      sum_of_fifteen_years = refl;
      leap_day = refl;
      no_leap_day = refl;
      month_ends = refl;
      first-counted = refl;
      before-first = refl;
      last-counted = refl;
      behind-last = refl;
      month-0 = refl;
      month-13 = refl;
      day-0 = refl;
      day-32 = refl;
      last_reached = refl;
      beyond_last = refl;
      from_no_date = refl;
      turned-days = refl;
      between_no_dates = (refl, refl);
    }
