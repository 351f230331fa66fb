-- Advance to a date (document 01).
use Rattle.std.specs.Prelude.{ℕ, zero, suc, ◌+◌, ◌-◌, cond, not, ◌||◌, map, leb, ltb}
use Rattle.calendar.specs.Calendar.{is_date, day_count}
use Rattle.book_model.specs.declared.Book.{Book}
use Rattle.account.specs.declared.Day.{Day}
use Rattle.book_model.specs.declared.Refusal.TheVariants as refusal
use Rattle.account.specs.Accrual.{accrued_day}
use Rattle.book_model.specs.Book.{held, rates_of, settlements_of, with_held, with_account, with_today}
use Rattle.book_model.specs.Outcome.{Outcome, no_days, accept, refuse}
use Rattle.book_model.specs.Positions.{day_held}
use Rattle.account.specs.Schedule.{last_day}
use Rattle.book_model.specs.Schedule.{daily_on}

-- the day of the last settlement, or day 0
abbrev pub last_settled : Book → ℕ
last_settled b = last_day 0 (settlements_of b)

-- "For each day left behind, every position gains its share in unit-days; fraction + outstanding × d for that day's rate is divided .."
unfoldable pub day_passed : Book → Book
day_passed b =
    with_today (with_account (with_held b (map day_held (held b))) (accrued_day (daily_on (rates_of b) b.today.0) b.account))
    (b.today.0 + 1)

unfoldable pub days_passed : ℕ → Book → Book
days_passed zero b = b
days_passed (suc n) b = day_passed (days_passed n b)

-- the calendar's day count of a day of the right
abbrev pub count_of_day : Book → ℕ → ℕ
count_of_day b day = day_count b.first + day

-- to the date of a day count. "The term's end is day 0 plus the term."
unfoldable pub advanced_to : Book → ℕ → Outcome Day
advanced_to b count =
    -- 8: "not after today, or after the term's end"
    cond (leb count (count_of_day b b.today.0) || ltb (count_of_day b b.term.0) count) (refuse no_days b refusal.Day)
    -- 9: "to more than 92 days after the last settlement (or day 0)"
    (cond (ltb (count_of_day b (last_settled b + 92)) count) (refuse no_days b refusal.SettlementPending)
    -- "Answers the number of days passed."
    (accept (record { 0 = count - count_of_day b b.today.0 }) (days_passed (count - count_of_day b b.today.0) b)))

unfoldable pub advanced : Book → ℕ → Outcome Day
advanced b date =
    -- 1: "any book call but Open, on an empty book"
    cond (not b.opened) (refuse no_days b refusal.Unopened)
    (cond (not (is_date date)) (refuse no_days b refusal.Date)
    (advanced_to b (day_count date)))
