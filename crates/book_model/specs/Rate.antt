-- Rate from a date not after today (document 01).
use Rattle.std.specs.Prelude.{ℕ, ◌-◌, cond, not, ◌||◌, List, [], ◌∷◌, ◌++◌, leb, ltb, pos, ◌-ℤ◌, length, drop}
use Rattle.calendar.specs.Calendar.{is_date, day_count}
use Rattle.account.specs.declared.Account.{Account}
use Rattle.book_model.specs.declared.Book.{Book}
use Rattle.account.specs.declared.RateOrder.{RateOrder}
use Rattle.book_model.specs.declared.Refusal.TheVariants as refusal
use Rattle.book_model.specs.declared.Revised.{Revised}
use Rattle.book_model.specs.Advance.{count_of_day}
use Rattle.book_model.specs.Book.{order_from, rates_of, settlements_of}
use Rattle.book_model.specs.Outcome.{Outcome, no_changes, accept, refuse}
use Rattle.book_model.specs.Schedule.{daily_on}
use Rattle.account.specs.Standing.{account_at, overpaid}

-- the stored rates that start before a day
unfoldable pub starting_before : ℕ → List RateOrder → List RateOrder
starting_before day [] = []
starting_before day (o ∷ os) = cond (ltb o.first.0 day) (o ∷ starting_before day os) (starting_before day os)

-- "stored rates from that date on are replaced"
abbrev pub with_rate : RateOrder → List RateOrder → List RateOrder
with_rate o orders = starting_before o.first.0 orders ++ (o ∷ [])

-- "Positions don't change.": the book with other rates in use, and another account; the array's places behind the rates stay as they were
unfoldable pub with_rates : Book → List RateOrder → Account → Book
with_rates b orders a =
    record {
      opened = b.opened;
      first = b.first;
      term = b.term;
      today = b.today;
      recognised = b.recognised;
      account = a;
      count = b.count;
      positions = b.positions;
      settled = b.settled;
      settlements = b.settlements;
      rated = length orders;
      rates = orders ++ drop (length orders) b.rates;
    }

-- "Answers outstanding after minus before, and due after minus before, signed."
abbrev pub changes_of : Account → Account → Revised
changes_of before after =
    record {
      outstanding = record { 0 = pos after.outstanding.0 -ℤ pos before.outstanding.0 };
      due = record { 0 = pos after.due.0 -ℤ pos before.due.0 };
    }

-- an order that meets the conditions before 14. "Outstanding, interest due, fraction and both paid totals become what they'd be had these rates
-- held from the start, with the same settlements on the same days." "(003: regularisation counts the sums received and their dates.)"
unfoldable pub revised : Book → RateOrder → Outcome Revised
revised b o =
    -- 14: "some past settlement would be so under the new rates"
    cond (overpaid b.recognised.0 (daily_on (with_rate o (rates_of b))) (settlements_of b)) (refuse no_changes b refusal.Overpaid)
    (accept
    (changes_of b.account (account_at b.recognised.0 (daily_on (with_rate o (rates_of b))) (settlements_of b) b.today.0))
    (with_rates b (with_rate o (rates_of b)) (account_at b.recognised.0 (daily_on (with_rate o (rates_of b))) (settlements_of b) b.today.0)))

-- from the date of a day count
unfoldable pub rated_from : Book → ℕ → ℕ → Outcome Revised
rated_from b count annual =
    -- 8: "before day 0 or after today"
    cond (ltb count (count_of_day b 0) || ltb (count_of_day b b.today.0) count) (refuse no_changes b refusal.Day)
    -- 12: "a rate where 16 stored rates start before its date"
    (cond (leb 16 (length (starting_before (count - day_count b.first) (rates_of b)))) (refuse no_changes b refusal.BookFull)
    (revised b (order_from (count - day_count b.first) annual)))

unfoldable pub rated : Book → ℕ → ℕ → Outcome Revised
rated b date annual =
    cond (not b.opened) (refuse no_changes b refusal.Unopened)
    (cond (not (is_date date)) (refuse no_changes b refusal.Date)
    -- 6: "over 4,000"
    (cond (ltb 4000 annual) (refuse no_changes b refusal.Rate)
    (rated_from b (day_count date) annual)))
