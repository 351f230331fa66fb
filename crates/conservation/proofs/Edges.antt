-- The edges of the table, by computation; the daily rate of 2,000 by its two bounds.
use Rattle.std.proofs.Common.{ℕ, ◌+◌, ◌≡◌, refl, ap, ◌∙◌, [], ◌∷◌}
use Rattle.general_laws.specs.Sums.{list_below}
use Rattle.rates.specs.Rate.{daily_of}
use Rattle.calendar.specs.Calendar.{after, days_of_years, day_count}
use Rattle.book_model.specs.declared.Book.{Book}
use Rattle.account.specs.Accrual.{accrued_day, paid_off}
use Rattle.account.specs.Opening.{opening}
use Rattle.account.specs.Schedule.{in_force, last_day}
use Rattle.account.specs.Standing.{settled_on, day_begins, account_at, overpaid}
use Rattle.book_model.specs.Advance.{day_passed, days_passed, advanced_to, advanced}
use Rattle.book_model.specs.Book.{rates_of, empty_book, with_held, with_account, with_today, with_settlement}
use Rattle.book_model.specs.Call.{Advance, Rate, Settle}
use Rattle.book_model.specs.Calls.{book_after, number_of, run}
use Rattle.book_model.specs.Open.{is_financing, new_book, opened}
use Rattle.book_model.specs.Rate.{starting_before, with_rates, revised, rated_from, rated}
use Rattle.book_model.specs.Schedule.{daily_on}
use Rattle.book_model.specs.Read.{position_of, position_at, totals_of}
use Rattle.book_model.specs.Settle.{settled_book, settled}
use Rattle.book_model.specs.Transfer.{moved, transferred}
use Rattle.conservation.specs.Examples.{own_book, next_day, taken_of, taken}
use Rattle.conservation.specs.Edges.{rated_16, OpenEdges, AdvanceEdges, RateEdges, TransferEdges, SettleEdges, ReadEdges, Edges}
use Rattle.conservation.proofs.Examples.{at_2000, day_later, day-later}
use Rattle.conservation.proofs.SteadyDays.{days_at, days_answered, days_steady, two_known}

greatest_payment : taken_of (own_book 1000000000000 (next_day ∷ [])) 100000000000 ≡ taken 54255200 99945744800
unfolding run opened is_financing new_book empty_book opening advanced advanced_to day_count days_of_years days_passed day_passed
    with_held with_account with_today last_day settled accrued_day in_force
greatest_payment = rw at_2000

-- Rate 0 from day 0, after settlements at 2,000

-- one day passed, and so much paid
abbrev day_paid : ℕ → Book
day_paid m = book_after day_later (Settle m)

abbrev answer_at_0 : Book → ℕ
answer_at_0 b = number_of b (Rate 20140101 0)

day-more : book_after (day_paid 1000000000) (Advance 20140103) ≡ days_at 542552 1 (day_paid 1000000000)
unfolding run opened is_financing new_book empty_book opening advanced advanced_to day_count days_of_years last_day with_held with_account with_today
    accrued_day settled settled_book with_settlement paid_off
day-more = days_steady 2000 542552 at_2000 (day_paid 1000000000) refl 1

day-more-over : book_after (day_paid 1000000001) (Advance 20140103) ≡ days_at 542552 1 (day_paid 1000000001)
unfolding run opened is_financing new_book empty_book opening advanced advanced_to day_count days_of_years last_day with_held with_account with_today
    accrued_day settled settled_book with_settlement paid_off
day-more-over = days_steady 2000 542552 at_2000 (day_paid 1000000001) refl 1

-- Rate 0 from day 1: day 0 stays at 2,000

stays : number_of (day_paid 1000054255) (Rate 20140102 0) ≡ 0
unfolding run opened is_financing new_book empty_book opening day_count days_of_years with_held with_account with_today accrued_day in_force last_day
    settled settled_book with_settlement paid_off rated rated_from revised starting_before with_rates settled_on day_begins account_at overpaid
stays = rw (number_of, at_2000)

-- One day more at 2,000, after a settlement

day-more-part : book_after (day_paid 100000) (Advance 20140103) ≡ days_at 542552 1 (day_paid 100000)
unfolding run opened is_financing new_book empty_book opening advanced advanced_to day_count days_of_years last_day with_held with_account with_today
    accrued_day settled settled_book with_settlement paid_off
day-more-part = days_steady 2000 542552 at_2000 (day_paid 100000) refl 1

-- Two days at 2,000 behind 16 orders

leap : book_after rated_16 (Advance 20140118) ≡ days_passed 2 rated_16
unfolding run opened is_financing new_book empty_book opening advanced advanced_to day_count days_of_years last_day with_held with_account with_today
    in_force rated rated_from revised starting_before with_rates overpaid days_passed day_passed
leap = days_answered rated_16 20140118 2 refl

first_at_2000 : daily_on (rates_of rated_16) rated_16.today.0 ≡ 542552
unfolding run opened is_financing new_book empty_book opening advanced advanced_to day_count days_of_years last_day with_held with_account with_today
    in_force rated rated_from revised starting_before with_rates overpaid days_passed day_passed
first_at_2000 = at_2000

second_at_2000 : daily_on (rates_of rated_16) (rated_16.today.0 + 1) ≡ 542552
unfolding run opened is_financing new_book empty_book opening advanced advanced_to day_count days_of_years last_day with_held with_account with_today
    in_force rated rated_from revised starting_before with_rates overpaid days_passed day_passed
second_at_2000 = at_2000

two-days : book_after rated_16 (Advance 20140118) ≡ days_at 542552 2 rated_16
two-days = leap ∙ two_known 542552 rated_16 first_at_2000 second_at_2000

open_edges : OpenEdges
unfolding run opened is_financing new_book empty_book list_below opening
open_edges =
    record {
      accepted = refl;
      already_open = refl;
      date_before_the_first = refl;
      first_date = refl;
      month_0 = refl;
      month_12 = refl;
      month_13 = refl;
      day_0 = refl;
      april_30 = refl;
      april_31 = refl;
      leap_day = refl;
      no_leap_day = refl;
      last_date = refl;
      date_after_the_last = refl;
      term_0 = refl;
      term_1 = refl;
      term_6000 = refl;
      term_6001 = refl;
      last_first_day = refl;
      first_day_after_it = refl;
      cents_0 = refl;
      cents_1 = refl;
      most_cents = refl;
      cents_over = refl;
      rate_0 = refl;
      rate_4000 = refl;
      rate_4001 = refl;
      share_missing = refl;
      share_too_many = refl;
      lists_equal = refl;
      holders_0 = refl;
      holders_1 = refl;
      holders_64 = refl;
      holders_65 = refl;
      holder_0 = refl;
      holder_0_last = refl;
      greatest_holder = refl;
      holder_over = refl;
      holder_over_last = refl;
      holder_twice = refl;
      first_and_last_the_same = refl;
      share_0 = refl;
      share_0_last = refl;
      share_1 = refl;
      sum_below = refl;
      sum_whole = refl;
      sum_above = refl;
      open_before_date = refl;
      date_before_term = refl;
      term_before_cents = refl;
      cents_before_rate = refl;
      rate_before_financing = refl;
      rate_before_lengths = refl;
      all_wrong_from_date = refl;
      all_wrong_from_term = refl;
      all_wrong_late_first = refl;
      all_wrong_from_cents = refl;
      all_wrong_over_cents = refl;
      refused = refl;
    }

advance_edges : AdvanceEdges
unfolding run opened is_financing new_book empty_book opening advanced advanced_to day_count days_of_years days_passed day_passed
    with_held with_account with_today last_day settled settled_book with_settlement accrued_day in_force paid_off daily_of
advance_edges =
    record {
      unopened = refl;
      accepted = refl;
      date_before_the_first = refl;
      first_date = refl;
      last_date = refl;
      date_after_the_last = refl;
      last_of_february = refl;
      no_leap_day = refl;
      today = refl;
      day_after_today = refl;
      later_today = refl;
      day_before_today = refl;
      end_of_term = refl;
      after_the_term = refl;
      end_of_term_1 = refl;
      after_term_1 = refl;
      days_92_pass = refl;
      days_93_pend = refl;
      days_92_in_two = refl;
      days_93_in_two = refl;
      days_92_after_nothing = refl;
      days_93_after_nothing = refl;
      days_92_after_a_refused = refl;
      days_93_after_a_refused = refl;
      days_92_after_the_last = refl;
      days_93_after_the_last = refl;
      days_of_this_call = refl;
      unopened_before_date = refl;
      date_before_day = refl;
      day_before_pending = refl;
      refused = refl;
    }

rate_edges : RateEdges
unfolding run opened is_financing new_book empty_book opening advanced advanced_to day_count days_of_years days_passed day_passed
    with_held with_account with_today last_day accrued_day in_force daily_of settled settled_book with_settlement paid_off
    rated rated_from revised starting_before with_rates settled_on day_begins account_at overpaid
rate_edges =
    record {
      unopened = refl;
      accepted = refl;
      date_before_the_first = refl;
      first_date = refl;
      last_date = refl;
      date_after_the_last = refl;
      last_of_february = refl;
      no_leap_day = refl;
      rate_4000 = refl;
      rate_4001 = refl;
      before_day_0 = refl;
      day_0 = refl;
      today = refl;
      after_today = refl;
      rate_16 = refl;
      rate_17 = refl;
      from_the_16th = refl;
      from_day_0 = refl;
      room_again = refl;
      full_again = refl;
      worth_at_0_stands = ap (λ b. answer_at_0 (book_after b (Settle 1000000000))) day-later;
      over_the_worth_at_0 = ap (λ b. answer_at_0 (book_after b (Settle 1000000001))) day-later;
      worth_stood = ap (λ b. answer_at_0 (book_after (book_after (book_after b (Settle 1000000000)) (Advance 20140103)) (Settle 0))) day-later
          ∙ ap (λ b. answer_at_0 (book_after b (Settle 0))) day-more;
      over_the_worth = ap (λ b. answer_at_0 (book_after (book_after (book_after b (Settle 1000000001)) (Advance 20140103)) (Settle 0))) day-later
          ∙ ap (λ b. answer_at_0 (book_after b (Settle 0))) day-more-over;
      day_0_stays = ap (λ b. number_of (book_after b (Settle 1000054255)) (Rate 20140102 0)) day-later ∙ stays;
      due_falls = ap (λ b. (rated b 20140101 0).answer) day-later;
      unopened_before_date = refl;
      date_before_rate = refl;
      rate_before_day = refl;
      day_before_full = refl;
      full_before_overpaid = ap (λ b. number_of (book_after b (Settle 1000108510)) (Rate 20140117 0)) two-days;
      overpaid_with_room = ap (λ b. number_of (book_after b (Settle 1000108510)) (Rate 20140116 0)) two-days;
      refused = refl;
    }

transfer_edges : TransferEdges
unfolding run opened is_financing new_book empty_book list_below opening with_held transferred moved
transfer_edges =
    record {
      unopened = refl;
      accepted = refl;
      cedent_0 = refl;
      cedent_over = refl;
      greatest_cedent = refl;
      assignee_0 = refl;
      assignee_1 = refl;
      greatest_assignee = refl;
      assignee_over = refl;
      cedent_absent = refl;
      cedent_refused_before = refl;
      cedent_added = refl;
      last_cedent = refl;
      cedent_without_share = refl;
      assignee_is_cedent = refl;
      parts_0 = refl;
      parts_1 = refl;
      all_parts = refl;
      parts_over = refl;
      rest_of_parts = refl;
      over_the_rest = refl;
      second_cedents_rest = refl;
      position_64 = refl;
      position_65 = refl;
      position_65_added = refl;
      assignee_among_64 = refl;
      emptied_keeps_its_place = refl;
      emptied_among_64 = refl;
      unopened_before_holder = refl;
      holder_before_share = refl;
      assignee_0_before_share = refl;
      assignee_over_before_share = refl;
      share_before_full = refl;
      assignee_over_before_full = refl;
      refused = refl;
    }

settle_edges : SettleEdges
unfolding run opened is_financing new_book empty_book opening advanced advanced_to day_count days_of_years days_passed day_passed
    with_held with_account with_today last_day settled settled_book with_settlement accrued_day in_force paid_off daily_of
settle_edges =
    record {
      unopened = refl;
      accepted = refl;
      greatest_payment = greatest_payment;
      over_the_greatest = refl;
      settlement_240 = refl;
      settlement_241 = refl;
      day_0 = refl;
      day_1 = refl;
      twice_a_day = refl;
      twice_nothing = refl;
      after_a_refused = refl;
      next_day_again = refl;
      all_outstanding = refl;
      over_outstanding = refl;
      nothing_left = refl;
      over_nothing_left = refl;
      due_and_outstanding = ap (λ b. number_of b (Settle 1000054255)) day-later;
      over_due_and_outstanding = ap (λ b. number_of b (Settle 1000054256)) day-later;
      unopened_before_amount = refl;
      amount_before_full = refl;
      full_before_no_day = refl;
      no_day_before_overpaid = refl;
      refused = refl;
    }

read_edges : ReadEdges
unfolding run opened is_financing new_book empty_book list_below opening with_held transferred moved position_of position_at totals_of
    advanced advanced_to day_count days_of_years days_passed day_passed with_account with_today last_day accrued_day in_force daily_of
    settled settled_book with_settlement paid_off after
read_edges =
    record {
      unopened = refl;
      place_unopened = refl;
      totals_unopened = refl;
      totals_read = refl;
      holder_0 = refl;
      holder_1 = refl;
      greatest_holder = refl;
      holder_over = refl;
      holder_absent = refl;
      holder_added = refl;
      holder_without_share = refl;
      last_holder = refl;
      second_read = refl;
      figures_read = ap (λ b. totals_of (book_after (book_after b (Settle 100000)) (Advance 20140103))) day-later ∙ ap totals_of day-more-part;
      refused = refl;
      place_0 = refl;
      place_1 = refl;
      place_63 = refl;
      place_64 = refl;
      second_placed = refl;
      place_refused = refl;
      totals_refused = refl;
      unopened_before_holder = refl;
      unopened_before_place = refl;
    }

pub edges : Edges
edges =
    record {
      of_open = open_edges;
      of_advance = advance_edges;
      of_rate = rate_edges;
      of_transfer = transfer_edges;
      of_settle = settle_edges;
      of_readers = read_edges;
    }
