-- The checked examples, by computation; daily rates by their two bounds.
use Rattle.std.proofs.Common.{◌≡◌, refl, sym, ap, ◌∙◌, [], ◌∷◌, pos, neg_ℤ}
use Rattle.general_laws.specs.Sums.{sum_below, count_below}
use Rattle.rates.proofs.Callers.{none_at_0, only}
use Rattle.calendar.specs.Calendar.{after, days_of_years, day_count}
use Rattle.apportionment.specs.Apportionment.{total_weight, quotient, remainder, leftover, comes_before, rank, gets_extra, part}
use Rattle.rates.specs.Rate.{within, daily_of}
use Rattle.book_model.specs.declared.Book.{Book}
use Rattle.account.specs.Accrual.{accrued_day, paid_off}
use Rattle.book_model.specs.Advance.{day_passed, days_passed, advanced_to, advanced}
use Rattle.book_model.specs.Book.{held, empty_book, with_held, with_account, with_today, with_settlement}
use Rattle.account.specs.Opening.{opening}
use Rattle.book_model.specs.Call.{Advance, Transfer, Settle}
use Rattle.book_model.specs.Calls.{book_after, run}
use Rattle.book_model.specs.Outcome.{no_changes, answered}
use Rattle.book_model.specs.Open.{is_financing, new_book, opened}
use Rattle.book_model.specs.Rate.{starting_before, with_rates, revised, rated_from, rated}
use Rattle.book_model.specs.Read.{totals_of}
use Rattle.account.specs.Schedule.{in_force, last_day}
use Rattle.book_model.specs.Settle.{settled_book, settled}
use Rattle.account.specs.Standing.{settled_on, day_begins, account_at, overpaid}
use Rattle.book_model.specs.Transfer.{moved, transferred}
use Rattle.conservation.specs.Examples.{Examples, own_book, figures, position, next_day, changes_at0, changes, file_book}
use Rattle.conservation.proofs.SteadyDays.{days_at, days_steady}
use Rattle.calendar.proofs.Callers as calendar
use Rattle.rates.proofs.Callers as rates

pub at_2000 : daily_of 2000 ≡ 542552
unfolding within
at_2000 = sym (only 2000 542552 refl refl)

-- Example 8, call by call

abbrev begun : Book
begun = own_book 100 []

abbrev assigned : Book
assigned = book_after (days_at 542552 10 begun) (Transfer 1 2 500000)

abbrev ended : Book
ended = book_after (days_at 542552 20 assigned) (Settle 100)

first-days : book_after begun (Advance 20140111) ≡ days_at 542552 10 begun
unfolding run opened is_financing new_book empty_book opening advanced advanced_to day_count days_of_years last_day
first-days = days_steady 2000 542552 at_2000 begun refl 10

last-days : book_after assigned (Advance 20140131) ≡ days_at 542552 20 assigned
unfolding run opened is_financing new_book empty_book opening advanced advanced_to day_count days_of_years last_day with_held with_account with_today
    transferred moved
last-days = days_steady 2000 542552 at_2000 assigned refl 20

file-ended : file_book ≡ ended
unfolding run
file-ended =
    ap (λ (b : Book). book_after (book_after (book_after b (Transfer 1 2 500000)) (Advance 20140131)) (Settle 100)) first-days
    ∙ ap (λ (b : Book). book_after b (Settle 100)) last-days

totals-ended : totals_of ended ≡ answered (record { today = 20140131; account = figures 0 0 1627656000 100 0 })
unfolding run opened is_financing new_book empty_book opening with_held with_account with_today accrued_day last_day
    transferred moved settled settled_book with_settlement paid_off totals_of after
totals-ended = refl

held-ended : held ended ≡ position 1 500000 0 67 ∷ position 2 500000 0 33 ∷ []
unfolding run opened is_financing new_book empty_book opening with_held with_account with_today accrued_day last_day
    transferred moved settled settled_book with_settlement
    part quotient remainder total_weight leftover gets_extra rank comes_before sum_below count_below
held-ended = refl

-- Examples 11 and 12

abbrev pub day_later : Book
day_later = days_at 542552 1 (own_book 1000000000 [])

pub day-later : book_after (own_book 1000000000 []) next_day ≡ day_later
unfolding run opened is_financing new_book empty_book opening advanced advanced_to day_count days_of_years last_day
day-later = days_steady 2000 542552 at_2000 (own_book 1000000000 []) refl 1

regularised : changes_at0 (book_after day_later (Settle 100000)) ≡ changes (neg_ℤ (pos 54255)) (pos 0)
unfolding run opened is_financing new_book empty_book opening day_count days_of_years with_held with_account with_today accrued_day in_force last_day
    settled settled_book with_settlement paid_off rated rated_from revised starting_before with_rates settled_on day_begins account_at overpaid
regularised = rw (changes_at0, none_at_0)

overpaid_at_0 : changes_at0 (book_after day_later (Settle 1000054255)) ≡ record { number = 14; value = no_changes }
unfolding run opened is_financing new_book empty_book opening day_count days_of_years with_held with_account with_today accrued_day in_force last_day
    settled settled_book with_settlement paid_off rated rated_from revised starting_before with_rates settled_on day_begins account_at overpaid
overpaid_at_0 = rw (changes_at0, none_at_0)

pub examples : Examples
unfolding run opened is_financing new_book empty_book opening
    advanced advanced_to day_count days_of_years days_passed day_passed with_held with_account with_today accrued_day in_force last_day
    settled settled_book with_settlement paid_off
    part quotient remainder total_weight leftover gets_extra rank comes_before sum_below count_below
examples =
    record {
      example_1_rate_0 = (rates.examples).rate_0;
      example_2_rate_1 = (rates.examples).rate_1;
      example_3_rate_2000 = (rates.examples).rate_2000;
      example_4_rate_4000 = ((rates.examples).rate_4000, (rates.examples).rate_4001);
      example_5_one_day = rw at_2000;
      example_6_five_holders = rw at_2000;
      example_7_equal_halves = rw at_2000;
      example_8_statement = (ap totals_of file-ended ∙ totals-ended, ap held file-ended ∙ held-ended);
      example_9_fifteen_years = (calendar.examples).sum_of_fifteen_years;
      example_10_leap_days = ((calendar.examples).leap_day, (calendar.examples).no_leap_day);
      example_11_regularised = (rw at_2000, ap (λ b. changes_at0 (book_after b (Settle 100000))) day-later ∙ regularised);
      example_12_overpaid = (rw at_2000, ap (λ b. changes_at0 (book_after b (Settle 1000054255))) day-later ∙ overpaid_at_0);
    }
