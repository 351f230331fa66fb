-- The table of document 01, "What stops a call", row by row at both edges of each limit, for every call and reader of the book, in literal numbers.
use Rattle.std.specs.Prelude.{ℕ, zero, suc, ◌+◌, ◌≡◌, List, [], ◌∷◌, ◌++◌, pos, neg_ℤ, replicate}
use Rattle.general_laws.specs.Sums.{list_below}
use Rattle.calendar.specs.Calendar.{next}
use Rattle.book_model.specs.declared.Book.{Book}
use Rattle.book_model.specs.Advance.{advanced}
use Rattle.book_model.specs.Book.{empty_book}
use Rattle.book_model.specs.Call.{Call, Advance, Rate, Transfer, Settle}
use Rattle.book_model.specs.Calls.{opened_with, number_of, run}
use Rattle.book_model.specs.Rate.{rated}
use Rattle.book_model.specs.Read.{position_of, position_at, totals_of}
use Rattle.book_model.specs.Settle.{settled}
use Rattle.book_model.specs.Transfer.{transferred}
use Rattle.conservation.specs.Examples.{opened_at, book_of, own_book, figures, position, changes, next_day, taken_of, taken}

-- Openings

-- holders 1 to n
abbrev pub up_to : ℕ → List ℕ
up_to n = list_below n (λ k. k + 1)

-- the number that Open answers, of an empty book
abbrev pub opens : (first term annual cents : ℕ) → (holders shares : List ℕ) → ℕ
opens first term annual cents hs ss = (opened_at first term annual cents hs ss).answer.number

-- the same, of one holder
abbrev pub opens_own : (first term annual cents : ℕ) → ℕ
opens_own first term annual cents = opens first term annual cents (1 ∷ []) (1000000 ∷ [])

-- the same, of these holders and shares
abbrev pub opens_for : (holders shares : List ℕ) → ℕ
opens_for hs ss = opens 20140101 30 2000 100 hs ss

-- Books at rate 0, of 1,000 cents, opened on 20140101, with some calls

abbrev pub book_at_0 : ℕ → (holders shares : List ℕ) → List Call → Book
book_at_0 term hs ss ks = run (opened_at 20140101 term 0 1000 hs ss).book ks

-- of one holder
abbrev pub own_at_0 : ℕ → List Call → Book
own_at_0 term ks = book_at_0 term (1 ∷ []) (1000000 ∷ []) ks

-- of holders 1 to 63, and of holders 1 to 64
abbrev pub book_of_63 : List Call → Book
book_of_63 ks = book_at_0 30 (up_to 63) (31250 ∷ replicate 62 15625) ks

abbrev pub book_of_64 : List Call → Book
book_of_64 ks = book_at_0 30 (up_to 64) (replicate 64 15625) ks

-- the number that Open answers, of an open book
abbrev pub reopens : ℕ → ℕ
reopens first =
    (opened_with (own_at_0 30 [])
    (record { first = first; term = 30; annual = 2000; cents = 100; holders = 1 ∷ []; shares = 1000000 ∷ [] })).answer.number

-- n orders of rate 0: the first from this date on, each other one from the next day on
abbrev pub orders : ℕ → ℕ → List Call
orders date zero = []
orders date (suc n) = Rate date 0 ∷ orders (next date) n

-- on day 30, with the rates of days 0 to n stored
abbrev pub with_orders : ℕ → List Call → Book
with_orders n ks = own_at_0 60 (Advance 20140131 ∷ (orders 20140102 n ++ ks))

-- n settlements of 0 cents: the first on this date, each other one on the next day
abbrev pub settlements : ℕ → ℕ → List Call
settlements date zero = []
settlements date (suc n) = Advance date ∷ Settle 0 ∷ settlements (next date) n

-- on day n, with a settlement of each day from day 1 on
abbrev pub with_settlements : ℕ → List Call → Book
with_settlements n ks = own_at_0 300 (settlements 20140102 n ++ ks)

-- 1,000,000,000 cents on day 15, with 16 rates stored: those of days 0 to 14 are 0, and that of day 15 is 2,000
abbrev pub rated_16 : Book
rated_16 =
    run (opened_at 20140101 30 0 1000000000 (1 ∷ []) (1000000 ∷ [])).book
    (Advance 20140116 ∷ (orders 20140102 14 ++ (Rate 20140116 2000 ∷ [])))

-- two days later, with all that is due and outstanding paid
abbrev pub all_paid : Book
all_paid = run rated_16 (Advance 20140118 ∷ Settle 1000108510 ∷ [])

pub record OpenEdges : Type 0 where
  -- "Open on an open book"
  pub accepted : opens_own 20140101 30 2000 100 ≡ 0
  pub already_open : reopens 20140101 ≡ 2
  -- "A date is the number YYYYMMDD, from 20000101 to 21991231, Gregorian."
  pub date_before_the_first : opens_own 19991231 30 2000 100 ≡ 3
  pub first_date : opens_own 20000101 30 2000 100 ≡ 0
  pub month_0 : opens_own 20140001 30 2000 100 ≡ 3
  pub month_12 : opens_own 20141201 30 2000 100 ≡ 0
  pub month_13 : opens_own 20141301 30 2000 100 ≡ 3
  pub day_0 : opens_own 20140400 30 2000 100 ≡ 3
  pub april_30 : opens_own 20140430 30 2000 100 ≡ 0
  pub april_31 : opens_own 20140431 30 2000 100 ≡ 3
  pub leap_day : opens_own 20000229 30 2000 100 ≡ 0
  pub no_leap_day : opens_own 20010229 30 2000 100 ≡ 3
  pub last_date : opens_own 21991231 30 2000 100 ≡ 4
  pub date_after_the_last : opens_own 22000101 30 2000 100 ≡ 3
  -- "term not 1–6,000, or first day after 20991231"
  pub term_0 : opens_own 20140101 0 2000 100 ≡ 4
  pub term_1 : opens_own 20140101 1 2000 100 ≡ 0
  pub term_6000 : opens_own 20140101 6000 2000 100 ≡ 0
  pub term_6001 : opens_own 20140101 6001 2000 100 ≡ 4
  pub last_first_day : opens_own 20991231 6000 2000 100 ≡ 0
  pub first_day_after_it : opens_own 21000101 6000 2000 100 ≡ 4
  -- "Open: 0 or over 10^12"
  pub cents_0 : opens_own 20140101 30 2000 0 ≡ 5
  pub cents_1 : opens_own 20140101 30 2000 1 ≡ 0
  pub most_cents : opens_own 20140101 30 2000 1000000000000 ≡ 0
  pub cents_over : opens_own 20140101 30 2000 1000000000001 ≡ 5
  -- "over 4,000"
  pub rate_0 : opens_own 20140101 30 0 100 ≡ 0
  pub rate_4000 : opens_own 20140101 30 4000 100 ≡ 0
  pub rate_4001 : opens_own 20140101 30 4001 100 ≡ 6
  -- "lists of unequal length"
  pub share_missing : opens_for (1 ∷ 2 ∷ []) (1000000 ∷ []) ≡ 7
  pub share_too_many : opens_for (1 ∷ []) (999999 ∷ 1 ∷ []) ≡ 7
  pub lists_equal : opens_for (1 ∷ 2 ∷ []) (999999 ∷ 1 ∷ []) ≡ 0
  -- "not 1–64 holders"
  pub holders_0 : opens_for [] [] ≡ 7
  pub holders_1 : opens_for (1 ∷ []) (1000000 ∷ []) ≡ 0
  pub holders_64 : opens_for (up_to 64) (replicate 64 15625) ≡ 0
  pub holders_65 : opens_for (65 ∷ up_to 64) (1 ∷ 15624 ∷ replicate 63 15625) ≡ 7
  -- "a holder 0, over 999,999,999 or twice"
  pub holder_0 : opens_for (0 ∷ []) (1000000 ∷ []) ≡ 7
  pub holder_0_last : opens_for (1 ∷ 0 ∷ []) (500000 ∷ 500000 ∷ []) ≡ 7
  pub greatest_holder : opens_for (999999999 ∷ []) (1000000 ∷ []) ≡ 0
  pub holder_over : opens_for (1000000000 ∷ []) (1000000 ∷ []) ≡ 7
  pub holder_over_last : opens_for (1 ∷ 1000000000 ∷ []) (500000 ∷ 500000 ∷ []) ≡ 7
  pub holder_twice : opens_for (1 ∷ 1 ∷ []) (500000 ∷ 500000 ∷ []) ≡ 7
  pub first_and_last_the_same : opens_for (up_to 63 ++ (1 ∷ [])) (replicate 64 15625) ≡ 7
  -- "a share 0"
  pub share_0 : opens_for (1 ∷ 2 ∷ []) (0 ∷ 1000000 ∷ []) ≡ 7
  pub share_0_last : opens_for (1 ∷ 2 ∷ []) (1000000 ∷ 0 ∷ []) ≡ 7
  pub share_1 : opens_for (1 ∷ 2 ∷ []) (1 ∷ 999999 ∷ []) ≡ 0
  -- "or a sum not 1,000,000"
  pub sum_below : opens_for (1 ∷ 2 ∷ []) (500000 ∷ 499999 ∷ []) ≡ 7
  pub sum_whole : opens_for (1 ∷ 2 ∷ []) (500000 ∷ 500000 ∷ []) ≡ 0
  pub sum_above : opens_for (1 ∷ 2 ∷ []) (500000 ∷ 500001 ∷ []) ≡ 7
  -- "Lowest applicable number first": 2 before 3, 3 before 4 and so on to 7
  pub open_before_date : reopens 20140230 ≡ 2
  pub date_before_term : opens_own 20140230 0 2000 100 ≡ 3
  pub term_before_cents : opens_own 20140101 0 2000 0 ≡ 4
  pub cents_before_rate : opens_own 20140101 30 4001 0 ≡ 5
  pub rate_before_financing : opens 20140101 30 4001 100 [] [] ≡ 6
  pub rate_before_lengths : opens 20140101 30 4001 100 (1 ∷ 2 ∷ []) (1000000 ∷ []) ≡ 6
  -- with every later row wrong at once: 3, then 4 by either of its conditions, then 5 by either
  pub all_wrong_from_date : opens 20140230 0 4001 0 (1 ∷ []) [] ≡ 3
  pub all_wrong_from_term : opens 20140101 0 4001 0 (1 ∷ []) [] ≡ 4
  pub all_wrong_late_first : opens 21000101 30 4001 0 (1 ∷ []) [] ≡ 4
  pub all_wrong_from_cents : opens 20140101 30 4001 0 (1 ∷ []) [] ≡ 5
  pub all_wrong_over_cents : opens 20140101 30 4001 1000000000001 (1 ∷ []) [] ≡ 5
  -- "A refusal gives back its number, with 0 in every other field .., and the book that came in."
  pub refused : opened_at 20140101 0 2000 100 (1 ∷ []) (1000000 ∷ [])
      ≡ record { answer = record { number = 4; value = tt }; book = empty_book }

pub record AdvanceEdges : Type 0 where
  -- "any book call but Open, on an empty book"
  pub unopened : number_of empty_book (Advance 20140102) ≡ 1
  pub accepted : number_of (own_at_0 30 []) (Advance 20140102) ≡ 0
  -- "not a date as above"; the first date and the last are dates, before today and after the term's end
  pub date_before_the_first : number_of (own_at_0 30 []) (Advance 19991231) ≡ 3
  pub first_date : number_of (own_at_0 30 []) (Advance 20000101) ≡ 8
  pub last_date : number_of (own_at_0 30 []) (Advance 21991231) ≡ 8
  pub date_after_the_last : number_of (own_at_0 30 []) (Advance 22000101) ≡ 3
  pub last_of_february : number_of (own_at_0 60 []) (Advance 20140228) ≡ 0
  pub no_leap_day : number_of (own_at_0 60 []) (Advance 20140229) ≡ 3
  -- "Advance: not after today, or after the term's end"
  pub today : number_of (own_at_0 30 []) (Advance 20140101) ≡ 8
  pub day_after_today : number_of (own_at_0 30 (Advance 20140110 ∷ [])) (Advance 20140111) ≡ 0
  pub later_today : number_of (own_at_0 30 (Advance 20140110 ∷ [])) (Advance 20140110) ≡ 8
  pub day_before_today : number_of (own_at_0 30 (Advance 20140110 ∷ [])) (Advance 20140109) ≡ 8
  pub end_of_term : number_of (own_at_0 30 []) (Advance 20140131) ≡ 0
  pub after_the_term : number_of (own_at_0 30 []) (Advance 20140201) ≡ 8
  pub end_of_term_1 : number_of (own_at_0 1 []) (Advance 20140102) ≡ 0
  pub after_term_1 : number_of (own_at_0 1 []) (Advance 20140103) ≡ 8
  -- "Advance to more than 92 days after the last settlement (or day 0)"; "Edges: 92 days pass, 93 don't"
  pub days_92_pass : (advanced (book_of 100 100 (1 ∷ []) (1000000 ∷ []) []) 20140403).answer ≡ record { number = 0; value = record { 0 = 92 } }
  pub days_93_pend : (advanced (book_of 100 100 (1 ∷ []) (1000000 ∷ []) []) 20140404).answer ≡ record { number = 9; value = record { 0 = 0 } }
  pub days_92_in_two : number_of (own_at_0 100 (Advance 20140402 ∷ [])) (Advance 20140403) ≡ 0
  pub days_93_in_two : number_of (own_at_0 100 (Advance 20140402 ∷ [])) (Advance 20140404) ≡ 9
  -- counted from a settlement of 0 cents too
  pub days_92_after_nothing : number_of (own_at_0 200 (Advance 20140102 ∷ Settle 0 ∷ [])) (Advance 20140404) ≡ 0
  pub days_93_after_nothing : number_of (own_at_0 200 (Advance 20140102 ∷ Settle 0 ∷ [])) (Advance 20140405) ≡ 9
  -- not from a refused one
  pub days_92_after_a_refused : number_of (own_at_0 200 (Advance 20140102 ∷ Settle 1001 ∷ [])) (Advance 20140403) ≡ 0
  pub days_93_after_a_refused : number_of (own_at_0 200 (Advance 20140102 ∷ Settle 1001 ∷ [])) (Advance 20140404) ≡ 9
  -- and from the last of several, made on the last day that passes
  pub days_92_after_the_last : number_of (own_at_0 300 (Advance 20140402 ∷ Settle 1 ∷ Advance 20140403 ∷ Settle 1 ∷ [])) (Advance 20140704) ≡ 0
  pub days_93_after_the_last : number_of (own_at_0 300 (Advance 20140402 ∷ Settle 1 ∷ Advance 20140403 ∷ Settle 1 ∷ [])) (Advance 20140705) ≡ 9
  -- "Answers the number of days passed.": those of this call
  pub days_of_this_call : (advanced (own_at_0 30 (Advance 20140110 ∷ [])) 20140112).answer ≡ record { number = 0; value = record { 0 = 2 } }
  -- "Lowest applicable number first": 1 before 3, 3 before 8, 8 before 9
  pub unopened_before_date : number_of empty_book (Advance 20140230) ≡ 1
  pub date_before_day : number_of (own_at_0 30 []) (Advance 20130230) ≡ 3
  pub day_before_pending : number_of (own_at_0 92 []) (Advance 20140404) ≡ 8
  -- "A refusal gives back its number, with 0 in every other field .., and the book that came in."
  pub refused : advanced (own_at_0 30 []) 20140201 ≡ record { answer = record { number = 8; value = record { 0 = 0 } }; book = own_at_0 30 [] }

pub record RateEdges : Type 0 where
  -- "any book call but Open, on an empty book"
  pub unopened : number_of empty_book (Rate 20140101 0) ≡ 1
  pub accepted : number_of (own_at_0 30 []) (Rate 20140101 0) ≡ 0
  -- "not a date as above"; the first date and the last are dates, before day 0 and after today
  pub date_before_the_first : number_of (own_at_0 30 []) (Rate 19991231 0) ≡ 3
  pub first_date : number_of (own_at_0 30 []) (Rate 20000101 0) ≡ 8
  pub last_date : number_of (own_at_0 30 []) (Rate 21991231 0) ≡ 8
  pub date_after_the_last : number_of (own_at_0 30 []) (Rate 22000101 0) ≡ 3
  pub last_of_february : number_of (own_at_0 60 (Advance 20140301 ∷ [])) (Rate 20140228 0) ≡ 0
  pub no_leap_day : number_of (own_at_0 60 (Advance 20140301 ∷ [])) (Rate 20140229 0) ≡ 3
  -- "over 4,000"
  pub rate_4000 : number_of (own_at_0 30 []) (Rate 20140101 4000) ≡ 0
  pub rate_4001 : number_of (own_at_0 30 []) (Rate 20140101 4001) ≡ 6
  -- "Rate: before day 0 or after today"
  pub before_day_0 : number_of (own_at_0 30 (Advance 20140110 ∷ [])) (Rate 20131231 0) ≡ 8
  pub day_0 : number_of (own_at_0 30 (Advance 20140110 ∷ [])) (Rate 20140101 0) ≡ 0
  pub today : number_of (own_at_0 30 (Advance 20140110 ∷ [])) (Rate 20140110 0) ≡ 0
  pub after_today : number_of (own_at_0 30 (Advance 20140110 ∷ [])) (Rate 20140111 0) ≡ 8
  -- "a rate where 16 stored rates start before its date"
  pub rate_16 : number_of (with_orders 14 []) (Rate 20140116 0) ≡ 0
  pub rate_17 : number_of (with_orders 15 []) (Rate 20140117 0) ≡ 12
  -- a rate from that of the 16th, or from an earlier day, replaces it, and those behind it too
  pub from_the_16th : number_of (with_orders 15 []) (Rate 20140116 0) ≡ 0
  pub from_day_0 : number_of (with_orders 15 []) (Rate 20140101 0) ≡ 0
  pub room_again : number_of (with_orders 15 (Rate 20140115 0 ∷ [])) (Rate 20140117 0) ≡ 0
  pub full_again : number_of (with_orders 15 (Rate 20140115 0 ∷ Rate 20140117 0 ∷ [])) (Rate 20140118 0) ≡ 12
  -- "Rate: some past settlement would be so under the new rates", with one of today and one of a day before
  pub worth_at_0_stands : number_of (own_book 1000000000 (next_day ∷ Settle 1000000000 ∷ [])) (Rate 20140101 0) ≡ 0
  pub over_the_worth_at_0 : number_of (own_book 1000000000 (next_day ∷ Settle 1000000001 ∷ [])) (Rate 20140101 0) ≡ 14
  pub worth_stood : number_of (own_book 1000000000 (next_day ∷ Settle 1000000000 ∷ Advance 20140103 ∷ Settle 0 ∷ [])) (Rate 20140101 0) ≡ 0
  pub over_the_worth : number_of (own_book 1000000000 (next_day ∷ Settle 1000000001 ∷ Advance 20140103 ∷ Settle 0 ∷ [])) (Rate 20140101 0) ≡ 14
  -- "that of the latest accepted order (opening included) whose first day is not after it": an order from day 1 leaves day 0 its rate
  pub day_0_stays : number_of (own_book 1000000000 (next_day ∷ Settle 1000054255 ∷ [])) (Rate 20140102 0) ≡ 0
  -- "Answers outstanding after minus before, and due after minus before, signed."
  pub due_falls : (rated (own_book 1000000000 (next_day ∷ [])) 20140101 0).answer ≡ changes (pos 0) (neg_ℤ (pos 54255))
  -- "Lowest applicable number first": 1 before 3, 3 before 6, 6 before 8, 8 before 12
  pub unopened_before_date : number_of empty_book (Rate 20140230 0) ≡ 1
  pub date_before_rate : number_of (own_at_0 30 []) (Rate 20140230 4001) ≡ 3
  pub rate_before_day : number_of (own_at_0 30 []) (Rate 20140102 4001) ≡ 6
  pub day_before_full : number_of (with_orders 15 []) (Rate 20140201 0) ≡ 8
  -- 12 before 14: with an order at the last one's date there is room
  pub full_before_overpaid : number_of all_paid (Rate 20140117 0) ≡ 12
  pub overpaid_with_room : number_of all_paid (Rate 20140116 0) ≡ 14
  -- "A refusal gives back its number, with 0 in every other field .., and the book that came in."
  pub refused : rated (own_at_0 30 []) 20140102 0
      ≡ record {
        answer = record { number = 8; value = record { outstanding = record { 0 = pos 0 }; due = record { 0 = pos 0 } } };
        book = own_at_0 30 [];
      }

pub record TransferEdges : Type 0 where
  -- "any book call but Open, on an empty book"
  pub unopened : number_of empty_book (Transfer 1 2 1) ≡ 1
  pub accepted : number_of (own_at_0 30 []) (Transfer 1 2 1) ≡ 0
  -- "number 0 or over 999,999,999"
  pub cedent_0 : number_of (own_at_0 30 []) (Transfer 0 2 1) ≡ 10
  pub cedent_over : number_of (own_at_0 30 []) (Transfer 1000000000 2 1) ≡ 10
  pub greatest_cedent : number_of (book_at_0 30 (999999999 ∷ []) (1000000 ∷ []) []) (Transfer 999999999 1 1) ≡ 0
  pub assignee_0 : number_of (own_at_0 30 []) (Transfer 1 0 1) ≡ 10
  pub assignee_1 : number_of (book_at_0 30 (2 ∷ []) (1000000 ∷ []) []) (Transfer 2 1 1) ≡ 0
  pub greatest_assignee : number_of (own_at_0 30 []) (Transfer 1 999999999 1) ≡ 0
  pub assignee_over : number_of (own_at_0 30 []) (Transfer 1 1000000000 1) ≡ 10
  -- "cedent .. not in the book"; one left without a share is still in it
  pub cedent_absent : number_of (own_at_0 30 []) (Transfer 2 1 1) ≡ 10
  pub cedent_refused_before : number_of (own_at_0 30 (Transfer 1 2 0 ∷ [])) (Transfer 2 1 1) ≡ 10
  pub cedent_added : number_of (own_at_0 30 (Transfer 1 2 1 ∷ [])) (Transfer 2 1 1) ≡ 0
  pub last_cedent : number_of (book_of_64 []) (Transfer 64 1 1) ≡ 0
  pub cedent_without_share : number_of (own_at_0 30 (Transfer 1 2 1000000 ∷ [])) (Transfer 1 2 1) ≡ 11
  -- "cedent = assignee"
  pub assignee_is_cedent : number_of (own_at_0 30 []) (Transfer 1 1 1) ≡ 10
  -- "0 or more than the cedent holds"
  pub parts_0 : number_of (own_at_0 30 []) (Transfer 1 2 0) ≡ 11
  pub parts_1 : (transferred (own_at_0 30 []) 1 2 (record { 0 = 1 })).answer ≡ record { number = 0; value = record { 0 = 999999 } }
  pub all_parts : (transferred (own_at_0 30 []) 1 2 (record { 0 = 1000000 })).answer ≡ record { number = 0; value = record { 0 = 0 } }
  pub parts_over : number_of (own_at_0 30 []) (Transfer 1 2 1000001) ≡ 11
  pub rest_of_parts : number_of (own_at_0 30 (Transfer 1 2 400000 ∷ [])) (Transfer 1 3 600000) ≡ 0
  pub over_the_rest : number_of (own_at_0 30 (Transfer 1 2 400000 ∷ [])) (Transfer 1 3 600001) ≡ 11
  -- "Answers the cedent's remaining share.": of one who is not the first, too
  pub second_cedents_rest : (transferred (own_at_0 30 (Transfer 1 2 400000 ∷ [])) 2 3 (record { 0 = 100000 })).answer
      ≡ record { number = 0; value = record { 0 = 300000 } }
  -- "a 65th position"; an assignee in the book takes none
  pub position_64 : number_of (book_of_63 []) (Transfer 1 64 1) ≡ 0
  pub position_65 : number_of (book_of_64 []) (Transfer 1 65 1) ≡ 12
  pub position_65_added : number_of (book_of_63 (Transfer 1 64 1 ∷ [])) (Transfer 1 65 1) ≡ 12
  pub assignee_among_64 : number_of (book_of_64 []) (Transfer 1 64 15625) ≡ 0
  pub emptied_keeps_its_place : number_of (book_of_64 (Transfer 1 64 15625 ∷ [])) (Transfer 64 65 1) ≡ 12
  pub emptied_among_64 : number_of (book_of_64 (Transfer 1 64 15625 ∷ [])) (Transfer 64 1 1) ≡ 0
  -- "Lowest applicable number first": 1 before 10, 10 before 11, 11 before 12, 10 before 12
  pub unopened_before_holder : number_of empty_book (Transfer 0 0 0) ≡ 1
  pub holder_before_share : number_of (own_at_0 30 []) (Transfer 1 1 0) ≡ 10
  pub assignee_0_before_share : number_of (own_at_0 30 []) (Transfer 1 0 0) ≡ 10
  pub assignee_over_before_share : number_of (own_at_0 30 []) (Transfer 1 1000000000 0) ≡ 10
  pub share_before_full : number_of (book_of_64 []) (Transfer 1 65 15626) ≡ 11
  pub assignee_over_before_full : number_of (book_of_64 []) (Transfer 1 1000000000 1) ≡ 10
  -- "A refusal gives back its number, with 0 in every other field .., and the book that came in."
  pub refused : transferred (own_at_0 30 []) 1 2 (record { 0 = 0 })
      ≡ record { answer = record { number = 11; value = record { 0 = 0 } }; book = own_at_0 30 [] }

pub record SettleEdges : Type 0 where
  -- "any book call but Open, on an empty book"
  pub unopened : number_of empty_book (Settle 0) ≡ 1
  pub accepted : number_of (own_at_0 30 (Advance 20140102 ∷ [])) (Settle 0) ≡ 0
  -- "Settle: over 10^11"; "M = 10^11 passes the amount check", and is accepted where so much is outstanding
  pub greatest_payment : taken_of (own_book 1000000000000 (next_day ∷ [])) 100000000000 ≡ taken 54255200 99945744800
  pub over_the_greatest : taken_of (own_book 1000000000000 (next_day ∷ [])) 100000000001
      ≡ record { number = 5; value = record { interest = record { 0 = 0 }; principal = record { 0 = 0 } } }
  -- "a 241st settlement"
  pub settlement_240 : number_of (with_settlements 239 (Advance 20140829 ∷ [])) (Settle 0) ≡ 0
  pub settlement_241 : number_of (with_settlements 240 (Advance 20140830 ∷ [])) (Settle 0) ≡ 12
  -- "Settle with no day since the last settlement"
  pub day_0 : number_of (own_at_0 30 []) (Settle 0) ≡ 13
  pub day_1 : number_of (own_at_0 30 (Advance 20140102 ∷ [])) (Settle 1) ≡ 0
  pub twice_a_day : number_of (own_at_0 30 (Advance 20140102 ∷ Settle 1 ∷ [])) (Settle 1) ≡ 13
  pub twice_nothing : number_of (own_at_0 30 (Advance 20140102 ∷ Settle 0 ∷ [])) (Settle 0) ≡ 13
  pub after_a_refused : number_of (own_at_0 30 (Advance 20140102 ∷ Settle 1001 ∷ [])) (Settle 1) ≡ 0
  pub next_day_again : number_of (own_at_0 30 (Advance 20140102 ∷ Settle 1 ∷ Advance 20140103 ∷ [])) (Settle 1) ≡ 0
  -- "Settle: M over due plus outstanding"
  pub all_outstanding : number_of (own_at_0 30 (Advance 20140102 ∷ [])) (Settle 1000) ≡ 0
  pub over_outstanding : number_of (own_at_0 30 (Advance 20140102 ∷ [])) (Settle 1001) ≡ 14
  pub nothing_left : number_of (own_at_0 30 (Advance 20140102 ∷ Settle 1000 ∷ Advance 20140103 ∷ [])) (Settle 0) ≡ 0
  pub over_nothing_left : number_of (own_at_0 30 (Advance 20140102 ∷ Settle 1000 ∷ Advance 20140103 ∷ [])) (Settle 1) ≡ 14
  pub due_and_outstanding : number_of (own_book 1000000000 (next_day ∷ [])) (Settle 1000054255) ≡ 0
  pub over_due_and_outstanding : number_of (own_book 1000000000 (next_day ∷ [])) (Settle 1000054256) ≡ 14
  -- "Lowest applicable number first": 1 before 5, 5 before 12, 12 before 13, 13 before 14
  pub unopened_before_amount : number_of empty_book (Settle 100000000001) ≡ 1
  pub amount_before_full : number_of (with_settlements 240 (Advance 20140830 ∷ [])) (Settle 100000000001) ≡ 5
  pub full_before_no_day : number_of (with_settlements 240 []) (Settle 0) ≡ 12
  pub no_day_before_overpaid : number_of (own_at_0 30 []) (Settle 1001) ≡ 13
  -- "A refusal gives back its number, with 0 in every other field .., and the book that came in."
  pub refused : settled (own_at_0 30 []) (record { 0 = 0 })
      ≡ record {
        answer = record { number = 13; value = record { interest = record { 0 = 0 }; principal = record { 0 = 0 } } };
        book = own_at_0 30 [];
      }

pub record ReadEdges : Type 0 where
  -- "any book call but Open, on an empty book"
  pub unopened : (position_of empty_book 1).number ≡ 1
  pub place_unopened : (position_at empty_book 0).number ≡ 1
  pub totals_unopened : (totals_of empty_book).number ≡ 1
  pub totals_read : (totals_of (own_at_0 30 [])).number ≡ 0
  -- "number 0 or over 999,999,999 .. reader's holder not in the book"
  pub holder_0 : (position_of (own_at_0 30 []) 0).number ≡ 10
  pub holder_1 : (position_of (own_at_0 30 []) 1).number ≡ 0
  pub greatest_holder : (position_of (book_at_0 30 (999999999 ∷ []) (1000000 ∷ []) []) 999999999).number ≡ 0
  pub holder_over : (position_of (own_at_0 30 []) 1000000000).number ≡ 10
  pub holder_absent : (position_of (own_at_0 30 []) 2).number ≡ 10
  pub holder_added : (position_of (own_at_0 30 (Transfer 1 2 1 ∷ [])) 2).number ≡ 0
  pub holder_without_share : (position_of (own_at_0 30 (Transfer 1 2 1000000 ∷ [])) 1).number ≡ 0
  pub last_holder : (position_of (book_of_64 []) 64).number ≡ 0
  -- "Reading a position (by holder: share, unit-days, received)": of one who is not the first, too
  pub second_read : position_of (own_at_0 30 (Transfer 1 2 400000 ∷ Advance 20140102 ∷ [])) 2
      ≡ record { number = 0; value = position 2 400000 400000 0 }
  -- "the totals (the B fields below)", no two figures alike
  pub figures_read : totals_of (own_book 1000000000 (next_day ∷ Settle 100000 ∷ Advance 20140103 ∷ []))
      ≡ record { number = 0; value = record { today = 20140103; account = figures 999954255 54252 9180958760 45745 54255 } }
  -- "with 0 in every other field": holder, share, unit-days, received
  pub refused : position_of (own_at_0 30 []) 2 ≡ record { number = 10; value = position 0 0 0 0 }
  -- places count from 0, and one behind the last position is refused as an unknown holder is
  pub place_0 : (position_at (own_at_0 30 []) 0).number ≡ 0
  pub place_1 : (position_at (own_at_0 30 []) 1).number ≡ 10
  pub place_63 : (position_at (book_of_64 []) 63).number ≡ 0
  pub place_64 : (position_at (book_of_64 []) 64).number ≡ 10
  pub second_placed : position_at (own_at_0 30 (Transfer 1 2 400000 ∷ Advance 20140102 ∷ [])) 1
      ≡ record { number = 0; value = record { count = 2; position = position 2 400000 400000 0 } }
  pub place_refused : position_at (own_at_0 30 []) 1 ≡ record { number = 10; value = record { count = 0; position = position 0 0 0 0 } }
  pub totals_refused : totals_of empty_book ≡ record { number = 1; value = record { today = 0; account = figures 0 0 0 0 0 } }
  -- "Lowest applicable number first": 1 before 10
  pub unopened_before_holder : (position_of empty_book 0).number ≡ 1
  pub unopened_before_place : (position_at empty_book 1).number ≡ 1

-- "What stops a call"
pub record Edges : Type 0 where
  pub of_open : OpenEdges
  pub of_advance : AdvanceEdges
  pub of_rate : RateEdges
  pub of_transfer : TransferEdges
  pub of_settle : SettleEdges
  pub of_readers : ReadEdges
