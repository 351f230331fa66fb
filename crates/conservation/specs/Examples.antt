-- The twelve checked examples of document 01 as one fact, two of them as document 02 changes them, about the definitions that contracts cite.
use Rattle.std.specs.Prelude.{ℕ, ◌≡◌, true, false, List, [], ◌∷◌, ℤ, pos, neg_ℤ}
use Rattle.calendar.specs.Answers.{sum_of}
use Rattle.calendar.specs.Calendar.{is_date}
use Rattle.rates.specs.Rate.{rate_of}
use Rattle.account.specs.declared.Account.{Account}
use Rattle.book_model.specs.declared.Book.{Book}
use Rattle.book_model.specs.declared.Position.{Position}
use Rattle.book_model.specs.declared.Revised.{Revised}
use Rattle.book_model.specs.declared.Taken.{Taken}
use Rattle.book_model.specs.Book.{held}
use Rattle.book_model.specs.Call.{Call, Advance, Transfer, Settle}
use Rattle.book_model.specs.Calls.{run}
use Rattle.book_model.specs.Outcome.{Answer, Outcome, no_changes, answered}
use Rattle.book_model.specs.Positions.{receipts}
use Rattle.book_model.specs.Rate.{rated}
use Rattle.book_model.specs.Read.{totals_of}
use Rattle.book_model.specs.Settle.{settled}
use Rattle.conservation.specs.Conservation.{opening_of}

-- what Open gives back of these arguments, on the empty book
abbrev pub opened_at : (first term annual cents : ℕ) → (holders shares : List ℕ) → Outcome (Unit {0})
opened_at first term annual cents hs ss =
    opening_of (record { first = first; term = term; annual = annual; cents = cents; holders = hs; shares = ss })

-- the book after an opening at 2,000 from 20140101 and some calls
abbrev pub book_of : (term cents : ℕ) → List ℕ → List ℕ → List Call → Book
book_of term cents hs ss ks = run (opened_at 20140101 term 2000 cents hs ss).book ks

-- of one holder, for 30 days
abbrev pub own_book : ℕ → List Call → Book
own_book cents ks = book_of 30 cents (1 ∷ []) (1000000 ∷ []) ks

-- outstanding, due, fraction, principal paid, interest paid
abbrev pub figures : ℕ → ℕ → ℕ → ℕ → ℕ → Account
figures outstanding due fraction principal interest =
    record {
      outstanding = record { 0 = outstanding };
      due = record { 0 = due };
      fraction = fraction;
      principal_paid = record { 0 = principal };
      interest_paid = record { 0 = interest };
    }

-- holder, share, unit-days, received
abbrev pub position : ℕ → ℕ → ℕ → ℕ → Position
position holder share days received =
    record { holder = holder; share = record { 0 = share }; unit_days = days; received = record { 0 = received } }

-- the day after the first
abbrev pub next_day : Call
next_day = Advance 20140102

-- what Settle answers of a book: interest and principal taken
abbrev pub taken_of : Book → ℕ → Answer Taken
taken_of b m = (settled b (record { 0 = m })).answer

abbrev pub taken : ℕ → ℕ → Answer Taken
taken interest principal = answered (record { interest = record { 0 = interest }; principal = record { 0 = principal } })

-- what "rate 0 from day 0" answers of a book: the changes of outstanding and due
abbrev pub changes_at0 : Book → Answer Revised
changes_at0 b = (rated b 20140101 0).answer

abbrev pub changes : ℤ → ℤ → Answer Revised
changes outstanding due = answered (record { outstanding = record { 0 = outstanding }; due = record { 0 = due } })

-- the file of the paper's example: O 20140101 30 2000 100 with holder 1, then D 20140111, T 1 2 500000, D 20140131, S 100
abbrev pub file_book : Book
file_book = own_book 100 (Advance 20140111 ∷ Transfer 1 2 500000 ∷ Advance 20140131 ∷ Settle 100 ∷ [])

pub record Examples : Type 0 where
  -- "i = 0, d = 0."
  pub example_1_rate_0 : rate_of 0 ≡ (0, 0)
  -- "the examples for 1 and 4,000 become 274 and 1,074,598" (document 02, Req 02)
  pub example_2_rate_1 : rate_of 1 ≡ (0, 274)
  -- "i = 2,000, d = 542,552."
  pub example_3_rate_2000 : rate_of 2000 ≡ (0, 542552)
  -- "1,074,598", as above; "4,001 is refused."
  pub example_4_rate_4000 : (rate_of 4000 ≡ (0, 1074598)) × (rate_of 4001 ≡ (6, 0))
  -- "354,054,743,000 cents at 2,000: one day gives due 19,209,310, fraction 8,924,136,000."
  pub example_5_one_day : (own_book 354054743000 (next_day ∷ [])).account ≡ figures 354054743000 19209310 8924136000 0 0
  -- "Shares 350,100, 60,800, 441,600, 10,000, 137,500, one day, M = 100: 35, 6, 44, 1, 14."
  pub example_6_five_holders :
      receipts (held (book_of 30 354054743000 (1 ∷ 2 ∷ 3 ∷ 4 ∷ 5 ∷ []) (350100 ∷ 60800 ∷ 441600 ∷ 10000 ∷ 137500 ∷ []) (next_day ∷ Settle 100 ∷ [])))
      ≡ 35 ∷ 6 ∷ 44 ∷ 1 ∷ 14 ∷ []
  -- "Equal halves, M = 1: 1, 0."
  pub example_7_equal_halves :
      receipts (held (book_of 30 354054743000 (1 ∷ 2 ∷ []) (500000 ∷ 500000 ∷ []) (next_day ∷ Settle 1 ∷ []))) ≡ 1 ∷ 0 ∷ []
  -- "The split 67, 33 above.": the book of that file, and the lines B and H that are printed of it
  pub example_8_statement :
      (totals_of file_book ≡ answered (record { today = 20140131; account = figures 0 0 1627656000 100 0 }))
      × (held file_book ≡ position 1 500000 0 67 ∷ position 2 500000 0 33 ∷ [])
  -- "20140101 plus 5,479 days is 20290101."
  pub example_9_fifteen_years : sum_of 20140101 5479 ≡ (0, 20290101)
  -- "20240229 is a date, 21000229 isn't."
  pub example_10_leap_days : (is_date 20240229 ≡ true) × (is_date 21000229 ≡ false)
  -- "1,000,000,000 cents at 2,000, one day, M = 100,000: 54,255 interest, 45,745 principal; then rate 0 from day 0: outstanding changes by
  -- −54,255, due by 0."
  pub example_11_regularised :
      (taken_of (own_book 1000000000 (next_day ∷ [])) 100000 ≡ taken 54255 45745)
      × (changes_at0 (own_book 1000000000 (next_day ∷ Settle 100000 ∷ [])) ≡ changes (neg_ℤ (pos 54255)) (pos 0))
  -- "The same day with M = 1,000,054,255 instead: that rate order is refused with 14."
  pub example_12_overpaid :
      (taken_of (own_book 1000000000 (next_day ∷ [])) 1000054255 ≡ taken 54255 1000000000)
      × (changes_at0 (own_book 1000000000 (next_day ∷ Settle 1000054255 ∷ [])) ≡ record { number = 14; value = no_changes })
