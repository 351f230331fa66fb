-- Demand 3: after every list of calls from an accepted opening, the book equals the tally.
use Rattle.std.specs.Prelude.{ℕ, ◌+◌, ◌*◌, ◌<◌, ◌≡◌, true, cond, List, [], ◌∷◌, map, sum}
use Rattle.general_laws.specs.Members.{among, distinct}
use Rattle.general_laws.specs.Sums.{sum_below}
use Rattle.calendar.specs.Calendar.{after}
use Rattle.book_model.specs.declared.Book.{Book}
use Rattle.book_model.specs.declared.called.ReachedBook.{ReachedBook}
use Rattle.book_model.specs.Book.{empty_book, held}
use Rattle.book_model.specs.Call.{Opening, Call, Advance, Rate, Transfer, Settle}
use Rattle.book_model.specs.Calls.{opened_with, book_after, accepts, run}
use Rattle.book_model.specs.Outcome.{Outcome, answered}
use Rattle.book_model.specs.Positions.{holders, shares, unit_days_column, receipts}
use Rattle.book_model.specs.Reached.{Reached}
use Rattle.book_model.specs.Read.{position_of, totals_of}
use Rattle.conservation.specs.Tally.{Fed, Tally, start, fed_with, sums_today, due_of, outstanding_of, outstanding_on, daily_of_day, share_today, received, unit_days_of}

-- what Open gives back on the empty book
abbrev pub opening_of : Opening → Outcome (Unit {0})
opening_of = opened_with empty_book

-- what the tally is fed of a list of calls: each call's arguments, and whether it was accepted
unfoldable pub feed_of : Book → List Call → List Fed
feed_of b [] = []
feed_of b (k ∷ ks) = record { call = k; accepted = accepts b k } ∷ feed_of (book_after b k) ks

-- "the cents of all accepted settlements"
abbrev pub cents_of : Call → ℕ
cents_of (Advance date) = 0
cents_of (Rate date annual) = 0
cents_of (Transfer c a n) = 0
cents_of (Settle m) = m

unfoldable pub accepted_cents : List Fed → ℕ
accepted_cents [] = 0
accepted_cents (x ∷ xs) = cond x.accepted (cents_of x.call) 0 + accepted_cents xs

pub record Conserved (o : Opening) (b : Book) (t : Tally) (xs : List Fed) : Type 0 where
  -- "Shares total 1,000,000, each holder's being today's in the paper's tally."
  pub shares_whole : sum (shares (held b)) ≡ 1000000
  pub holders-same : holders (held b) ≡ t.holders
  pub shares-same : shares (held b) ≡ map (share_today t) t.holders
  -- "in order of first appearance": no holder stands twice
  pub holders-distinct : distinct (holders (held b)) ≡ true
  -- "Outstanding plus principal paid is the recognised amount."
  pub principal-whole : b.account.outstanding.0 + b.account.principal_paid.0 ≡ o.cents
  -- "10,000,000,000 times the sum of interest paid and due, plus the stored fraction, is the sum over elapsed days of that day's outstanding
  -- times its daily rate."
  pub interest-whole : 10000000000 * (b.account.interest_paid.0 + b.account.due.0) + b.account.fraction
      ≡ sum_below t.today (λ day. outstanding_on o t day * daily_of_day t day)
  -- "a fraction below 10^10"
  pub fraction-below : b.account.fraction < 10000000000
  -- "Receipts total the cents of all accepted settlements."
  pub receipts-whole : sum (receipts (held b)) ≡ accepted_cents xs
  -- "Each holder has exactly the sum of its unit-day portions of them, each rounded down or up to a cent as the paper's Settle places the
  -- leftover cents."
  pub receipts-same : receipts (held b) ≡ map (received t) t.holders
  -- "For each day left behind, every position gains its share in unit-days"; "Unit-days become 0."
  pub unit-days-same : unit_days_column (held b) ≡ map (unit_days_of t) t.holders
  -- "It holds first day, term and today": the right stays open, its first day the opening's
  pub opened-same : b.opened ≡ true
  pub first-same : b.first ≡ o.first
  -- "The book's today, outstanding, interest due and both paid totals equal the tally's"
  pub today-same : b.today.0 ≡ t.today
  pub outstanding-same : b.account.outstanding.0 ≡ outstanding_of o.cents (sums_today o t)
  pub due-same : b.account.due.0 ≡ due_of (sums_today o t)
  pub principal-same : b.account.principal_paid.0 ≡ (sums_today o t).paid_principal
  pub interest-same : b.account.interest_paid.0 ≡ (sums_today o t).paid_interest
  -- "Reading a position (by holder: share, unit-days, received) .. changes nothing": a holder's is read as the tally has it
  pub positions-read : (h : ℕ) → among h t.holders ≡ true
      → position_of b h
      ≡ answered (record { holder = h; share = record { 0 = share_today t h }; unit_days = unit_days_of t h; received = record { 0 = received t h } })
  -- "or the totals (the B fields below)": the tally's today, as a date, and the account
  pub totals-read : totals_of b ≡ answered (record { today = after o.first t.today; account = b.account })

-- "For every list of these calls, in any order (Advance, Rate, Transfer, Settle, refused ones included), from a newly opened book, this holds
-- after it." "Each call gets the book the last gave back, the first an accepted Open's."
abbrev pub Conservation : Type 0
Conservation =
    (o : Opening) (ks : List Call) → (opening_of o).answer.number ≡ 0
    → Conserved o (run (opening_of o).book ks) (fed_with o (start o) (feed_of (opening_of o).book ks)) (feed_of (opening_of o).book ks)

-- "A book handed in may be supposed reached by these calls from an empty one": if open, it comes from an accepted opening and such a list, so
-- the same holds of it.
pub record History (b : Book) : Type 0 where
  pub from : Opening
  pub accepted : (opening_of from).answer.number ≡ 0
  pub calls : List Call
  pub made : b ≡ run (opening_of from).book calls
  pub conserved : Conserved from b (fed_with from (start from) (feed_of (opening_of from).book calls)) (feed_of (opening_of from).book calls)

abbrev pub ReachedConserved : Type 0
ReachedConserved = (b : Book) → Reached b → b.opened ≡ true → History b

-- the same of a book whose type says that it is reached
abbrev pub ReachedBookConserved : Type 0
ReachedBookConserved = (b : ReachedBook) → b.book.opened ≡ true → ∥ History b.book ∥₁
