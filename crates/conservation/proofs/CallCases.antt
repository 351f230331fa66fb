-- One lemma for every call: it is refused and leaves the book, or its conditions hold and the book changes.
use Rattle.std.proofs.Common.{ℕ, ◌≡◌, Bool, true, false, ne_eqb, eqb}
use Rattle.book_model.specs.declared.Book.{Book}
use Rattle.book_model.specs.declared.Refusal.{Refusal}
use Rattle.book_model.specs.Advance.{days_passed}
use Rattle.book_model.specs.Book.{held, with_held}
use Rattle.book_model.specs.Call.{Call, Advance, Rate, Transfer, Settle}
use Rattle.book_model.specs.Calls.{book_after, number_of, accepts}
use Rattle.book_model.specs.Outcome.{refusal_number}
use Rattle.book_model.specs.Rate.{with_rates}
use Rattle.book_model.specs.Settle.{settled_book}
use Rattle.book_model.proofs.Callers.{AdvanceRight, RateRight, TransferRight, SettleRight, assigned, days_to, order_of, rates_after, account_after, no_refusal_is_0, advance_cases, rate_cases, transfer_cases, settle_cases}

-- the conditions of a call, and the book that it then gives back

abbrev pub Right : Book → Call → Type 0
Right b (Advance date) = AdvanceRight b date
Right b (Rate date annual) = RateRight b date annual
Right b (Transfer c a n) = TransferRight b c a n
Right b (Settle m) = SettleRight b m

abbrev pub changed : Book → Call → Book
changed b (Advance date) = days_passed (days_to b date) b
changed b (Rate date annual) = with_rates b (rates_after b (order_of b date annual)) (account_after b (order_of b date annual))
changed b (Transfer c a n) = with_held b (assigned c a n (held b))
changed b (Settle m) = settled_book b m

pub right-open : (b : Book) (k : Call) → Right b k → b.opened ≡ true
right-open b (Advance date) right = right.is_open
right-open b (Rate date annual) right = right.is_open
right-open b (Transfer c a n) right = right.is_open
right-open b (Settle m) right = right.is_open

pub call_cases : (b : Book) (k : Call) (P : ℕ → Book → Type 0) → ((r : Refusal) → P (refusal_number r) b) → (Right b k → P 0 (changed b k))
    → P (number_of b k) (book_after b k)
call_cases b (Advance date) P = advance_cases b date (λ o. P o.answer.number o.book)
call_cases b (Rate date annual) P = rate_cases b date annual (λ o. P o.answer.number o.book)
call_cases b (Transfer c a n) P = transfer_cases b c a (record { 0 = n }) (λ o. P o.answer.number o.book)
call_cases b (Settle m) P = settle_cases b (record { 0 = m }) (λ o. P o.answer.number o.book)

-- by whether it is accepted: "A refused call changes nothing."
pub accepted_cases : (b : Book) (k : Call) (P : Bool → Book → Type 0) → P false b → (Right b k → P true (changed b k)) → P (accepts b k) (book_after b k)
accepted_cases b k P refused =
    call_cases b k (λ n c. P (eqb n 0) c) (λ r. rw (ne_eqb (refusal_number r) 0 (no_refusal_is_0 r)) refused)
