-- Each call, refused ones included, keeps the agreement with the tally, and adds its accepted cents to the receipts.
use Rattle.std.proofs.Common.{◌+◌, arith, ◌≡◌, ap, ◌∙◌, cond}
use Rattle.std.specs.List.{sum}
use Rattle.book_model.specs.declared.Book.{Book}
use Rattle.book_model.specs.Book.{held}
use Rattle.book_model.specs.Call.{Opening, Call, Advance, Rate, Transfer, Settle}
use Rattle.book_model.specs.Calls.{book_after, accepts}
use Rattle.conservation.specs.Conservation.{cents_of}
use Rattle.book_model.specs.Positions.{receipts}
use Rattle.book_model.specs.Rate.{with_rates}
use Rattle.book_model.specs.Invariant.{Sound}
use Rattle.conservation.specs.Tally.{Tally, day_of_date, entered}
use Rattle.book_model.proofs.Callers.{order_of, rates_after, account_after, receipts-kept, receipts-settled, advance_step, transfer_step}
use Rattle.conservation.proofs.AdvanceAgrees.{agrees-advanced}
use Rattle.conservation.proofs.Agreement.{Agrees}
use Rattle.conservation.proofs.CallCases.{Right, changed, accepted_cases}
use Rattle.conservation.proofs.RateAgrees.{agrees-rated}
use Rattle.conservation.proofs.SettleAgrees.{agrees-settled}
use Rattle.conservation.proofs.TransferAgrees.{agrees-transferred}

module _ (o : Opening) (b : Book) (h : Sound b) (same_first : b.first ≡ o.first) (t : Tally) (agrees : Agrees b t) where
  agrees_changed : (k : Call) → Right b k → Agrees (changed b k) (entered o t k)
  agrees_changed (Advance date) right = agrees-advanced o b h same_first t agrees date right
  agrees_changed (Rate date annual) _ =
      agrees-rated b t agrees (rates_after b (order_of b date annual)) (account_after b (order_of b date annual)) (day_of_date o date) annual
  agrees_changed (Transfer c a n) right = agrees-transferred b h t agrees c a n right
  agrees_changed (Settle m) right = agrees-settled b h t agrees m right

  pub agrees_after : (k : Call) → Agrees (book_after b k) (cond (accepts b k) (entered o t k) t)
  agrees_after k = accepted_cases b k (λ yes c. Agrees c (cond yes (entered o t k) t)) agrees (agrees_changed k)

-- "Receipts total the cents of all accepted settlements."
module _ (b : Book) (h : Sound b) where
  receipts-changed : (k : Call) → Right b k → sum (receipts (held (changed b k))) ≡ sum (receipts (held b)) + cents_of k
  unfolding with_rates
  receipts-changed (Advance date) right = ap sum (advance_step b h date right).same-receipts ∙ omega arith
  receipts-changed (Rate date annual) _ = omega arith
  receipts-changed (Transfer c a n) _ = rw (transfer_step b h c a n).positions (receipts-kept c a n (held b) ∙ omega arith)
  receipts-changed (Settle m) right = receipts-settled b m (omega (arith, (h.when_open right.is_open).days-held, right.day-held))

  pub receipts-after : (k : Call) → sum (receipts (held (book_after b k))) ≡ sum (receipts (held b)) + cond (accepts b k) (cents_of k) 0
  receipts-after k =
      accepted_cases b k (λ yes c. sum (receipts (held c)) ≡ sum (receipts (held b)) + cond yes (cents_of k) 0) (omega arith) (receipts-changed k)
