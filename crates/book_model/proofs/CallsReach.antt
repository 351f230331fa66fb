-- What a caller shows: the book that a call gave back is reached.
use Rattle.std.proofs.Common.{ℕ, ◌≡◌, sym, ap, subst, List}
use Rattle.std.proofs.Math.Logic.{∥∥₁_map}
use Rattle.book_model.specs.declared.Book.{Book}
use Rattle.account.specs.declared.Cents.{Cents}
use Rattle.account.specs.declared.Day.{Day}
use Rattle.book_model.specs.declared.Parts.{Parts}
use Rattle.book_model.specs.declared.Refusal.{Refusal}
use Rattle.book_model.specs.declared.Revised.{Revised}
use Rattle.book_model.specs.declared.Taken.{Taken}
use Rattle.book_model.specs.declared.called.Called.{Called}
use Rattle.book_model.specs.declared.called.ReachedBook.{ReachedBook}
use Rattle.book_model.specs.Called.{stated}
use Rattle.book_model.specs.Open.{opened}
use Rattle.book_model.specs.Advance.{advanced}
use Rattle.book_model.specs.Rate.{rated}
use Rattle.book_model.specs.Transfer.{transferred}
use Rattle.book_model.specs.Settle.{settled}
use Rattle.book_model.specs.Call.{Call, Advance, Rate, Transfer, Settle}
use Rattle.book_model.specs.Calls.{book_after}
use Rattle.book_model.specs.Outcome.{Outcome, nothing, no_days, no_changes, no_parts, nothing_taken}
use Rattle.book_model.specs.Reached.{Reached, opens, advances, rates, transfers, settles}

-- by the definition of the call
pub call-reached : (b : Book) → Reached b → (k : Call) → Reached (book_after b k)
call-reached b reached (Advance date) = advances reached date
call-reached b reached (Rate date annual) = rates reached date annual
call-reached b reached (Transfer c a n) = transfers reached c a (record { 0 = n })
call-reached b reached (Settle m) = settles reached (record { 0 = m })

-- by an equation of what it gave back, as a reached book's type has it
module _ {A : Type 0} {b : Book} (reached : ∥ Reached b ∥₁) {o given : Outcome A} (e : given ≡ o) where
  pub reached_by : (Reached b → Reached o.book) → ∥ Reached given.book ∥₁
  reached_by step = subst (λ (x : Book). ∥ Reached x ∥₁) (ap (λ (x : Outcome A). x.book) (sym e)) (∥∥₁_map reached step)

-- by what the call gave back, of a book that is known to be reached
module _ (b : Book) (reached : Reached b) where
  by_outcome : {A : Type 0} {o given : Outcome A} → given ≡ o → Reached o.book → Reached given.book
  by_outcome {A = A} e r = subst Reached (ap (λ (x : Outcome A). x.book) (sym e)) r

  pub open_reached : (first : ℕ) (term : Day) (annual : ℕ) (cents : Cents) (hs ss : List ℕ) (r : Called (Unit {0}) Refusal ReachedBook)
      → stated nothing r ≡ opened b first term annual cents hs ss → Reached r.book.book
  open_reached first term annual cents hs ss r e = by_outcome e (opens reached first term annual cents hs ss)

  pub advance-reached : (date : ℕ) (r : Called Day Refusal ReachedBook) → stated no_days r ≡ advanced b date → Reached r.book.book
  advance-reached date r e = by_outcome e (advances reached date)

  pub rate-reached : (date annual : ℕ) (r : Called Revised Refusal ReachedBook) → stated no_changes r ≡ rated b date annual → Reached r.book.book
  rate-reached date annual r e = by_outcome e (rates reached date annual)

  pub transfer-reached : (cedent assignee : ℕ) (parts : Parts) (r : Called Parts Refusal ReachedBook)
      → stated no_parts r ≡ transferred b cedent assignee parts → Reached r.book.book
  transfer-reached cedent assignee parts r e = by_outcome e (transfers reached cedent assignee parts)

  pub settle-reached : (cents : Cents) (r : Called Taken Refusal ReachedBook) → stated nothing_taken r ≡ settled b cents → Reached r.book.book
  settle-reached cents r e = by_outcome e (settles reached cents)
