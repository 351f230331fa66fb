-- The books that calls reach: "A book handed in may be supposed reached by these calls from an empty one; nothing else is supposed."
use Rattle.std.specs.Prelude.{ℕ, List}
use Rattle.book_model.specs.declared.Book.{Book}
use Rattle.account.specs.declared.Cents.{Cents}
use Rattle.account.specs.declared.Day.{Day}
use Rattle.book_model.specs.declared.Parts.{Parts}
use Rattle.book_model.specs.Book.{empty_book}
use Rattle.book_model.specs.Open.{opened}
use Rattle.book_model.specs.Advance.{advanced}
use Rattle.book_model.specs.Rate.{rated}
use Rattle.book_model.specs.Transfer.{transferred}
use Rattle.book_model.specs.Settle.{settled}

-- the empty book, and what each call with any arguments gives back of a reached one
pub data Reached : Book → Type 0 where
  empty : Reached empty_book
  opens : {b : Book} → Reached b → (first : ℕ) (term : Day) (annual : ℕ) (cents : Cents) (hs ss : List ℕ) → Reached (opened b first term annual cents hs ss).book
  advances : {b : Book} → Reached b → (date : ℕ) → Reached (advanced b date).book
  rates : {b : Book} → Reached b → (date annual : ℕ) → Reached (rated b date annual).book
  transfers : {b : Book} → Reached b → (cedent assignee : ℕ) (parts : Parts) → Reached (transferred b cedent assignee parts).book
  settles : {b : Book} → Reached b → (cents : Cents) → Reached (settled b cents).book
