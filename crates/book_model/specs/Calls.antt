-- An opening, and lists of calls after it, each given the book that the last gave back.
use Rattle.std.specs.Prelude.{ℕ, Bool, List, [], ◌∷◌, eqb}
use Rattle.book_model.specs.declared.Book.{Book}
use Rattle.book_model.specs.Call.{Opening, Call, Advance, Rate, Transfer, Settle}
use Rattle.book_model.specs.Outcome.{Outcome}
use Rattle.book_model.specs.Open.{opened}
use Rattle.book_model.specs.Advance.{advanced}
use Rattle.book_model.specs.Rate.{rated}
use Rattle.book_model.specs.Transfer.{transferred}
use Rattle.book_model.specs.Settle.{settled}

-- what Open with these arguments gives back
abbrev pub opened_with : Book → Opening → Outcome (Unit {0})
opened_with b o = opened b o.first (record { 0 = o.term }) o.annual (record { 0 = o.cents }) o.holders o.shares

-- the book that a call gives back, and the number that it answers
abbrev pub book_after : Book → Call → Book
book_after b (Advance date) = (advanced b date).book
book_after b (Rate date annual) = (rated b date annual).book
book_after b (Transfer c a n) = (transferred b c a (record { 0 = n })).book
book_after b (Settle m) = (settled b (record { 0 = m })).book

abbrev pub number_of : Book → Call → ℕ
number_of b (Advance date) = (advanced b date).answer.number
number_of b (Rate date annual) = (rated b date annual).answer.number
number_of b (Transfer c a n) = (transferred b c a (record { 0 = n })).answer.number
number_of b (Settle m) = (settled b (record { 0 = m })).answer.number

abbrev pub accepts : Book → Call → Bool
accepts b k = eqb (number_of b k) 0

-- "Each call gets the book the last gave back"
unfoldable pub run : Book → List Call → Book
run b [] = b
run b (k ∷ ks) = run (book_after b k) ks
