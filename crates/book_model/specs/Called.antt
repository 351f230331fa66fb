-- What a call gives back, as its number and values, and the book.
use Rattle.book_model.specs.declared.Refusal.{Refusal}
use Rattle.book_model.specs.declared.called.Called.{Called}
use Rattle.book_model.specs.declared.called.ReachedBook.{ReachedBook}
use Rattle.book_model.specs.Outcome.{Outcome, outcome}

abbrev pub stated : {A : Type 0} → A → Called A Refusal ReachedBook → Outcome A
stated zeros called = outcome zeros called.answer called.book.book
