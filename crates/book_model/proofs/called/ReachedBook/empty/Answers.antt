-- The empty book is reached.
use Rattle.book_model.specs.Reached.{empty}
use Rattle.book_model.proofs.called.ReachedBook.empty.Goals as goal

pub invariant_of-result : goal.invariant_of-result
invariant_of-result c = rw c.empty.ensures (record { reached = ∣ empty ∣₁ })
