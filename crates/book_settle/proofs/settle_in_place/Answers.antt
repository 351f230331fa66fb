-- A reached book is sound, and it is reached again afterwards.
use Rattle.book_model.specs.Reached.{settles}
use Rattle.book_model.proofs.Callers.{is_sound, reached_by}
use Rattle.book_settle.proofs.settle_in_place.Goals as goal

pub settle_in-requires : goal.settle_in-requires
settle_in-requires c = is_sound c.args.book.now.reached

pub invariant_of-book : goal.invariant_of-book
invariant_of-book c = record { reached = reached_by c.args.book.now.reached c.settle_in.ensures (λ r. settles r _) }
