-- A reached book is sound, and it is reached again afterwards.
use Rattle.book_model.specs.Reached.{opens}
use Rattle.book_model.proofs.Callers.{is_sound, reached_by}
use Rattle.book_open.proofs.open_book_in_place.Goals as goal

pub invariant_of-book : goal.invariant_of-book
invariant_of-book c = record { reached = reached_by c.args.book.now.reached c.open_in.ensures (λ r. opens r _ _ _ _ _ _) }

pub open_in-requires : goal.open_in-requires
open_in-requires c = is_sound c.args.book.now.reached
