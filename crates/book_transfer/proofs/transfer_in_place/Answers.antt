-- A reached book is sound, and it is reached again afterwards.
use Rattle.book_model.specs.Reached.{transfers}
use Rattle.book_model.proofs.Callers.{is_sound, reached_by}
use Rattle.book_transfer.proofs.transfer_in_place.Goals as goal

pub transfer_in-requires : goal.transfer_in-requires
transfer_in-requires c = is_sound c.args.book.now.reached

pub invariant_of-book : goal.invariant_of-book
invariant_of-book c = record { reached = reached_by c.args.book.now.reached c.transfer_in.ensures (λ r. transfers r _ _ _) }
