-- A reached book is sound, and it is reached again afterwards.
use Rattle.book_model.specs.Reached.{rates}
use Rattle.book_model.proofs.Callers.{is_sound, reached_by}
use Rattle.book_rate.proofs.rate_in_place.Goals as goal

pub rate_in-requires : goal.rate_in-requires
rate_in-requires c = is_sound c.args.book.now.reached

pub invariant_of-book : goal.invariant_of-book
invariant_of-book c = record { reached = reached_by c.args.book.now.reached c.rate_in.ensures (λ r. rates r _ _) }
