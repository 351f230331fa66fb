-- A reached book is sound, and it is reached again afterwards.
use Rattle.book_model.specs.Reached.{advances}
use Rattle.book_model.proofs.Callers.{is_sound, reached_by}
use Rattle.book_advance.proofs.advance_in_place.Goals as goal

pub advance_in-requires : goal.advance_in-requires
advance_in-requires c = is_sound c.args.book.now.reached

pub invariant_of-book : goal.invariant_of-book
invariant_of-book c = record { reached = reached_by c.args.book.now.reached c.advance_in.ensures (λ r. advances r _) }
