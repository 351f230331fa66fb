-- How many positions an open book that calls reached has in use, and where a holder stands among them.
use Rattle.std.proofs.Common.{arith, ◌≡◌, true, length}
use Rattle.book_model.specs.declared.Book.{Book}
use Rattle.book_model.specs.Book.{held}
use Rattle.book_model.specs.Reached.{Reached}
use Rattle.book_model.proofs.Callers.{is_sound, found_at, found_nothing, length-held}

pub held_counted : (b : Book) → ∥ Reached b ∥₁ → b.opened ≡ true → length (held b) ≡ b.count
held_counted b reached is_open =
    let s = is_sound reached in length-held b (omega (arith, s.room-positions, (s.when_open is_open).positions-most))

pub ruleset lookups = (found_at, found_nothing)
