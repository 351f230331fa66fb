-- The positions before this one have gained their unit-days.
use Rattle.std.proofs.Common.{◌≡◌}
use Rattle.book_advance.proofs.Held.{held_up_to}
use Rattle.book_advance.proofs.hold.Given as goal

abbrev pub invariant-loop-position : goal.invariant-loop-position
invariant-loop-position l = l.held ≡ held_up_to l.days.0 l.initial.held l.position-index
