-- The weights of the positions passed so far are their unit-days.
use Rattle.std.proofs.Common.{◌≡◌, take}
use Rattle.book_model.specs.Positions.{unit_days_column}
use Rattle.book_settle.proofs.weights_of.Given as goal

abbrev pub invariant-loop-position : goal.invariant-loop-position
invariant-loop-position l =
    l.weights.items ≡ take l.position-index (unit_days_column l.position-items)
