-- The columns so far are those of an unused field, or not.
use Rattle.std.proofs.Common.{◌≡◌, false}
use Rattle.line.specs.Field.{field_at}
use Rattle.line.specs.Line.{proper}
use Rattle.line.proofs.field.is_unused.Given as goal

abbrev pub invariant-loop-column : goal.invariant-loop-column
invariant-loop-column l = l.unused ≡ proper false (field_at l.columns 0 l.column-index)
