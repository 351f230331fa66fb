-- The invariant: what is left of the number, before the columns that stand.
use Rattle.std.proofs.Common.{◌≡◌, ◌++◌, drop, length}
use Rattle.line.specs.Field.{padded, justified}
use Rattle.line.proofs.field.write_number.Given as goal

abbrev pub invariant-loop-i : goal.invariant-loop-i
invariant-loop-i l = (padded l.i l.m ++ drop l.i l.columns ≡ justified (length l.fn.columns) l.n) × (length l.columns ≡ length l.fn.columns)
