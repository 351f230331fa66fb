-- The loop's invariant: the bytes passed are those of a filled buffer.
use Rattle.std.proofs.Common.{◌≡◌, take}
use Rattle.cases.specs.Filled.{filled}
use Rattle.cases.proofs.filling.fill.Given as goal

abbrev pub invariant-loop-i : goal.invariant-loop-i
invariant-loop-i l = take l.i l.buffer ≡ filled l.i
