-- The loop's invariant: with the holders and shares so far, what is left is what was asked.
use Rattle.std.proofs.Common.{length, ◌-◌}
use Rattle.file.proofs.FinancingLines.{Gathering}
use Rattle.file.proofs.financing.gather.Given as goal

abbrev pub invariant-loop-lines : goal.invariant-loop-lines
invariant-loop-lines l = Gathering l.initial.lines l.lines l.financing

abbrev pub decreases-loop-lines : goal.decreases-loop-lines
decreases-loop-lines l = length l.lines.reader.file.now - l.lines.reader.at
