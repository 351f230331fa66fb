-- The loop's invariant: what is left of the file gives what the whole file gives.
use Rattle.std.proofs.Common.{length, ◌-◌}
use Rattle.file.proofs.LoadLeft.{Left}
use Rattle.file.proofs.loading.load_lines.Given as goal

abbrev pub invariant-loop-lines : goal.invariant-loop-lines
invariant-loop-lines l = Left l.file l.fn.book.book l.book.book l.lines

abbrev pub decreases-loop-lines : goal.decreases-loop-lines
decreases-loop-lines l = length l.file - l.lines.reader.at
