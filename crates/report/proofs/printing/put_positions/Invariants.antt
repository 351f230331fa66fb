-- The lines of the places passed are in the buffer.
use Rattle.std.proofs.Common.{◌≡◌, take}
use Rattle.std.proofs.lemmas.List.Edits.{sets}
use Rattle.report.specs.Statement.{position_lines}
use Rattle.report.proofs.printing.put_positions.Given as goal

abbrev pub invariant-loop-place : goal.invariant-loop-place
invariant-loop-place l = l.out ≡ sets l.initial.out 81 (position_lines (take l.place l.held))
