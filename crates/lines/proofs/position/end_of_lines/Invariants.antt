-- The invariant: the reader stands where the lines end that were passed.
use Rattle.std.proofs.Common.{◌≡◌}
use Rattle.lines.specs.Lines.{start_of}
use Rattle.lines.proofs.position.end_of_lines.Given as goal

abbrev pub invariant-loop : goal.invariant-loop
invariant-loop l = (l.reader.file.now ≡ l.file) × (l.reader.at ≡ start_of l.file l.counter)
