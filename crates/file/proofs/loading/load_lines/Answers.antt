-- A malformed line stops the load.
use Rattle.std.proofs.Common.{arith, rules}
use Rattle.std.proofs.lemmas.Grind.{common_steps}
use Rattle.file.proofs.LinesLeft.{Read}
use Rattle.file.proofs.LoadLeft.{left-malformed}
use Rattle.file.proofs.loading.load_lines.Goals as goal

pub returns-in_err-order : goal.returns-in_err-order
returns-in_err-order c =
    let read : Read c.loop-lines.lines c.next_line.new.self = grind (arith, common_steps) in
    left-malformed c.loop-lines.invariant read c.in_err-order.ensures.line c.from_residual.result (search rules)
