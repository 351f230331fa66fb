-- Each F line by what reading it gave, and the line behind them.
use Rattle.std.proofs.Common.{arith, rules, ◌≡◌, get_or}
use Rattle.std.proofs.lemmas.Grind.{common_steps}
use Rattle.file.proofs.LinesLeft.{Read}
use Rattle.file.proofs.FinancingLines.{byte_there, gathering-malformed, gathering-full, gathering_goes_on, gathering-ends}
use Rattle.file.proofs.financing.gather.Goals as goal
use Rattle.file.proofs.financing.gather.Goals.{After-next_line}

is_f : (c : After-next_line) → get_or c.loop-lines.lines.reader.file.now c.loop-lines.lines.reader.at 0 ≡ 70
is_f c = grind (arith, common_steps)

read : (c : After-next_line) → Read c.loop-lines.lines c.next_line.new.self
read c = grind (arith, common_steps, byte_there)

pub returns-in_err-fields-clause-gathered : goal.returns-in_err-fields-clause-gathered
returns-in_err-fields-clause-gathered c =
    let at = (goal.at.returns-in_err-fields-clause-gathered c).After-next_line in
    gathering-malformed c.loop-lines.invariant (read at) (is_f at) c.in_err-fields.ensures.line c.from_residual.result (search rules)

pub returns-then-is_full-clause-gathered : goal.returns-then-is_full-clause-gathered
returns-then-is_full-clause-gathered c =
    let at = (goal.at.returns-then-is_full-clause-gathered c).After-next_line in
    gathering-full c.loop-lines.invariant (read at) (is_f at) _ c.in_ok-fields.ensures.line (grind (arith, common_steps)) c.fault.result c.fault.ensures

pub loop-lines-preserved : goal.loop-lines-preserved
loop-lines-preserved c =
    let at = (goal.at.loop-lines-preserved c).After-next_line in
    gathering_goes_on c.loop-lines.invariant (read at) (is_f at) _ c.in_ok-fields.ensures.line (grind (arith, common_steps))
    c.push.ensures.items (rw c.share_of.ensures at c.push-in-loop-lines.ensures.items)

pub returns-clause-gathered : goal.returns-clause-gathered
returns-clause-gathered c = gathering-ends c.loop-lines.invariant (λ e. grind (arith, common_steps))
