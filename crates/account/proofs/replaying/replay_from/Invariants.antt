-- The loop's invariant: what is left of the replay is what was asked at the start, and a settlement that is over is all that is told of so far.
use Rattle.std.proofs.Common.{◌≤◌, ◌≡◌, false, drop}
use Rattle.std.specs.Result.{IfErr, is_err}
use Rattle.account.specs.Walked.{left_of}
use Rattle.account.specs.declared.Unreckoned.TheVariants.{Overpaid}
use Rattle.account.proofs.replaying.replay_from.Given as goal

abbrev pub invariant-loop-settlement : goal.invariant-loop-settlement
invariant-loop-settlement l =
    (l.walk.day.0 ≤ l.today.0)
    × (left_of false l.fn.start l.settlements l.today.0 ≡ left_of (is_err l.outcome) l.walk (drop l.settlement-index l.settlements) l.today.0)
    × IfErr l.outcome (λ e. e ≡ Overpaid)
