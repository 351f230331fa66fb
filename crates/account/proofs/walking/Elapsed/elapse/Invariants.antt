-- The loop's invariant: the walk has gone on from its start, and no further than the end.
use Rattle.std.proofs.Common.{◌≤◌, ◌+◌, ◌-◌, length}
use Rattle.account.specs.Walked.{Went}
use Rattle.account.proofs.walking.Elapsed.elapse.Given as goal

abbrev pub invariant-loop-end : goal.invariant-loop-end
invariant-loop-end l = Went l.fn.self l.walk × (l.walk.day.0 ≤ l.end.0)

abbrev pub decreases-loop-end : goal.decreases-loop-end
decreases-loop-end l = length l.walk.later.now + (l.end.0 - l.walk.day.0)
