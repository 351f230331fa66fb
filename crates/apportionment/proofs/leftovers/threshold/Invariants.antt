-- At most the leftover units' number of remainders is above `high`, and at least as many are not below `low`.
use Rattle.std.proofs.Common.{◌≤◌, ◌-◌}
use Rattle.apportionment.specs.Steps.{above, not_below}
use Rattle.apportionment.proofs.leftovers.threshold.Given as goal

abbrev pub invariant-loop-low : goal.invariant-loop-low
invariant-loop-low l =
    (l.low ≤ l.high)
    × (above l.remainders l.high ≤ l.leftover)
    × (l.leftover ≤ not_below l.remainders l.low)

abbrev pub decreases-loop-low : goal.decreases-loop-low
decreases-loop-low l = l.high - l.low
