-- The loop's invariant: what is left of the test from the order at hand is the test of all.
use Rattle.std.proofs.Common.{◌≡◌, drop}
use Rattle.account.specs.Ranges.{is_rising}
use Rattle.account.proofs.ranges.are_rising.Given as goal

abbrev pub invariant-loop-next : goal.invariant-loop-next
invariant-loop-next l = is_rising l.fn.order.first.0 l.later ≡ is_rising l.before.first.0 (drop l.next-index l.later)
