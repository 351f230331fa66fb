-- The places before i have their units, and what is not spent on remainders at the threshold is spare.
use Rattle.std.proofs.Common.{◌≡◌, ◌-◌}
use Rattle.general_laws.specs.Sums.{list_below}
use Rattle.apportionment.specs.Steps.{above, equals, with_extra}
use Rattle.apportionment.proofs.leftovers.hand_out.Given as goal

abbrev pub invariant-loop-i : goal.invariant-loop-i
invariant-loop-i l =
    (l.parts ≡ list_below 64 (with_extra l.initial.parts l.remainders l.leftover l.i))
    × (l.spare ≡ l.leftover - above l.remainders l.bound - equals l.remainders l.i l.bound)
