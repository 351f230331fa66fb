-- The first i quotients and remainders stand in the arrays, and the rest of the amount is left over.
use Rattle.std.proofs.Common.{◌≡◌, ◌+◌}
use Rattle.general_laws.specs.Sums.{sum_below}
use Rattle.apportionment.specs.Apportionment.{quotient, remainder, padded}
use Rattle.apportionment.proofs.quotients.divided.Given as goal

abbrev pub invariant-loop-i : goal.invariant-loop-i
invariant-loop-i l =
    (l.parts ≡ padded l.i (quotient l.amount l.weights))
    × (l.remainders ≡ padded l.i (remainder l.amount l.weights))
    × (l.leftover + sum_below l.i (quotient l.amount l.weights) ≡ l.amount)
