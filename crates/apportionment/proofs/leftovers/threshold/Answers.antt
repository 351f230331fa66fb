-- The range holds the place sought, and each halving keeps it.
use Rattle.std.proofs.Common.{◌≡◌, ◌<◌, ◌≤◌, ◌+◌, ◌-◌, ◌/◌, length, MatchOption, EachIndex, rules, arith}
use Rattle.apportionment.specs.Steps.{at}
use Rattle.apportionment.proofs.Threshold.{least_of, greatest_of, none_above, all_from, above-within}
use Rattle.apportionment.proofs.leftovers.threshold.Goals as goal

pub loop-low-init : goal.loop-low-init
loop-low-init c =
    let rs = c.args.remainders.now in
    let least : MatchOption c.min.result (length rs ≡ 0) (λ m. EachIndex rs (λ k. m ≤ at rs k)) = search rules in
    let greatest : MatchOption c.max.result (length rs ≡ 0) (λ m. EachIndex rs (λ k. at rs k ≤ m)) = search rules in
    let low = least_of rs c.min.result c.unwrap_or-low.result c.unwrap_or-low.ensures least in
    let high = greatest_of rs c.max.result c.unwrap_or-high.result c.unwrap_or-high.ensures greatest in
    let some : 0 < length rs = omega arith in (
      omega (arith, low 0 some, high 0 some),
      omega (arith, none_above rs c.unwrap_or-high.result high),
      omega (arith, all_from rs c.unwrap_or-low.result low),
    )

pub returns-then-found-leftover : goal.returns-then-found-leftover
returns-then-found-leftover c =
    let e = c.count_above-found.ensures in
    let w = above-within c.args.remainders.now (c.loop-low.low + (c.loop-low.high - c.loop-low.low) / 2) in
    record { upper = omega arith; lower = omega arith }
