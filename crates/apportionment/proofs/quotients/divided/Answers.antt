-- One quotient and one remainder more, and the amount less that quotient; then the units left over are handed out.
use Rattle.std.proofs.Common.{ℕ, List, length, take, ◌≡◌, ◌∙◌, ap, arith}
use Rattle.general_laws.proofs.Sums.{sum-none, sum-suc}
use Rattle.apportionment.specs.Apportionment.{quotient, remainder, leftover, padded}
use Rattle.apportionment.proofs.Arrays.{padded-none, padded_step}
use Rattle.apportionment.proofs.Whole.{leftover_is, in_use, few, product_fits, quotient_is, remainder_is, left_is, quotients-most, whole_parts, extra-parts}
use Rattle.apportionment.proofs.quotients.divided.Goals as goal
use Rattle.apportionment.proofs.quotients.divided.Goals.{After-loop-i}

pub loop-i-init : goal.loop-i-init
loop-i-init c = (
  padded-none _,
  padded-none _,
  omega (arith, sum-none (quotient c.args.amount c.args.weights.now)),
)

pub overflow_mul-product : goal.overflow_mul-product
overflow_mul-product c = record { fits = product_fits _ _ _ c.requires _ c.loop-i-test.true }

pub overflow_sub-leftover : goal.overflow_sub-leftover
overflow_sub-leftover c = omega (arith, quotient_is _ _ _ c.requires _ c.loop-i-test.true, left_is _ _ _ c.requires _ c.loop-i-test.true)

pub loop-i-preserved : goal.loop-i-preserved
loop-i-preserved c =
    let i = c.loop-i.i in
    let m = c.args.amount in
    let ws = c.args.weights.now in
    let w = c.requires in
    let lt = c.loop-i-test.true in
    let q = quotient_is _ _ _ w _ lt in (
      rw c.loop-i.invariant.0 (padded_step i (quotient m ws) _ (omega (arith, w.places)) q),
      rw c.loop-i.invariant.1 (padded_step i (remainder m ws) _ (omega (arith, w.places)) (remainder_is _ _ _ w _ lt)),
      omega (arith, sum-suc i (quotient m ws), left_is _ _ _ w _ lt),
    )

-- behind the last weight
ended : (c : After-loop-i)
    → (c.loop-i.parts ≡ padded (length c.args.weights.now) (quotient c.args.amount c.args.weights.now))
    × (c.loop-i.remainders ≡ padded (length c.args.weights.now) (remainder c.args.amount c.args.weights.now))
    × (c.loop-i.leftover ≡ leftover c.args.amount c.args.weights.now)
ended c =
    let end : c.loop-i.i ≡ length c.args.weights.now = omega arith in
    (rw end at c.loop-i.invariant.0, rw end at c.loop-i.invariant.1, leftover_is _ _ _ (rw end at c.loop-i.invariant.2))

pub overflow_cast-leftover : goal.overflow_cast-leftover
overflow_cast-leftover c =
    let end = ended (goal.at.overflow_cast-leftover c).After-loop-i in
    record { fits = omega (arith, few c.args.amount c.args.weights.now _ c.requires, c.requires.places, end.2) }

pub hand_out-requires-clause-places : goal.hand_out-requires-clause-places
hand_out-requires-clause-places c =
    let m = c.args.amount in
    let ws = c.args.weights.now in
    let end = ended (goal.at.hand_out-requires-clause-places c).After-loop-i in
    let n = ap (λ (xs : List ℕ). length (take (length ws) xs)) end.1 ∙ in_use m ws _ c.requires in
    (omega arith, omega (arith, few m ws _ c.requires, end.2, n), omega (arith, c.requires.places, n))

pub hand_out-requires-clause-parts_small : goal.hand_out-requires-clause-parts_small
hand_out-requires-clause-parts_small c =
    let end = ended (goal.at.hand_out-requires-clause-parts_small c).After-loop-i in rw end.0 (quotients-most _ _ _ c.requires)

pub returns-then-leftover-gt0 : goal.returns-then-leftover-gt0
returns-then-leftover-gt0 c =
    let end = ended (goal.at.returns-then-leftover-gt0 c).After-loop-i in
    let n = in_use c.args.amount c.args.weights.now _ c.requires in
    c.hand_out.ensures ∙ rw (end.0, end.1, end.2, n) (extra-parts _ _ _ c.requires)

pub returns-else-leftover-gt0 : goal.returns-else-leftover-gt0
returns-else-leftover-gt0 c =
    let end = ended (goal.at.returns-else-leftover-gt0 c).After-loop-i in rw end.0 (whole_parts _ _ _ c.requires (omega (arith, end.2)))
