-- One place more has its unit, or none is its due.
use Rattle.std.proofs.Common.{arith, ◌∙◌}
use Rattle.apportionment.proofs.Threshold.{equals_counts, equals-skips, given_above, given_equal}
use Rattle.apportionment.proofs.leftovers.hand_out.Goals as goal
use Rattle.apportionment.proofs.leftovers.hand_out.Goals.{then-remainder-bound+then-spare-gt0, else-remainder-bound, else-remainder-bound-via-then-remainder-bound+else-spare-gt0, else-remainder-bound-via-else-remainder-bound}

pub loop-i-preserved : goal.loop-i-preserved
loop-i-preserved c =
    let rs = c.args.remainders.now in
    let b = c.threshold-bound.result in
    let i = c.loop-i.i in
    let t = c.threshold-bound.ensures in
    let lt = c.loop-i-test.true in
    let few = c.requires.places.2 in
    let so_far = c.loop-i.invariant.0 in
    elim c.if-remainder-bound.branch [
      | then-remainder-bound+then-spare-gt0 w ↦ (
        w.parts-is ∙ given_equal _ _ _ _ _ _ t lt few so_far w.if-remainder-bound.true (omega arith),
        omega (arith, w.spare-is, equals_counts rs i b w.if-remainder-bound.true),
      )
      | else-remainder-bound w ↦
          elim w.else-remainder-bound.branch [
            | else-remainder-bound-via-then-remainder-bound+else-spare-gt0 w' ↦ (
              w.parts-is ∙ given_above _ _ _ _ _ _ t lt few so_far _ w.from.ensures (λ e. omega arith),
              omega (arith, w.spare-is, equals_counts rs i b w'.if-remainder-bound.true),
            )
            | else-remainder-bound-via-else-remainder-bound w' ↦ (
              w.parts-is ∙ given_above _ _ _ _ _ _ t lt few so_far _ w.from.ensures (λ e. absurd (w'.if-remainder-bound.false e)),
              omega (arith, w.spare-is, equals-skips rs i b w'.if-remainder-bound.false),
            )
          ]
    ]
