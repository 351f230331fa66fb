-- One settlement on, which is over or is paid; and what is told behind the last.
use Rattle.std.proofs.Common.{◌≡◌, true, false, cond, Ok, refl, sym, ◌∙◌, Err, arith, rules}
use Rattle.std.proofs.lemmas.Grind.{common_steps}
use Rattle.std.specs.Result.{is_err}
use Rattle.account.specs.declared.Unreckoned.TheVariants.{Overpaid}
use Rattle.account.specs.Walked.{left_of}
use Rattle.account.proofs.Replays.{turn_over, turn_paid, ended}
use Rattle.account.proofs.replaying.replay_from.Goals as goal
use Rattle.account.proofs.replaying.replay_from.Goals.{After-are_rising, then-lt-2, else-lt-2}

pub loop-settlement-preserved : goal.loop-settlement-preserved
loop-settlement-preserved c =
    let g = c.in_ok-walk.ensures.went in
    elim c.if-lt-2.branch [
      | then-lt-2 w ↦ rw (w.walk-is, w.outcome-is) (
        grind (arith, common_steps),
        c.loop-settlement.invariant.1 ∙ turn_over _ g.0 _ _ _ c.loop-settlement-test.true g.1 (grind (arith, common_steps)) (grind (arith, common_steps)),
        refl,
      )
      | else-lt-2 w ↦ rw (w.walk-is, w.outcome-is) (
        grind (arith, common_steps),
        c.loop-settlement.invariant.1
            ∙ turn_paid _ g.0 _ _ _ c.loop-settlement-test.true g.1 (grind (arith, common_steps)) (grind (arith, common_steps)) _ w.pay-walk.ensures.same.1 w.pay-walk.ensures.same.2 w.pay-walk.ensures.same.0 w.pay-walk.ensures.account,
        c.loop-settlement.invariant.2,
      )
    ]

-- behind the last settlement
at-end : (c : After-are_rising) → c.are_rising.result ≡ true → left_of false c.args.start c.args.settlements.now c.args.today.0
    ≡ cond (is_err c.loop-settlement.outcome) (Err Overpaid) (Ok c.in_ok-last.last.account)
at-end c rising =
    c.loop-settlement.invariant.1
    ∙ ended _ c.in_ok-last.ensures.went.0 _ _ _ c.loop-settlement-test.false c.in_ok-last.ensures.went.1 (sym c.are_rising.ensures ∙ rising)

pub returns-in_err-outcome : goal.returns-in_err-outcome
returns-in_err-outcome c =
    let told : c.from_residual-in_err-outcome.result ≡ Err c.in_err-outcome.field-0.0 = search rules in
    let end = at-end (goal.at.returns-in_err-outcome c).After-are_rising c.if-not-are_rising.false in
    told ∙ rw (rw c.in_err-outcome.was at c.loop-settlement.invariant.2) (sym (rw c.in_err-outcome.was at end))

pub returns : goal.returns
returns c = sym (rw c.in_ok-outcome.was at (at-end (goal.at.returns c).After-are_rising c.if-not-are_rising.false))
