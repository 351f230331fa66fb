-- A walk that tests each order as it comes to it: its beginning, one order on, and its end.
use Rattle.std.proofs.Common.{ℕ, ◌+◌, ◌-◌, ◌≤◌, arith, ◌≡◌, refl, sym, subst, ◌∙◌, true, false, List, ◌∷◌, le-leb}
use Rattle.account.specs.declared.RateOrder.{RateOrder}
use Rattle.account.specs.declared.walking.Elapsed.{Elapsed}
use Rattle.account.specs.Accrual.{accrued_days, paid_off, worth}
use Rattle.account.specs.Invariant.{Bounded}
use Rattle.account.specs.Ranges.{is_next, is_rising}
use Rattle.account.specs.Schedule.{in_force}
use Rattle.account.specs.Walk.{elapsed, Next}
use Rattle.account.specs.Walked.{ahead, Went}
use Rattle.account.proofs.Bounds.{bounded-days, bounded-paid}
use Rattle.account.proofs.Segments.{elapsed-add, elapsed_constant, elapsed_same, none_until}

-- where it begins
pub walk_begins : (w : Elapsed) → Went w w
unfolding elapsed
walk_begins w =
    let e : w.day.0 - w.day.0 ≡ 0 = omega arith in
    record { since = omega arith; left = refl; same-rates = λ r t le. refl; is-elapsed = λ r. rw e }

-- on, and then further on
pub went_on : {first old new : Elapsed} → Went first old → Went old new → Went first new
went_on {first} {old} {new} g h =
    let sum : new.day.0 - first.day.0 ≡ (old.day.0 - first.day.0) + (new.day.0 - old.day.0) = omega (arith, g.since, h.since) in
    let here : first.day.0 + (old.day.0 - first.day.0) ≡ old.day.0 = omega (arith, g.since) in
    record {
      since = omega (arith, g.since, h.since);
      left = g.left ∙ h.left;
      same-rates = λ r t le. g.same-rates r t (omega (arith, h.since)) ∙ h.same-rates (sym g.left ∙ r) t le;
      is-elapsed = λ r.
          h.is-elapsed (sym g.left ∙ r)
          ∙ elapsed_same (ahead old) (ahead first) old.day.0 (new.day.0 - old.day.0) old.account (λ t le. sym (g.same-rates r t le))
          ∙ rw (g.is-elapsed r, sum, elapsed-add (ahead first) first.day.0 (old.day.0 - first.day.0) (new.day.0 - old.day.0) first.account, here);
    }

module _ (w : Elapsed) where
  -- the figures stay within their bounds: on a later day, at the daily rate of the order at hand
  pub bounded_on : (to : ℕ) → w.day.0 ≤ to → Bounded to (accrued_days (to - w.day.0) w.order.now.daily w.account)
  bounded_on to le =
      let at : w.day.0 + (to - w.day.0) ≡ to = omega arith in
      subst (λ (n : ℕ). Bounded n (accrued_days (to - w.day.0) w.order.now.daily w.account)) at
      (bounded-days w.day.0 (to - w.day.0) w.order.now.daily w.account w.low w.bounded)

  -- and behind a settlement
  pub bounded_behind : (m : ℕ) → m ≤ worth w.account → Bounded w.day.0 (paid_off m w.account)
  bounded_behind m le = bounded-paid w.day.0 m w.account le w.bounded

  -- the days up to one that the next order doesn't precede
  stretch : (to : ℕ) → w.day.0 ≤ to → Next w.order.now.first.0 to w.later.now → is_rising w.order.now.first.0 w.later.now ≡ true
      → accrued_days (to - w.day.0) w.order.now.daily w.account ≡ elapsed (ahead w) w.day.0 (to - w.day.0) w.account
  stretch to le next r =
      sym (elapsed_constant (ahead w) w.order.now.daily w.day.0 (to - w.day.0) w.account
      (λ t low high. none_until (λ (o : RateOrder). o.daily) w.order.now.daily w.later.now w.order.now.first.0 to t r next (omega arith)))

  -- up to the end
  pub walk_ends : (after : Elapsed) → after.order ≡ w.order → after.later ≡ w.later → w.day.0 ≤ after.day.0
      → after.account ≡ accrued_days (after.day.0 - w.day.0) w.order.now.daily w.account → Went w after
  walk_ends after order later le e =
      record {
        since = le;
        left = rw (order, later);
        same-rates = λ r t low. rw (order, later);
        is-elapsed = λ r. e ∙ stretch after.day.0 le (rw (order, later) at after.next) r;
      }

  module _ (o : RateOrder) (os : List RateOrder) (rest : w.later.now ≡ o ∷ os) where
    -- the next order is not right
    pub no_next : is_next w.order.now.first.0 o ≡ false → is_rising w.order.now.first.0 w.later.now ≡ false
    unfolding is_rising
    no_next wrong = rw (rest, wrong)

    -- it is right, and the walk comes to it on its first day
    pub walk-next : is_next w.order.now.first.0 o ≡ true → (after : Elapsed) → after.order.now ≡ o → after.later.now ≡ os → after.day ≡ o.first
        → after.account ≡ accrued_days (o.first.0 - w.day.0) w.order.now.daily w.account → Went w after
    unfolding is_rising in_force
    walk-next right after order later day e =
        let le = w.next o os rest right in
        let here : Next w.order.now.first.0 o.first.0 w.later.now = λ o' os' e' right'. grind (arith, rest) in
        record {
          since = rw day le;
          left = rw (rest, order, later, right);
          same-rates = λ r t low. rw (rest, order, later, le-leb o.first.0 t (rw day at low));
          is-elapsed = λ r. rw day (e ∙ stretch o.first.0 le here r);
        }
