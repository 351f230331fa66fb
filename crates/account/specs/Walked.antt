-- A walk that went on, and what is left of a replay behind it. Private contracts alone cite this: nobody has to believe it.
use Rattle.std.specs.Prelude.{ℕ, ◌-◌, ◌≤◌, ◌≡◌, Bool, true, cond, not, List, [], ◌∷◌, ltb, Result, Ok, Err}
use Rattle.account.specs.declared.Account.{Account}
use Rattle.account.specs.declared.RateOrder.{RateOrder}
use Rattle.account.specs.declared.Settlement.{Settlement}
use Rattle.account.specs.declared.Unreckoned.{Unreckoned}
use Rattle.account.specs.declared.Unreckoned.TheVariants.{Overpaid, OutOfRange}
use Rattle.account.specs.declared.walking.Elapsed.{Elapsed}
use Rattle.account.specs.Accrual.{paid_off, worth}
use Rattle.account.specs.Ranges.{is_rising, is_timely}
use Rattle.account.specs.Schedule.{in_force}
use Rattle.account.specs.Walk.{elapsed}

-- the daily rate of a day of which a walk has not come to the end
abbrev pub ahead : Elapsed → ℕ → ℕ
ahead w day = in_force (λ (o : RateOrder). o.daily) w.order.now.daily w.later.now day

-- a walk went on from one day to another: the orders that it passed are right, and each day has its own rate
pub record Went (before after : Elapsed) : Type 0 where
  pub since : before.day.0 ≤ after.day.0
  pub left : is_rising before.order.now.first.0 before.later.now ≡ is_rising after.order.now.first.0 after.later.now
  pub same-rates : is_rising before.order.now.first.0 before.later.now ≡ true → (t : ℕ) → after.day.0 ≤ t → ahead before t ≡ ahead after t
  pub is-elapsed : is_rising before.order.now.first.0 before.later.now ≡ true
      → after.account ≡ elapsed (ahead before) before.day.0 (after.day.0 - before.day.0) before.account

-- what is left of a replay: the settlements to come, from an account on a day
unfoldable pub replay_from : (ℕ → ℕ) → Account → ℕ → List Settlement → ℕ → Result Account Unreckoned
replay_from daily a from [] today = Ok (elapsed daily from (today - from) a)
replay_from daily a from (s ∷ ss) today =
    cond (ltb (worth (elapsed daily from (s.day.0 - from) a)) s.cents.0) (Err Overpaid)
    (replay_from daily (paid_off s.cents.0 (elapsed daily from (s.day.0 - from) a)) s.day.0 ss today)

-- the same with the tests that are left, where a settlement so far was over or not
unfoldable pub left_of : Bool → Elapsed → List Settlement → ℕ → Result Account Unreckoned
left_of over w ss today =
    cond (not (is_rising w.order.now.first.0 w.later.now)) (Err OutOfRange)
    (cond (not (is_timely w.day.0 ss today)) (Err OutOfRange)
    (cond over (Err Overpaid) (replay_from (ahead w) w.account w.day.0 ss today)))
