-- What the range tests say.
use Rattle.std.proofs.Common.{ℕ, ◌≤◌, ◌<◌, arith, ◌≡◌, refl, true, false, List, [], ◌∷◌, ltb-true, leb-true, lt-ltb, le-ltb, le-leb, eq-eqb, ltb}
use Rattle.general_laws.proofs.Choice.{by-test}
use Rattle.std.proofs.lemmas.Bool.{and_parts}
use Rattle.std.proofs.lemmas.Grind.{common_steps}
use Rattle.rates.specs.Rate.{greatest_daily}
use Rattle.account.specs.declared.Account.{Account}
use Rattle.account.specs.declared.RateOrder.{RateOrder}
use Rattle.account.specs.declared.Settlement.{Settlement}
use Rattle.account.specs.Ranges.{is_account, is_next, is_rising, is_schedule, is_timely}
use Rattle.account.specs.Invariant.{Fits, Moderate, Rising, FromStart, Timely}
use Rattle.account.proofs.Timeline.{timely-most}

-- an account

pub account_fits : (a : Account) → is_account a ≡ true → Fits a
unfolding is_account
account_fits a e =
    record {
      principal = grind (arith, common_steps);
      interest = grind (arith, common_steps);
      below = grind (arith, common_steps);
      principal-paid = grind (arith, common_steps);
      interest-paid = grind (arith, common_steps);
    }

pub fits-account : (a : Account) → Fits a → is_account a ≡ true
unfolding is_account
fits-account a h = grind (arith, common_steps)

-- a schedule

pub rising_says : (day : ℕ) (os : List RateOrder) → is_rising day os ≡ true → Rising day os
unfolding is_rising
rising_says day [] e = tt
rising_says day (o ∷ os) e =
    let h = and_parts (is_next day o) _ e in
    (ltb-true _ _ (and_parts (ltb day o.first.0) _ h.0).0, rising_says o.first.0 os h.1)

rising-told : (day : ℕ) (os : List RateOrder) → Moderate os → Rising day os → is_rising day os ≡ true
unfolding is_rising
rising-told day [] m r = refl
rising-told day (o ∷ os) m r =
    rw (lt-ltb day o.first.0 r.0, le-leb o.daily greatest_daily m.0) (rising-told o.first.0 os m.1 r.1)

pub schedule_told : (os : List RateOrder) → Moderate os → FromStart os → is_schedule os ≡ true
unfolding is_schedule
schedule_told [] m h = absurd h
schedule_told (o ∷ os) m h =
    rw (eq-eqb o.first.0 0 h.0, le-leb o.daily greatest_daily m.0) (rising-told o.first.0 os m.1 h.1)

-- settlements in order

pub timely_says : (day : ℕ) (ss : List Settlement) (today : ℕ) → is_timely day ss today ≡ true → Timely day ss today
unfolding is_timely
timely_says day [] today e = leb-true _ _ e
timely_says day (s ∷ ss) today e =
    let h = and_parts (ltb day s.day.0) _ e in (ltb-true _ _ h.0, timely_says s.day.0 ss today h.1)

pub timely-told : (day : ℕ) (ss : List Settlement) (today : ℕ) → Timely day ss today → is_timely day ss today ≡ true
unfolding is_timely
timely-told day [] today h = le-leb _ _ h
timely-told day (s ∷ ss) today h = rw (lt-ltb day s.day.0 h.0) (timely-told s.day.0 ss today h.1)

pub not_later : (day : ℕ) (s : Settlement) (ss : List Settlement) (today : ℕ) → s.day.0 ≤ day → is_timely day (s ∷ ss) today ≡ false
unfolding is_timely
not_later day s ss today le = rw (le-ltb day s.day.0 le)

pub after_today : (day : ℕ) (s : Settlement) (ss : List Settlement) (today : ℕ) → today < s.day.0 → is_timely day (s ∷ ss) today ≡ false
after_today day s ss today late =
    by-test (is_timely day (s ∷ ss) today)
    (λ e. let most = timely-most s.day.0 ss today (timely_says day (s ∷ ss) today e).1 in absurd (omega arith)) (λ e. e)
