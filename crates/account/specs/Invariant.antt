-- Figures, orders and settlements within which an account's arithmetic fits. Private contracts alone cite this: nobody has to believe it.
use Rattle.std.specs.Prelude.{ℕ, ◌+◌, ◌*◌, ◌≤◌, ◌<◌, ◌≡◌, List, [], ◌∷◌}
use Rattle.rates.specs.Rate.{greatest_daily}
use Rattle.account.specs.declared.Account.{Account}
use Rattle.account.specs.declared.RateOrder.{RateOrder}
use Rattle.account.specs.declared.Settlement.{Settlement}

-- figures that the arithmetic of one step fits; no invariant of `Account`, since every entry takes any numbers, and a type of accounts that fit would be made
-- and taken apart at each entry: a walk alone keeps one
pub record Fits (a : Account) : Type 0 where
  pub principal : a.outstanding.0 ≤ 1000000000000
  pub interest : a.due.0 ≤ 1000000000000
  pub below : a.fraction < 10000000000
  pub principal-paid : a.principal_paid.0 ≤ 1000000000000
  pub interest-paid : a.interest_paid.0 ≤ 1000000000000

-- the most interest of a day, in whole cents: that of 10^12 cents at the greatest daily rate
abbrev pub day_interest : ℕ
day_interest = 100 * greatest_daily

-- the figures of an account after at most n days; a day brings at most `day_interest`, and a cent from the fraction
pub record Bounded (n : ℕ) (a : Account) : Type 0 where
  pub principal : a.outstanding.0 + a.principal_paid.0 ≤ 1000000000000
  pub below : a.fraction < 10000000000
  pub interest : a.due.0 + a.interest_paid.0 ≤ n * (day_interest + 1)

-- no daily rate is over that of 4 percent
abbrev pub Moderate : List RateOrder → Type 0
Moderate [] = Unit {0}
Moderate (o ∷ os) = (o.daily ≤ greatest_daily) × Moderate os

-- orders that follow one another by first day, all after one day
abbrev pub Rising : ℕ → List RateOrder → Type 0
Rising day [] = Unit {0}
Rising day (o ∷ os) = (day < o.first.0) × Rising o.first.0 os

-- orders of which the first holds from day 0
abbrev pub FromStart : List RateOrder → Type 0
FromStart [] = ⊥
FromStart (o ∷ os) = (o.first.0 ≡ 0) × Rising o.first.0 os

-- the settlements follow one another by day, all after one day and none after another
abbrev pub Timely : ℕ → List Settlement → ℕ → Type 0
Timely from [] today = from ≤ today
Timely from (s ∷ ss) today = (from < s.day.0) × Timely s.day.0 ss today
