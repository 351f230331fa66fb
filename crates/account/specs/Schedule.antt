-- The rate in force on a day, and the day of the last settlement, off the stored lists.
use Rattle.std.specs.Prelude.{ℕ, cond, List, [], ◌∷◌, leb}
use Rattle.account.specs.declared.RateOrder.{RateOrder}
use Rattle.account.specs.declared.Settlement.{Settlement}

-- "The rate in force on a day is that of the latest accepted order (opening included) whose first day is not after it"
-- where `of` reads an order's rate, and `before` is the rate in force before the first of them
unfoldable pub in_force : (RateOrder → ℕ) → ℕ → List RateOrder → ℕ → ℕ
in_force of before [] day = before
in_force of before (o ∷ os) day = in_force of (cond (leb o.first.0 day) (of o) before) os day

-- the stored daily rate of that order; the 0 is never met where an order from day 0 comes first
abbrev pub stored_on : List RateOrder → ℕ → ℕ
stored_on orders day = in_force (λ (o : RateOrder). o.daily) 0 orders day

-- the day of the last settlement, or the given day where there is none
unfoldable pub last_day : ℕ → List Settlement → ℕ
last_day day [] = day
last_day day (s ∷ ss) = last_day s.day.0 ss
