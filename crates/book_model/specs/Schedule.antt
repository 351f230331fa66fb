-- The rate in force on a day, off the stored rates.
use Rattle.std.specs.Prelude.{ℕ, List}
use Rattle.rates.specs.Rate.{daily_of}
use Rattle.account.specs.declared.RateOrder.{RateOrder}
use Rattle.account.specs.Schedule.{in_force}

-- "The rate in force on a day is that of the latest accepted order (opening included) whose first day is not after it". The 0 is never met: a rate from
-- day 0 is always stored
abbrev pub annual_on : List RateOrder → ℕ → ℕ
annual_on orders day = in_force (λ (o : RateOrder). o.annual) 0 orders day

-- that day's d
abbrev pub daily_on : List RateOrder → ℕ → ℕ
daily_on orders day = daily_of (annual_on orders day)
