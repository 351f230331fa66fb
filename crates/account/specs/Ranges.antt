-- Numbers that are an account, a schedule of rates, and settlements in order.
use Rattle.std.specs.Prelude.{ℕ, Bool, true, false, ◌&&◌, List, [], ◌∷◌, leb, ltb, eqb}
use Rattle.rates.specs.Rate.{greatest_daily}
use Rattle.account.specs.declared.Account.{Account}
use Rattle.account.specs.declared.RateOrder.{RateOrder}
use Rattle.account.specs.declared.Settlement.{Settlement}

-- at most 10^12 cents in each figure, and a fraction below 10^10
unfoldable pub is_account : Account → Bool
is_account a =
    leb a.outstanding.0 1000000000000
    && (leb a.due.0 1000000000000
    && (ltb a.fraction 10000000000
    && (leb a.principal_paid.0 1000000000000 && leb a.interest_paid.0 1000000000000)))

-- an order that holds from day 0, its daily rate at most that of 4 percent
abbrev pub is_first : RateOrder → Bool
is_first o = eqb o.first.0 0 && leb o.daily greatest_daily

-- an order that begins after a day, its daily rate at most that of 4 percent
abbrev pub is_next : ℕ → RateOrder → Bool
is_next day o = ltb day o.first.0 && leb o.daily greatest_daily

-- each order begins after a day and after the order before it
unfoldable pub is_rising : ℕ → List RateOrder → Bool
is_rising day [] = true
is_rising day (o ∷ os) = is_next day o && is_rising o.first.0 os

-- the first of them holds from day 0
unfoldable pub is_schedule : List RateOrder → Bool
is_schedule [] = false
is_schedule (o ∷ os) = is_first o && is_rising o.first.0 os

-- each settlement is after a day and after the one before it, and none is after today
unfoldable pub is_timely : ℕ → List Settlement → ℕ → Bool
is_timely day [] today = leb day today
is_timely day (s ∷ ss) today = ltb day s.day.0 && is_timely s.day.0 ss today
