-- The account as a function of the recognised cents, each day's daily rate, the settlements and the day (document 01, Rate: "what they'd be had
-- these rates held from the start, with the same settlements on the same days").
use Rattle.std.specs.Prelude.{ℕ, zero, suc, Bool, false, cond, ◌||◌, List, [], ◌∷◌, ltb, eqb}
use Rattle.std.proofs.Math.Option.{Option, none, some}
use Rattle.account.specs.declared.Account.{Account}
use Rattle.account.specs.declared.Settlement.{Settlement}
use Rattle.account.specs.Accrual.{accrued_day, paid_off, worth}
use Rattle.account.specs.Opening.{opening}

-- a day's settlement, if there is one
unfoldable pub settled_on : List Settlement → ℕ → Option ℕ
settled_on [] day = none
settled_on (s ∷ ss) day = cond (eqb s.day.0 day) (some s.cents.0) (settled_on ss day)

-- the account with it made
abbrev pub paying_off : Option ℕ → Account → Account
paying_off none a = a
paying_off (some m) a = paid_off m a

-- as a day begins: each earlier day's settlement, then its interest ("Settlements precede the interest of their day")
unfoldable pub day_begins : ℕ → (ℕ → ℕ) → (ℕ → Option ℕ) → ℕ → Account
day_begins recognised daily paid zero = opening recognised
day_begins recognised daily paid (suc day) = accrued_day (daily day) (paying_off (paid day) (day_begins recognised daily paid day))

-- on a day, its settlement made and its interest still to come
unfoldable pub account_at : ℕ → (ℕ → ℕ) → List Settlement → ℕ → Account
account_at recognised daily settlements day =
    paying_off (settled_on settlements day) (day_begins recognised daily (settled_on settlements) day)

-- a settlement is over due plus outstanding at its moment
abbrev pub is_over : ℕ → (ℕ → ℕ) → List Settlement → Settlement → Bool
is_over recognised daily settlements s =
    ltb (worth (day_begins recognised daily (settled_on settlements) s.day.0)) s.cents.0

abbrev pub some_of : (Settlement → Bool) → List Settlement → Bool
some_of test [] = false
some_of test (s ∷ ss) = test s || some_of test ss

-- 14: "some past settlement would be so under the new rates", today's included
unfoldable pub overpaid : ℕ → (ℕ → ℕ) → List Settlement → Bool
overpaid recognised daily settlements = some_of (is_over recognised daily settlements) settlements
