-- Days that elapse, and an order that has not begun. Private contracts alone cite this: nobody has to believe it.
use Rattle.std.specs.Prelude.{ℕ, zero, suc, ◌+◌, ◌≤◌, ◌≡◌, true, List, ◌∷◌}
use Rattle.account.specs.declared.Account.{Account}
use Rattle.account.specs.declared.RateOrder.{RateOrder}
use Rattle.account.specs.Accrual.{accrued_day}
use Rattle.account.specs.Ranges.{is_next}

-- so many days from a day on, each at its own daily rate, without a settlement
unfoldable pub elapsed : (ℕ → ℕ) → ℕ → ℕ → Account → Account
elapsed daily from zero a = a
elapsed daily from (suc k) a = accrued_day (daily (from + k)) (elapsed daily from k a)

-- behind an order that began on one day, the first of the later ones begins no earlier than another day if it is right
abbrev pub Next : ℕ → ℕ → List RateOrder → Type 0
Next first day later = (o : RateOrder) (os : List RateOrder) → later ≡ o ∷ os → is_next first o ≡ true → day ≤ o.first.0
