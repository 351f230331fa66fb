-- Where no settlement is over due plus outstanding, the account of every day stays within the bounds of that day.
use Rattle.std.proofs.Common.{ℕ, zero, suc, ◌≤◌, ◌≡◌, refl, false, List}
use Rattle.std.proofs.Math.Option.{Option, none, some}
use Rattle.rates.specs.Rate.{greatest_daily}
use Rattle.account.specs.declared.Account.{Account}
use Rattle.account.specs.declared.Settlement.{Settlement}
use Rattle.account.specs.Accrual.{worth}
use Rattle.account.specs.Invariant.{Bounded}
use Rattle.account.specs.Standing.{settled_on, paying_off, day_begins, account_at, overpaid}
use Rattle.account.proofs.Bounds.{bounded-opening, bounded-day, bounded-paid}
use Rattle.account.proofs.NotOverpaid.{within-worth}

paid-bounded : (n : ℕ) (p : Option ℕ) (a : Account) → ((m : ℕ) → p ≡ some m → m ≤ worth a) → Bounded n a → Bounded n (paying_off p a)
paid-bounded n none a within h = h
paid-bounded n (some m) a within h = bounded-paid n m a (within m refl) h

module _ (cents : ℕ) (daily : ℕ → ℕ) (ss : List Settlement) (small : cents ≤ 1000000000000) (most : (t : ℕ) → daily t ≤ greatest_daily)
    (not_over_lem : overpaid cents daily ss ≡ false) where
  within : (t m : ℕ) → settled_on ss t ≡ some m → m ≤ worth (day_begins cents daily (settled_on ss) t)
  within = within-worth cents daily ss not_over_lem

  begins-bounded : (day : ℕ) → Bounded day (day_begins cents daily (settled_on ss) day)
  unfolding day_begins
  begins-bounded zero = bounded-opening cents small
  begins-bounded (suc day) =
      bounded-day day (daily day) _ (most day)
      (paid-bounded day (settled_on ss day) _ (within day) (begins-bounded day))

  pub account-bounded : (day : ℕ) → Bounded day (account_at cents daily ss day)
  unfolding account_at
  account-bounded day = paid-bounded day (settled_on ss day) _ (within day) (begins-bounded day)
