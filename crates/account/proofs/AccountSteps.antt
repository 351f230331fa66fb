-- The account from day to day: days without a settlement elapse, and a settlement pays off.
use Rattle.std.proofs.Common.{ℕ, zero, suc, ◌+◌, ◌≤◌, ◌<◌, arith, add-zero, add-suc, ◌≡◌, refl, ap, List, [], ◌∷◌, ◌++◌}
use Rattle.std.proofs.Math.Option.{Option, none}
use Rattle.account.specs.declared.Settlement.{Settlement}
use Rattle.account.specs.Accrual.{accrued_day, paid_off}
use Rattle.account.specs.Walk.{elapsed}
use Rattle.account.specs.Standing.{settled_on, paying_off, day_begins, account_at}
use Rattle.account.proofs.SettledDays.{settled-other, settled-there}

-- it goes by the rates and settlements of the days before
pub begins-same : (cents : ℕ) (daily daily' : ℕ → ℕ) (paid paid' : ℕ → Option ℕ) (day : ℕ)
    → ((t : ℕ) → t < day → daily t ≡ daily' t) → ((t : ℕ) → t < day → paid t ≡ paid' t)
    → day_begins cents daily paid day ≡ day_begins cents daily' paid' day
unfolding day_begins
begins-same cents daily daily' paid paid' zero e f = refl
begins-same cents daily daily' paid paid' (suc day) e f =
    let ih = begins-same cents daily daily' paid paid' day (λ t lt. e t (omega arith)) (λ t lt. f t (omega arith)) in
    rw (e day (omega arith), f day (omega arith), ih)

elapsed-begins : (cents : ℕ) (daily : ℕ → ℕ) (paid : ℕ → Option ℕ) (day k : ℕ) → ((t : ℕ) → day < t → paid t ≡ none)
    → paying_off (paid (day + k)) (day_begins cents daily paid (day + k)) ≡ elapsed daily day k (paying_off (paid day) (day_begins cents daily paid day))
unfolding day_begins elapsed
elapsed-begins cents daily paid day zero quiet = rw (add-zero day)
elapsed-begins cents daily paid day (suc k) quiet =
    rw (add-suc day k, quiet (suc (day + k)) (omega arith))
    (ap (accrued_day (daily (day + k))) (elapsed-begins cents daily paid day k quiet))

module _ (cents : ℕ) (daily : ℕ → ℕ) (ss : List Settlement) where
  -- no settlement on the days after one
  pub account-elapsed : (day k : ℕ) → ((t : ℕ) → day < t → settled_on ss t ≡ none)
      → account_at cents daily ss (day + k) ≡ elapsed daily day k (account_at cents daily ss day)
  unfolding account_at
  account-elapsed day k quiet = elapsed-begins cents daily (settled_on ss) day k quiet

  -- no settlement on a day
  pub account-begins : (day : ℕ) → settled_on ss day ≡ none → account_at cents daily ss day ≡ day_begins cents daily (settled_on ss) day
  unfolding account_at
  account-begins day quiet = rw quiet

  module _ (s : Settlement) where
    -- up to its day one settlement more changes nothing
    pub begins-joined : (t : ℕ) → t ≤ s.day.0
        → day_begins cents daily (settled_on (ss ++ (s ∷ []))) t ≡ day_begins cents daily (settled_on ss) t
    begins-joined t le =
        begins-same cents daily daily (settled_on (ss ++ (s ∷ []))) (settled_on ss) t (λ u lt. refl)
        (λ u lt. settled-other ss s u (λ e. omega arith))

    -- and on its day it pays off
    pub account_paid_off : settled_on ss s.day.0 ≡ none
        → account_at cents daily (ss ++ (s ∷ [])) s.day.0 ≡ paid_off s.cents.0 (account_at cents daily ss s.day.0)
    unfolding account_at
    account_paid_off quiet =
        rw (settled-there ss s quiet, quiet) (ap (paid_off s.cents.0) (begins-joined s.day.0 (omega arith)))
