-- The tally's sums of money: they go by each day's daily rate and settlement alone, and accrued is a sum over the elapsed days.
use Rattle.std.proofs.Common.{ℕ, zero, suc, ◌+◌, ◌*◌, ◌≡◌, refl, ap, ◌∙◌}
use Rattle.std.proofs.Math.Option.{Option, none, some}
use Rattle.general_laws.specs.Sums.{sum_below}
use Rattle.conservation.specs.Tally.{Sums, outstanding_of, paying, before, through}

-- The same rates and settlements on every day

module _ (cents : ℕ) (daily daily' : ℕ → ℕ) (paid paid' : ℕ → Option ℕ) (same-daily : (t : ℕ) → daily t ≡ daily' t)
    (same-paid : (t : ℕ) → paid t ≡ paid' t) where
  pub before_same : (day : ℕ) → before cents daily paid day ≡ before cents daily' paid' day
  unfolding before
  before_same zero = refl
  before_same (suc day) = rw (same-daily day, same-paid day, before_same day)

  pub through_same : (day : ℕ) → through cents daily paid day ≡ through cents daily' paid' day
  unfolding through
  through_same day = rw (same-paid day, before_same day)

-- Accrued

-- a settlement accrues nothing
pub paying-accrued : (p : Option ℕ) (s : Sums) → (paying p s).accrued ≡ s.accrued
paying-accrued none s = refl
paying-accrued (some m) s = refl

module _ (cents : ℕ) (daily : ℕ → ℕ) (paid : ℕ → Option ℕ) where
  -- "the sum over elapsed days of that day's outstanding times its daily rate"
  abbrev pub accrued_sum : ℕ → ℕ
  accrued_sum day = sum_below day (λ k. outstanding_of cents (through cents daily paid k) * daily k)

  pub before-accrued : (day : ℕ) → (before cents daily paid day).accrued ≡ accrued_sum day
  unfolding before through sum_below
  before-accrued zero = refl
  before-accrued (suc day) =
      ap (λ (n : ℕ). n + outstanding_of cents (through cents daily paid day) * daily day)
      (paying-accrued (paid day) (before cents daily paid day) ∙ before-accrued day)

  pub through-accrued : (day : ℕ) → (through cents daily paid day).accrued ≡ accrued_sum day
  unfolding through
  through-accrued day = paying-accrued (paid day) (before cents daily paid day) ∙ before-accrued day
