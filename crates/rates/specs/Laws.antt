-- What callers may rely on of daily rates.
use Rattle.std.specs.Prelude.{◌≡◌, true, false, ◌≢◌, ℕ, suc, ◌+◌, ◌-◌, ◌*◌, ◌^◌, ◌≤◌, ◌<◌}
use Rattle.rates.specs.Rate.{within, daily_of, greatest_daily}
use Rattle.rates.specs.Exact.{exact_year, rounded_down}

pub record Laws : Type 0 where
  -- it meets the rule's bound
  pub meets : (i : ℕ) → within i (daily_of i) ≡ true
  -- nothing larger does
  pub largest : (i d : ℕ) → within i d ≡ true → d ≤ daily_of i
  -- it is the only number that meets the bound and whose next does not
  pub only : (i d : ℕ) → within i d ≡ true → within i (suc d) ≡ false → d ≡ daily_of i
  -- it is less than half a unit from the exact rate x: 2 × (10^10 + d) − 1 < 2 × (10^10 + x) < 2 × (10^10 + d) + 1, each to the power of 365
  pub nearest : (i : ℕ)
      → ((2 * (10 ^ 10 + daily_of i) - 1) ^ 365 < 2 ^ 365 * exact_year i) × (2 ^ 365 * exact_year i < (2 * (10 ^ 10 + daily_of i) + 1) ^ 365)
  -- no exact rate is half-way between two whole numbers
  pub no_tie : (i d : ℕ) → 2 ^ 365 * exact_year i ≢ (2 * (10 ^ 10 + d) + 1) ^ 365
  -- it is the exact rate rounded down, as document 01 had it, or one more
  pub down_or_up : (i : ℕ) → (rounded_down i ≤ daily_of i) × (daily_of i ≤ suc (rounded_down i))
  -- it is 0 for 0, and grows with the annual rate
  pub none_at_0 : daily_of 0 ≡ 0
  pub grows : (i j : ℕ) → i ≤ j → daily_of i ≤ daily_of j
  pub rises : (i j : ℕ) → i < j → j ≤ 4000 → daily_of i < daily_of j
  -- no daily rate is greater than that of 4,000
  pub last : daily_of 4000 ≡ greatest_daily
  pub greatest : (i : ℕ) → i ≤ 4000 → daily_of i ≤ greatest_daily
