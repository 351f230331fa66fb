-- The daily rate of an annual rate (document 01, "Daily rate", and document 02, Req 02): "For an annual rate i from 0 to 4,000 the daily rate d
-- counts units of 1/10^10"; "A daily rate becomes the largest d with (2 × 10^10 + 2d − 1)^365 ≤ 2^365 × (100,000 + i) × 10^3645, for i above 0;
-- for i = 0 it stays 0."
use Rattle.std.specs.Prelude.{Bool, cond, ℕ, zero, suc, ◌+◌, ◌-◌, ◌*◌, ◌^◌, eqb, leb, Result}
use Rattle.answers.specs.Answers.{stated}
use Rattle.rates.specs.declared.OverGreatest.{OverGreatest}

-- (2 × 10^10 + 2d − 1)^365: 2^365 times a year at half a unit less than d
abbrev pub growth : ℕ → ℕ
growth d = (2 * 10 ^ 10 + 2 * d - 1) ^ 365

-- 2^365 × (100,000 + i) × 10^3645: 2^365 times a year at the exact rate of i
abbrev pub limit : ℕ → ℕ
limit i = 2 ^ 365 * (100000 + i) * 10 ^ 3645

-- half a unit less than d is not over the exact rate of i
unfoldable pub within : ℕ → ℕ → Bool
within i d = leb (growth d) (limit i)

-- the largest number up to n that passes a test, 0 where none does
unfoldable pub largest : (ℕ → Bool) → ℕ → ℕ
largest test zero = zero
largest test (suc n) = cond (test (suc n)) (suc n) (largest test n)

-- d, 0 for 0; no number beyond limit i passes the test
unfoldable pub daily_of : ℕ → ℕ
daily_of i = cond (eqb i 0) 0 (largest (within i) (limit i))

-- d of 4,000, the greatest
abbrev pub greatest_daily : ℕ
greatest_daily = 1074598

-- 6, "rate: over 4,000"
abbrev pub rate_number : ℕ
rate_number = 6

-- the number of document 01's table and the value, for each case of the answer
abbrev pub rate_stated : Result ℕ OverGreatest → ℕ × ℕ
rate_stated = stated (λ _. rate_number) 0

-- what is answered
unfoldable pub rate_of : ℕ → ℕ × ℕ
rate_of i = cond (leb i 4000) (0, daily_of i) (rate_number, 0)
