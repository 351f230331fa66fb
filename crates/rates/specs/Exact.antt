-- What the laws compare daily rates with: the exact rate, in whole numbers, and the rate rounded down. No contract but that of the laws cites them.
use Rattle.std.specs.Prelude.{ℕ, ◌+◌, ◌*◌, ◌^◌, Bool, leb}
use Rattle.rates.specs.Rate.{largest}

-- (10^10 + x)^365, x being the exact rate (1 + i/100,000)^(1/365) − 1 in units of 1/10^10: "(100,000 + i) × 10^3645"
abbrev pub exact_year : ℕ → ℕ
exact_year i = (100000 + i) * 10 ^ 3645

-- document 01 without document 02: "the largest whole number with (10^10 + d)^365 ≤ (100,000 + i) × 10^3645"
unfoldable pub not_over : ℕ → ℕ → Bool
not_over i d = leb ((10 ^ 10 + d) ^ 365) (exact_year i)

unfoldable pub rounded_down : ℕ → ℕ
rounded_down i = largest (not_over i) (exact_year i)
