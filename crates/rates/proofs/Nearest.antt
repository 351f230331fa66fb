-- The daily rate is the whole number nearest to the exact rate, which is never half-way between two.
use Rattle.std.proofs.Common.{◌≡◌, sym, ◌∙◌, ap, ◌≢◌, ℕ, suc, ◌+◌, ◌-◌, ◌*◌, ◌%◌, ◌^◌, ◌<◌, mul_assoc, arith}
use Rattle.std.proofs.Math.Nat.{mul-mod_right}
use Rattle.std.proofs.Math.Numerals.{lt_of_le_of_ne}
use Rattle.general_laws.proofs.Powers.{odd_power}
use Rattle.rates.specs.Rate.{growth, limit, daily_of}
use Rattle.rates.specs.Exact.{exact_year}
use Rattle.rates.proofs.Rule.{within_le, meets, next_beyond}

pub limit_is : (i : ℕ) → limit i ≡ 2 ^ 365 * exact_year i
limit_is i = mul_assoc (2 ^ 365) (100000 + i) (10 ^ 3645)

-- half a unit below d, doubled
growth-is : (d : ℕ) → growth d ≡ (2 * (10 ^ 10 + d) - 1) ^ 365
growth-is d = ap (λ (x : ℕ). x ^ 365) (omega arith)

-- half a unit above d, doubled
next_growth_is : (d : ℕ) → growth (suc d) ≡ (2 * (10 ^ 10 + d) + 1) ^ 365
next_growth_is d = ap (λ (x : ℕ). x ^ 365) (omega arith)

-- every power of an odd number is odd, and the limit is even
limit_not_odd : (i m : ℕ) → 2 ^ 365 * exact_year i ≢ (2 * m + 1) ^ 365
limit_not_odd i m e =
    let even : 2 ^ 365 * exact_year i % 2 ≡ 0 = ap (λ (x : ℕ). x % 2) (mul_assoc 2 (2 ^ 364) (exact_year i)) ∙ mul-mod_right 2 (2 ^ 364 * exact_year i) in
    let z : ◌≡◌ {A = ℕ} 0 1 = sym even ∙ ap (λ (x : ℕ). x % 2) e ∙ odd_power m 365 in
    absurd (omega arith)

pub no_tie : (i d : ℕ) → 2 ^ 365 * exact_year i ≢ (2 * (10 ^ 10 + d) + 1) ^ 365
no_tie i d = limit_not_odd i (10 ^ 10 + d)

over_half_below : (i : ℕ) → (2 * (10 ^ 10 + daily_of i) - 1) ^ 365 < 2 ^ 365 * exact_year i
over_half_below i =
    let d = daily_of i in
    let odd : 2 * (10 ^ 10 + d) - 1 ≡ 2 * (9999999999 + d) + 1 = omega arith in
    lt_of_le_of_ne (rw (sym (growth-is d), sym (limit_is i)) (within_le i d (meets i))) (λ e. limit_not_odd i (9999999999 + d) (sym e ∙ ap (λ (x : ℕ). x ^ 365) odd))

under_half_above : (i : ℕ) → 2 ^ 365 * exact_year i < (2 * (10 ^ 10 + daily_of i) + 1) ^ 365
under_half_above i = rw (sym (next_growth_is (daily_of i)), sym (limit_is i)) (next_beyond i)

pub nearest : (i : ℕ)
    → ((2 * (10 ^ 10 + daily_of i) - 1) ^ 365 < 2 ^ 365 * exact_year i) × (2 ^ 365 * exact_year i < (2 * (10 ^ 10 + daily_of i) + 1) ^ 365)
nearest i = (over_half_below i, under_half_above i)
