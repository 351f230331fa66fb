-- The daily rate is the rate rounded down, or one more.
use Rattle.std.proofs.Common.{◌≡◌, true, ℕ, zero, suc, ◌+◌, ◌*◌, ◌^◌, ◌≤◌, le_trans, le-add_right, mul-le-mul_left, mul-le-mul_right, arith, lit<, leb-true, le-leb}
use Rattle.std.proofs.Math.Nat.{le_of_mul-le-mul_left, pow-le-pow_left}
use Rattle.std.proofs.lemmas.Nat.{mul-pow}
use Rattle.general_laws.proofs.Powers.{below_power}
use Rattle.rates.specs.Rate.{growth, limit, within, daily_of}
use Rattle.rates.specs.Exact.{exact_year, not_over, rounded_down}
use Rattle.rates.proofs.Largest.{largest_holds, largest-most}
use Rattle.rates.proofs.Rule.{within_le, le_within, meets, most}
use Rattle.rates.proofs.Nearest.{limit_is}

down_holds : (i : ℕ) → (10 ^ 10 + rounded_down i) ^ 365 ≤ exact_year i
unfolding rounded_down not_over
down_holds i =
    leb-true _ _
    (largest_holds (not_over i) (exact_year i) (le-leb _ _ (mul-le-mul_right {m = 100000} {n = 100000 + i} (10 ^ 3645) (le-add_right 100000 i))))

down-most : (i d : ℕ) → (10 ^ 10 + d) ^ 365 ≤ exact_year i → d ≤ rounded_down i
unfolding rounded_down not_over
down-most i d h =
    largest-most (not_over i) (exact_year i) d (le-leb _ _ h) (le_trans (le_trans (omega arith) (below_power (10 ^ 10 + d) 364 (omega arith))) h)

-- the rate rounded down meets the bound
down : (i : ℕ) → rounded_down i ≤ daily_of i
down i =
    let d = rounded_down i in
    let less : growth d ≤ (2 * (10 ^ 10 + d)) ^ 365 = pow-le-pow_left (omega arith) _ in
    let met : (2 * (10 ^ 10 + d)) ^ 365 ≤ limit i = rw (mul-pow 2 (10 ^ 10 + d) 365, limit_is i) (mul-le-mul_left _ (down_holds i)) in
    most i d (le_within i d (le_trans less met))

-- one less than a number that meets the bound is not over the exact rate
up : (i d : ℕ) → within i d ≡ true → d ≤ suc (rounded_down i)
up i zero t = omega arith
up i (suc d) t =
    let less : (2 * (10 ^ 10 + d)) ^ 365 ≤ growth (suc d) = pow-le-pow_left (omega arith) _ in
    let doubled = rw (mul-pow 2 (10 ^ 10 + d) 365, limit_is i) at (le_trans less (within_le i (suc d) t)) in
    let below = down-most i d (le_of_mul-le-mul_left {k = 2 ^ 365} doubled (lit< tt)) in
    omega arith

pub down_or_up : (i : ℕ) → (rounded_down i ≤ daily_of i) × (daily_of i ≤ suc (rounded_down i))
down_or_up i = (down i, up i (daily_of i) (meets i))
