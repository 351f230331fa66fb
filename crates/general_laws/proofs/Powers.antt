-- Powers of numbers, and numbers below a power.
use Rattle.std.proofs.Common.{ℕ, zero, suc, ◌+◌, ◌*◌, ◌/◌, ◌%◌, ◌^◌, ◌≤◌, ◌<◌, pow-suc, le-mul_of_pos_right, div-lt_iff_lt-mul, mul_left_comm, mul-add, mul-one, ◌≡◌, refl, ◌∙◌, ap}
use Rattle.std.proofs.Math.Nat.{pow-zero, pow-succ', one-le-pow, mul-add-mod_self_left}

pub quotient-below : (k n w : ℕ) → 0 < k → n < k ^ suc w → n / k < k ^ w
quotient-below k n w pos h = (div-lt_iff_lt-mul {k = k} pos).1 (rw pow-suc at h)

-- a positive number is at most any of its powers but the first
pub below_power : (n k : ℕ) → 0 < n → n ≤ n ^ suc k
below_power n k h = rw pow-succ' (le-mul_of_pos_right n (one-le-pow k n h))

-- every power of an odd number is odd
pub odd_power : (m k : ℕ) → (2 * m + 1) ^ k % 2 ≡ 1
odd_power m zero = rw (pow-zero (2 * m + 1)) refl
odd_power m (suc k) = ap (λ (x : ℕ). x % 2) split ∙ mul-add-mod_self_left 2 (p * m) p ∙ odd_power m k
  where
    p : ℕ
    p = (2 * m + 1) ^ k

    split : (2 * m + 1) ^ suc k ≡ 2 * (p * m) + p
    split =
        pow-suc (2 * m + 1) k ∙ mul-add p (2 * m) 1 ∙ ap (λ (x : ℕ). x + p * 1) (mul_left_comm p 2 m)
        ∙ ap (λ (x : ℕ). 2 * (p * m) + x) (mul-one p)
