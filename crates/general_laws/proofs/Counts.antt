-- How many numbers below n pass a test, and the 1 or 0 that one test counts.
use Rattle.std.proofs.Common.{ℕ, suc, ◌+◌, ◌≤◌, ◌<◌, arith, ◌≡◌, refl, ◌∙◌, Bool, true, false, cond}
use Rattle.general_laws.specs.Sums.{sum_below, count_below}
use Rattle.general_laws.proofs.Sums.{sum_same, sum_le, sum_lt, sum_constant, sum-zero}

-- One test

pub bit_true : (t : Bool) → t ≡ true → ◌≡◌ {A = ℕ} (cond t 1 0) 1
bit_true t e = rw e

pub bit_false : (t : Bool) → t ≡ false → ◌≡◌ {A = ℕ} (cond t 1 0) 0
bit_false t e = rw e

pub bit_most : (t : Bool) → cond t 1 0 ≤ 1
bit_most true = omega arith
bit_most false = omega arith

bit_le : (s t : Bool) → (s ≡ true → t ≡ true) → cond s 1 0 ≤ cond t 1 0
bit_le true t h = rw (h refl) (omega arith)
bit_le false true h = omega arith
bit_le false false h = omega arith

bit_lt : (s t : Bool) → s ≡ false → t ≡ true → cond s 1 0 < cond t 1 0
bit_lt s t e h = rw (e, h) (omega arith)

-- Properties of count_below

pub count_same : (n : ℕ) (s t : ℕ → Bool) → ((k : ℕ) → k < n → s k ≡ t k) → count_below n s ≡ count_below n t
unfolding count_below
count_same n s t h = sum_same n (λ k. cond (s k) 1 0) (λ k. cond (t k) 1 0) (λ k lt. rw (h k lt))

pub count_le : (n : ℕ) (s t : ℕ → Bool) → ((k : ℕ) → k < n → s k ≡ true → t k ≡ true) → count_below n s ≤ count_below n t
unfolding count_below
count_le n s t h = sum_le n (λ k. cond (s k) 1 0) (λ k. cond (t k) 1 0) (λ k lt. bit_le (s k) (t k) (h k lt))

pub count_lt : (n : ℕ) (s t : ℕ → Bool) (i : ℕ) → i < n → ((k : ℕ) → k < n → s k ≡ true → t k ≡ true) → s i ≡ false → t i ≡ true
    → count_below n s < count_below n t
unfolding count_below
count_lt n s t i lt h e f =
    sum_lt n (λ k. cond (s k) 1 0) (λ k. cond (t k) 1 0) i lt (λ k lt. bit_le (s k) (t k) (h k lt)) (bit_lt (s i) (t i) e f)

pub count-suc : (n : ℕ) (t : ℕ → Bool) → count_below (suc n) t ≡ count_below n t + cond (t n) 1 0
unfolding count_below sum_below
count-suc n t = refl

pub count_most : (n : ℕ) (t : ℕ → Bool) → count_below n t ≤ n
unfolding count_below
count_most n t =
    let e = sum_constant n 1 in
    let l = sum_le n (λ k. cond (t k) 1 0) (λ _. 1) (λ k lt. bit_le (t k) true (λ _. refl)) in
    omega arith

pub count_none : (n : ℕ) (t : ℕ → Bool) → ((k : ℕ) → k < n → t k ≡ false) → count_below n t ≡ 0
unfolding count_below
count_none n t h = sum-zero n (λ k. cond (t k) 1 0) (λ k lt. rw (h k lt))

pub count-all : (n : ℕ) (t : ℕ → Bool) → ((k : ℕ) → k < n → t k ≡ true) → count_below n t ≡ n
unfolding count_below
count-all n t h =
    let e = sum_constant n 1 in sum_same n (λ k. cond (t k) 1 0) (λ _. 1) (λ k lt. rw (h k lt)) ∙ omega arith
