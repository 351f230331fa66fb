-- What `daily_of` is: it meets the rule, it is the largest that does, and the only one whose next does not.
use Rattle.std.proofs.Common.{◌≡◌, refl, true, false, ℕ, suc, ◌≤◌, ◌<◌, le_refl, le_trans, le_antisymm, lt_of_not-le, not-le_of_lt, mul-le-mul_left, mul-le-mul_right, le_of_suc-le-suc, arith, eqb, lit≤, lit<, eqb-true, leb-true, leb-false, le-leb}
use Rattle.std.proofs.Math.Nat.{pow-le-pow_left}
use Rattle.general_laws.proofs.Choice.{by-test, by_order, choice}
use Rattle.general_laws.proofs.Powers.{below_power}
use Rattle.rates.specs.Rate.{growth, limit, within, daily_of}
use Rattle.rates.proofs.Largest.{largest_holds, largest-most}

-- Properties of within

pub le_within : (i d : ℕ) → growth d ≤ limit i → within i d ≡ true
unfolding within
le_within i d h = le-leb (growth d) (limit i) h

pub within_le : (i d : ℕ) → within i d ≡ true → growth d ≤ limit i
unfolding within
within_le i d e = leb-true (growth d) (limit i) e

beyond_lt : (i d : ℕ) → within i d ≡ false → limit i < growth d
unfolding within
beyond_lt i d e = leb-false (growth d) (limit i) e

-- Properties of growth and limit

limit-grows : {i j : ℕ} → i ≤ j → limit i ≤ limit j
limit-grows h = mul-le-mul_right _ (mul-le-mul_left _ (omega arith))

growth-grows : {a b : ℕ} → a ≤ b → growth a ≤ growth b
growth-grows h = pow-le-pow_left (omega arith) _

below-growth : (d : ℕ) → d ≤ growth d
below-growth d = le_trans (omega arith) (below_power _ _ (omega arith))

-- Properties of daily_of

pub none_at_0 : daily_of 0 ≡ 0
unfolding daily_of
none_at_0 = refl

-- 0 is within every limit, and of the annual rate 0 nothing else is
within_0 : (i : ℕ) → within i 0 ≡ true
within_0 i = le_within i 0 (le_trans {m = limit 0} (lit≤ tt) (limit-grows {i = 0} {j = i} (omega arith)))

beyond_0 : limit 0 < growth 1
beyond_0 = lit< tt

only_0_at_0 : (d : ℕ) → within 0 d ≡ true → d ≤ 0
only_0_at_0 d t =
    by_order 0 d (λ lt. absurd (not-le_of_lt beyond_0 (le_trans (growth-grows lt) (within_le 0 d t)))) (λ le. le)

pub meets : (i : ℕ) → within i (daily_of i) ≡ true
unfolding daily_of
meets i = choice (λ d. within i d ≡ true) (eqb i 0) (λ _. within_0 i) (λ _. largest_holds (within i) (limit i) (within_0 i))

pub most : (i d : ℕ) → within i d ≡ true → d ≤ daily_of i
unfolding daily_of
most i d t =
    choice (λ m. d ≤ m) (eqb i 0) (λ e. only_0_at_0 d (rw (eqb-true i 0 e) at t))
    (λ _. largest-most (within i) (limit i) d t (le_trans (below-growth d) (within_le i d t)))

pub next_beyond : (i : ℕ) → limit i < growth (suc (daily_of i))
next_beyond i =
    by-test (within i (suc (daily_of i))) (λ t. absurd (not-le_of_lt (most i (suc (daily_of i)) t) (le_refl _))) (beyond_lt i (suc (daily_of i)))

pub only : (i d : ℕ) → within i d ≡ true → within i (suc d) ≡ false → d ≡ daily_of i
only i d t u =
    le_antisymm (most i d t)
    (le_of_suc-le-suc
    (lt_of_not-le (λ k. not-le_of_lt (beyond_lt i (suc d) u) (le_trans (growth-grows k) (within_le i (daily_of i) (meets i))))))

pub grows : (i j : ℕ) → i ≤ j → daily_of i ≤ daily_of j
grows i j h = most j (daily_of i) (le_within j (daily_of i) (le_trans (within_le i (daily_of i) (meets i)) (limit-grows h)))
