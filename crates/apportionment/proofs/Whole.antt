-- What the code may rely on where the amount and the weights are accepted: its numbers fit, and they are those of the definitions.
use Rattle.std.proofs.Common.{ℕ, ◌+◌, ◌*◌, ◌/◌, ◌%◌, ◌≤◌, ◌<◌, arith, mul-le-mul, ◌≡◌, ap, cond, List, ltb, length, take, length-take-le, lt-ltb, le-ltb}
use Rattle.general_laws.specs.Sums.{sum_below, list_below}
use Rattle.general_laws.proofs.Choice.{by_order}
use Rattle.general_laws.proofs.Counts.{bit_false, count_same}
use Rattle.general_laws.proofs.Lists.{list_same}
use Rattle.general_laws.proofs.Sums.{sum-suc, sum_prefix}
use Rattle.general_laws.proofs.Totals.{sum-total}
use Rattle.apportionment.specs.Apportionment.{weight, total_weight, quotient, remainder, leftover, comes_before, rank, gets_extra, part, padded}
use Rattle.apportionment.specs.Steps.{at, Whole, with_extra}
use Rattle.apportionment.proofs.Arrays.{padded-length, padded-at, padded-behind, padded_front, weight-total}
use Rattle.apportionment.proofs.Laws.{quotients-within, leftover-few}

-- what all quotients leave
pub leftover_is : (m : ℕ) (ws : List ℕ) (l : ℕ) → l + sum_below (length ws) (quotient m ws) ≡ m → l ≡ leftover m ws
unfolding leftover
leftover_is m ws l e = omega arith

module _ (m : ℕ) (ws : List ℕ) (t : ℕ) (whole : Whole m ws t) where
  some : 0 < total_weight ws
  some = omega (arith, whole.some, whole.total)

  module _ (k : ℕ) (lt : k < length ws) where
    pub product_fits : m * at ws k < 18446744073709551616
    product_fits =
        let a = sum-suc k (weight ws) in
        let b = sum_prefix (k + 1) (length ws) (weight ws) (omega arith) in
        let within : at ws k ≤ t = omega (arith, sum-total ws, weight-total ws, whole.total) in
        let c = mul-le-mul whole.amount within in
        let d = mul-le-mul {n₁ = 100000000000} {n₂ = 100000000000} (omega arith) whole.most in
        omega arith

    pub quotient_is : m * at ws k / t ≡ quotient m ws k
    unfolding quotient
    quotient_is = rw whole.total

    pub remainder_is : m * at ws k % t ≡ remainder m ws k
    unfolding remainder
    remainder_is = rw whole.total

    -- what is left after the first quotients
    pub left_is : sum_below k (quotient m ws) + quotient m ws k ≤ m
    left_is = omega (arith, quotients-within m ws some (k + 1) (omega arith), sum-suc k (quotient m ws))

  abbrev qs : List ℕ
  qs = padded (length ws) (quotient m ws)

  abbrev rs : List ℕ
  rs = take (length ws) (padded (length ws) (remainder m ws))

  pub in_use : length rs ≡ length ws
  in_use = length-take-le (length ws) (padded (length ws) (remainder m ws)) (omega (arith, whole.places, padded-length (length ws) (remainder m ws)))

  pub few : leftover m ws ≤ length ws
  few = omega (arith, leftover-few m ws some)

  pub quotients-most : (k : ℕ) → at qs k ≤ 100000000000
  quotients-most k =
      by_order k (length ws)
      (λ lt. let a = padded-at (length ws) (quotient m ws) k lt whole.places in omega (arith, left_is k lt, whole.amount))
      (λ ge. let a = padded-behind (length ws) (quotient m ws) k ge in omega arith)

  -- the array of quotients is that of the parts where no unit is left over
  pub whole_parts : leftover m ws ≡ 0 → qs ≡ padded (length ws) (part m ws)
  unfolding padded part gets_extra
  whole_parts none =
      list_same 64 (λ k. cond (ltb k (length ws)) (quotient m ws k) 0) (λ k. cond (ltb k (length ws)) (part m ws k) 0) (λ k _.
      let e = bit_false (gets_extra m ws k) (le-ltb (rank (remainder m ws) (length ws) k) (leftover m ws) (omega arith)) in
      let q : quotient m ws k ≡ part m ws k = omega arith in
      ap (λ (x : ℕ). cond {A = ℕ} (ltb k (length ws)) x 0) q)

  -- the remainders in the array are ranked as those of the definition
  rank_same : (k : ℕ) → k < length ws → rank (at rs) (length ws) k ≡ rank (remainder m ws) (length ws) k
  unfolding rank comes_before
  rank_same k lt =
      count_same (length ws) (λ j. comes_before (at rs) j k) (λ j. comes_before (remainder m ws) j k) (λ j lt'.
      rw (padded_front (length ws) (remainder m ws) j lt' whole.places, padded_front (length ws) (remainder m ws) k lt whole.places))

  -- the array of quotients with the leftover units is that of the parts
  pub extra-parts : list_below 64 (with_extra qs rs (leftover m ws) (length ws)) ≡ padded (length ws) (part m ws)
  unfolding padded with_extra part gets_extra
  extra-parts =
      list_same 64 (with_extra qs rs (leftover m ws) (length ws)) (λ k. cond (ltb k (length ws)) (part m ws k) 0) (λ k _.
      by_order k (length ws)
      (λ lt. rw (lt-ltb k (length ws) lt, in_use, padded-at (length ws) (quotient m ws) k lt whole.places, rank_same k lt))
      (λ ge. rw (le-ltb k (length ws) ge, padded-behind (length ws) (quotient m ws) k ge)))
