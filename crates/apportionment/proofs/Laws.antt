-- The laws of the division.
use Rattle.std.proofs.Common.{ℕ, ◌+◌, ◌-◌, ◌*◌, ◌≤◌, ◌<◌, arith, mod-lt, mul-add, mul_comm, mul-zero, ◌≡◌, sym, ap, ◌∙◌, ◌⊎◌, inl, inr, true, false, cond, List, [], ◌∷◌, ltb, length, ltb-true, ltb-false, lt-ltb, le-ltb}
use Rattle.std.proofs.Math.Nat.{div-add-mod, zero-div, zero-mod, le_of_mul-le-mul_left, lt_of_mul-lt-mul_left}
use Rattle.std.specs.List.{sum}
use Rattle.general_laws.specs.Sums.{sum_below, count_below}
use Rattle.general_laws.proofs.Choice.{by_order}
use Rattle.general_laws.proofs.Counts.{bit_most, bit_false, count_le}
use Rattle.general_laws.proofs.Totals.{sum-total}
use Rattle.general_laws.proofs.Sums.{sum_same, sum_le, sum_lt, sum-add, sum_scale, sum_constant, sum_prefix}
use Rattle.apportionment.specs.Apportionment.{weight, total_weight, quotient, remainder, leftover, comes_before, rank, gets_extra, extra, part}
use Rattle.apportionment.specs.Laws.{Laws}
use Rattle.apportionment.proofs.Ranks.{greater_before, earlier_before, rank_least, exactly}

module _ (m : ℕ) (ws : List ℕ) (some : 0 < total_weight ws) where
  -- W × quotient + remainder
  pub division : (k : ℕ) → total_weight ws * quotient m ws k + remainder m ws k ≡ m * weight ws k
  unfolding quotient remainder
  division k = div-add-mod (m * weight ws k) (total_weight ws)

  pub remainder_small : (k : ℕ) → remainder m ws k < total_weight ws
  unfolding remainder
  remainder_small k = mod-lt (m * weight ws k) some

  weights-total : sum_below (length ws) (weight ws) ≡ total_weight ws
  unfolding total_weight
  weights-total = sum-total ws

  divisions : total_weight ws * sum_below (length ws) (quotient m ws) + sum_below (length ws) (remainder m ws) ≡ total_weight ws * m
  divisions =
      let n = length ws in
      let a = sum_scale n (total_weight ws) (quotient m ws) in
      let b = sum-add n (λ k. total_weight ws * quotient m ws k) (remainder m ws) in
      let c = sum_same n (λ k. total_weight ws * quotient m ws k + remainder m ws k) (λ k. m * weight ws k) (λ k _. division k) in
      let d = sum_scale n m (weight ws) ∙ ap (λ (x : ℕ). m * x) weights-total in
      let e = mul_comm m (total_weight ws) in
      omega arith

  quotients-most : sum_below (length ws) (quotient m ws) ≤ m
  quotients-most = le_of_mul-le-mul_left {k = total_weight ws} (omega (arith, divisions)) some

  -- the quotients of the first positions
  pub quotients-within : (i : ℕ) → i ≤ length ws → sum_below i (quotient m ws) ≤ m
  quotients-within i le = let a = sum_prefix i (length ws) (quotient m ws) le in omega (arith, quotients-most)

  pub quotients-leftover : sum_below (length ws) (quotient m ws) + leftover m ws ≡ m
  unfolding leftover
  quotients-leftover = omega (arith, quotients-most)

  pub remainders-total : sum_below (length ws) (remainder m ws) ≡ total_weight ws * leftover m ws
  remainders-total =
      let a = ap (λ (x : ℕ). total_weight ws * x) quotients-leftover in
      let b = mul-add (total_weight ws) (sum_below (length ws) (quotient m ws)) (leftover m ws) in
      omega (arith, divisions)

  positions-some : 0 < length ws
  unfolding total_weight
  positions-some = go ws some
    where
      go : (l : List ℕ) → 0 < sum l → 0 < length l
      go [] h = absurd (omega arith)
      go (x ∷ l) h = omega arith

  pub leftover-few : leftover m ws < length ws
  leftover-few =
      let w = total_weight ws in
      let a = sum_lt (length ws) (remainder m ws) (λ _. w) 0 positions-some (λ k _. omega (arith, remainder_small k)) (remainder_small 0) in
      let b = sum_constant (length ws) w in
      lt_of_mul-lt-mul_left w (omega (arith, remainders-total))

  pub extras_count : count_below (length ws) (gets_extra m ws) ≡ leftover m ws
  unfolding gets_extra
  extras_count = exactly (remainder m ws) (length ws) (leftover m ws) (omega (arith, leftover-few))

  pub parts-total : sum_below (length ws) (part m ws) ≡ m
  unfolding part count_below
  parts-total = sum-add (length ws) (quotient m ws) (extra m ws) ∙ omega (arith, extras_count, quotients-leftover)

  quotient-none : (k : ℕ) → weight ws k ≡ 0 → quotient m ws k ≡ 0
  unfolding quotient
  quotient-none k none = rw (none, mul-zero, zero-div)

  remainder-none : (k : ℕ) → weight ws k ≡ 0 → remainder m ws k ≡ 0
  unfolding remainder
  remainder-none k none = rw (none, mul-zero, zero-mod)

  -- as many positions at least as there are leftover units have a remainder
  remainders-some : leftover m ws ≤ count_below (length ws) (λ j. ltb 0 (remainder m ws j))
  unfolding count_below
  remainders-some =
      let w = total_weight ws in
      let a = sum_le (length ws) (remainder m ws) (λ j. w * cond (ltb 0 (remainder m ws j)) 1 0) (λ k _. each k) in
      let b = sum_scale (length ws) w (λ j. cond (ltb 0 (remainder m ws j)) 1 0) in
      le_of_mul-le-mul_left {k = w} (omega (arith, remainders-total)) some
    where
      each : (k : ℕ) → remainder m ws k ≤ total_weight ws * cond (ltb 0 (remainder m ws k)) 1 0
      each k =
          by_order 0 (remainder m ws k)
          (λ lt. rw (lt-ltb 0 (remainder m ws k) lt) (omega (arith, remainder_small k)))
          (λ ge. omega arith)

  pub nothing_for_none : (k : ℕ) → weight ws k ≡ 0 → part m ws k ≡ 0
  unfolding part gets_extra rank
  nothing_for_none k none =
      let a : quotient m ws k ≡ 0 = quotient-none k none in
      let b = count_le (length ws) (λ j. ltb 0 (remainder m ws j)) (λ j. comes_before (remainder m ws) j k) (λ j _ t. ahead j (ltb-true 0 (remainder m ws j) t)) in
      let c = bit_false (gets_extra m ws k) (le-ltb (rank (remainder m ws) (length ws) k) (leftover m ws) (omega (arith, remainders-some))) in
      omega arith
    where
      ahead : (j : ℕ) → 0 < remainder m ws j → comes_before (remainder m ws) j k ≡ true
      ahead j lt = greater_before (remainder m ws) j k (omega (arith, remainder-none k none))

  pub part_exact : (k : ℕ) → m * weight ws k ≡ total_weight ws * (part m ws k - extra m ws k) + remainder m ws k
  unfolding part
  part_exact k =
      let e : quotient m ws k + extra m ws k - extra m ws k ≡ quotient m ws k = omega arith in
      rw e (sym (division k))

pub part_least : (m : ℕ) (ws : List ℕ) (k : ℕ) → quotient m ws k ≤ part m ws k
unfolding part
part_least m ws k = omega arith

pub part-most : (m : ℕ) (ws : List ℕ) (k : ℕ) → part m ws k ≤ quotient m ws k + 1
unfolding part
part-most m ws k = let b = bit_most (gets_extra m ws k) in omega arith

pub greatest_first : (m : ℕ) (ws : List ℕ) (j k : ℕ) → gets_extra m ws j ≡ true → gets_extra m ws k ≡ false
    → (remainder m ws k < remainder m ws j) ⊎ ((remainder m ws j ≡ remainder m ws k) × (j < k))
unfolding gets_extra
greatest_first m ws j k has without =
    by_order (r k) (r j) inl λ le.
    by_order (r j) (r k) (λ lt. absurd (not-before (greater_before r k j lt))) λ ge.
    by_order j k (λ earlier. inr (omega arith, earlier)) λ later.
    by_order k j (λ lt. absurd (not-before (earlier_before r k j lt (omega arith)))) λ same.
    absurd (ranks (ap (rank r (length ws)) (let e : k ≡ j = omega arith in e)))
  where
    r : ℕ → ℕ
    r = remainder m ws

    within : rank r (length ws) j < leftover m ws
    within = ltb-true _ _ has

    beyond : leftover m ws ≤ rank r (length ws) k
    beyond = ltb-false _ _ without

    ranks : rank r (length ws) k ≡ rank r (length ws) j → ⊥
    ranks e = omega (arith, within, beyond)

    not-before : comes_before r k j ≡ true → ⊥
    not-before t = let least = rank_least r (length ws) k j t in omega (arith, within, beyond)

pub laws : Laws
laws m ws some =
    record {
      parts-total = parts-total m ws some;
      part_least = part_least m ws;
      part-most = part-most m ws;
      extras_count = extras_count m ws some;
      greatest_first = greatest_first m ws;
      division = λ k. sym (division m ws some k);
      remainder_small = remainder_small m ws some;
      part_exact = part_exact m ws some;
      remainders-total = remainders-total m ws some;
      leftover-few = leftover-few m ws some;
      nothing_for_none = nothing_for_none m ws some;
    }
