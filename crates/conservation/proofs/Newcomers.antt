-- A position without unit-days that comes last: it changes nobody's part of an amount, and has none itself.
use Rattle.std.proofs.Common.{ℕ, suc, ◌<◌, arith, mul-zero, add-one, ◌≡◌, ap₂, ◌∙◌, false, ◌&&◌, ◌||◌, List, [], ◌∷◌, ◌++◌, le-ltb, ltb, eqb, length, length-append}
use Rattle.std.proofs.Math.Bool.{and-false}
use Rattle.std.proofs.Math.ListN.{get_or-append}
use Rattle.std.proofs.Math.Nat.{zero-div, zero-mod}
use Rattle.std.proofs.Math.Seq.{get_or-append_seam}
use Rattle.general_laws.specs.Sums.{sum_below}
use Rattle.apportionment.proofs.Callers.{nothing_for_none, weight-total}
use Rattle.general_laws.proofs.Counts.{count_same, count-suc}
use Rattle.general_laws.proofs.Sums.{sum_same}
use Rattle.std.proofs.lemmas.List.Sums.{sum_by_push}
use Rattle.apportionment.specs.Apportionment.{total_weight, quotient, remainder, leftover, comes_before, rank, gets_extra, part}

module _ (m : ℕ) (ws : List ℕ) where
  -- the weights with that position
  abbrev joined : List ℕ
  joined = ws ++ (0 ∷ [])

  length-joined : length joined ≡ suc (length ws)
  length-joined = length-append ws (0 ∷ []) ∙ add-one (length ws)

  weight-kept : total_weight joined ≡ total_weight ws
  weight-kept = omega (arith, weight-total joined, weight-total ws, sum_by_push (λ (w : ℕ). w) ws 0)

  -- the division of each

  quotient-kept : (k : ℕ) → k < length ws → quotient m joined k ≡ quotient m ws k
  unfolding quotient
  quotient-kept k lt = rw (weight-kept, get_or-append ws (0 ∷ []) 0 k lt)

  remainder-kept : (k : ℕ) → k < length ws → remainder m joined k ≡ remainder m ws k
  unfolding remainder
  remainder-kept k lt = rw (weight-kept, get_or-append ws (0 ∷ []) 0 k lt)

  quotient-last : quotient m joined (length ws) ≡ 0
  unfolding quotient
  quotient-last = rw (get_or-append_seam ws 0 [] 0, mul-zero m) (zero-div _)

  remainder-last : remainder m joined (length ws) ≡ 0
  unfolding remainder
  remainder-last = rw (get_or-append_seam ws 0 [] 0, mul-zero m) (zero-mod _)

  -- the leftover units

  leftover-kept : leftover m joined ≡ leftover m ws
  unfolding leftover sum_below
  leftover-kept =
      rw length-joined (omega (arith, sum_same (length ws) (quotient m joined) (quotient m ws) quotient-kept, quotient-last))

  module _ (k : ℕ) (lt : k < length ws) where
    before-kept : (j : ℕ) → j < length ws → comes_before (remainder m joined) j k ≡ comes_before (remainder m ws) j k
    unfolding comes_before
    before-kept j below =
        ap₂ (λ (x y : ℕ). ltb x y || (eqb y x && ltb j k)) (remainder-kept k lt) (remainder-kept j below)

    last_not_before : comes_before (remainder m joined) (length ws) k ≡ false
    unfolding comes_before
    last_not_before =
        rw (remainder-last, le-ltb (remainder m joined k) 0 (omega arith), le-ltb (length ws) k (omega arith))
        (and-false (eqb 0 (remainder m joined k)))

    rank-kept : rank (remainder m joined) (length joined) k ≡ rank (remainder m ws) (length ws) k
    unfolding rank
    rank-kept =
        rw (length-joined, count-suc, last_not_before)
        (omega (arith, count_same (length ws) (λ j. comes_before (remainder m joined) j k) (λ j. comes_before (remainder m ws) j k) before-kept))

    pub part-kept : part m joined k ≡ part m ws k
    unfolding part gets_extra
    part-kept = rw (quotient-kept k lt, rank-kept, leftover-kept)

  pub part-last : 0 < total_weight ws → part m joined (length ws) ≡ 0
  part-last some = nothing_for_none m joined (omega (arith, weight-kept)) (length ws) (get_or-append_seam ws 0 [] 0)
