-- What callers may rely on of a division of m by the weights ws, not all of them 0.
use Rattle.std.specs.Prelude.{ℕ, ◌+◌, ◌-◌, ◌*◌, ◌≤◌, ◌<◌, ◌≡◌, ◌⊎◌, true, false, List, length}
use Rattle.general_laws.specs.Sums.{sum_below, count_below}
use Rattle.apportionment.specs.Apportionment.{weight, total_weight, quotient, remainder, leftover, gets_extra, extra, part}

pub record LawsOf (m : ℕ) (ws : List ℕ) : Type 0 where
  -- the parts total the amount
  pub parts-total : sum_below (length ws) (part m ws) ≡ m
  -- a part is the quotient or one more
  pub part_least : (k : ℕ) → quotient m ws k ≤ part m ws k
  pub part-most : (k : ℕ) → part m ws k ≤ quotient m ws k + 1
  -- exactly L parts are one more
  pub extras_count : count_below (length ws) (gets_extra m ws) ≡ leftover m ws
  -- and those are the greatest remainders: a position with a leftover unit has a greater one than a position without, or the same and stands earlier
  pub greatest_first : (j k : ℕ) → gets_extra m ws j ≡ true → gets_extra m ws k ≡ false
      → (remainder m ws k < remainder m ws j) ⊎ ((remainder m ws j ≡ remainder m ws k) × (j < k))
  -- M × w is W × quotient plus the remainder, which is below W
  pub division : (k : ℕ) → m * weight ws k ≡ total_weight ws * quotient m ws k + remainder m ws k
  pub remainder_small : (k : ℕ) → remainder m ws k < total_weight ws
  -- the same, read off the part and its leftover unit
  pub part_exact : (k : ℕ) → m * weight ws k ≡ total_weight ws * (part m ws k - extra m ws k) + remainder m ws k
  -- the remainders total W × L
  pub remainders-total : sum_below (length ws) (remainder m ws) ≡ total_weight ws * leftover m ws
  -- fewer units are left over than there are positions
  pub leftover-few : leftover m ws < length ws
  -- a weight of 0 gets nothing
  pub nothing_for_none : (k : ℕ) → weight ws k ≡ 0 → part m ws k ≡ 0

abbrev pub Laws : Type 0
Laws = (m : ℕ) (ws : List ℕ) → 0 < total_weight ws → LawsOf m ws
