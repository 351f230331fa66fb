-- What the steps of the split give. Private contracts alone cite this: nobody has to believe it.
use Rattle.std.specs.Prelude.{ℕ, ◌+◌, ◌≤◌, ◌<◌, ◌≡◌, cond, ◌&&◌, List, ltb, leb, eqb, length, get_or, count_by}
use Rattle.general_laws.specs.Sums.{count_below}
use Rattle.apportionment.specs.Apportionment.{total_weight, rank}

-- the number at a place of a list
abbrev pub at : List ℕ → ℕ → ℕ
at xs k = get_or xs k 0

-- what a division needs
pub record Whole (m : ℕ) (ws : List ℕ) (t : ℕ) : Type 0 where
  pub places : length ws ≤ 64
  pub amount : m ≤ 100000000000
  pub total : t ≡ total_weight ws
  pub some : 0 < t
  pub most : t ≤ 92000000

-- how many of the numbers are greater than b
abbrev pub above : List ℕ → ℕ → ℕ
above rs b = count_by (λ r. ltb b r) rs

-- how many of the numbers are not less than b
abbrev pub not_below : List ℕ → ℕ → ℕ
not_below rs b = count_by (λ r. leb b r) rs

-- the place where l units, one each from the greatest on, run out: at most l numbers are above it, and at least l not below it
pub record Threshold (rs : List ℕ) (l b : ℕ) : Type 0 where
  pub upper : above rs b ≤ l
  pub lower : l ≤ not_below rs b

-- how many of the first k numbers equal b
unfoldable pub equals : List ℕ → ℕ → ℕ → ℕ
equals rs k b = count_below k (λ j. eqb (at rs j) b)

-- number k, and one more where k is below i and fewer than l remainders come before it
unfoldable pub with_extra : List ℕ → List ℕ → ℕ → ℕ → ℕ → ℕ
with_extra ps rs l i k = at ps k + cond (ltb k i && ltb (rank (at rs) (length rs) k) l) 1 0
