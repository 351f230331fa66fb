-- The answer in each case: what is refused, and what is divided.
use Rattle.std.proofs.Common.{ℕ, ◌≤◌, ◌<◌, arith, ◌≡◌, List, length, le-ltb, ne_eqb}
use Rattle.std.specs.Prelude.{Ok}
use Rattle.apportionment.specs.Apportionment.{total_weight, part, padded, apportioned}

-- the parts, where nothing is refused
pub divides : (m : ℕ) (ws : List ℕ) → 0 < length ws → length ws ≤ 64 → m ≤ 100000000000 → 0 < total_weight ws → total_weight ws ≤ 92000000 → apportioned m ws ≡ Ok (padded (length ws) (part m ws))
unfolding apportioned
divides m ws some places amount heavy light =
    rw (
      ne_eqb (length ws) 0 (λ e. omega arith),
      le-ltb 64 (length ws) places,
      le-ltb 100000000000 m amount,
      ne_eqb (total_weight ws) 0 (λ e. omega arith),
      le-ltb 92000000 (total_weight ws) light,
    )
