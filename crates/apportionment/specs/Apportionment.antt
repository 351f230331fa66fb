-- An amount divided by weights: the largest remainder method. Document 01, Settle: "Each receives M × w divided by W, rounded down; the
-- cents left over go one each to the greatest remainders, earlier position first among equals." The positions are those of the list ws.
use Rattle.std.specs.Prelude.{ℕ, ◌+◌, ◌-◌, ◌*◌, ◌/◌, ◌%◌, Bool, cond, ◌&&◌, ◌||◌, List, Result, Ok, Err, ltb, eqb, length, get_or, sum}
use Rattle.general_laws.specs.Sums.{sum_below, count_below, list_below}
use Rattle.apportionment.specs.declared.Undivided.{Undivided}
use Rattle.apportionment.specs.declared.Undivided.TheVariants.{Count, Amount, Weight}

-- w: the weight of position k
abbrev pub weight : List ℕ → ℕ → ℕ
weight ws k = get_or ws k 0

-- W: the total of the weights
unfoldable pub total_weight : List ℕ → ℕ
total_weight ws = sum ws

-- M × w divided by W, rounded down
unfoldable pub quotient : ℕ → List ℕ → ℕ → ℕ
quotient m ws k = m * weight ws k / total_weight ws

-- what that division leaves
unfoldable pub remainder : ℕ → List ℕ → ℕ → ℕ
remainder m ws k = m * weight ws k % total_weight ws

-- L: the units left over
unfoldable pub leftover : ℕ → List ℕ → ℕ
leftover m ws = m - sum_below (length ws) (quotient m ws)

-- of remainders r, that of position j is greater than that of k, or equal with j earlier
unfoldable pub comes_before : (ℕ → ℕ) → ℕ → ℕ → Bool
comes_before r j k = ltb (r k) (r j) || (eqb (r j) (r k) && ltb j k)

-- how many of n positions come before k
unfoldable pub rank : (ℕ → ℕ) → ℕ → ℕ → ℕ
rank r n k = count_below n (λ j. comes_before r j k)

-- a leftover unit: position k gets one where fewer than L come before it
unfoldable pub gets_extra : ℕ → List ℕ → ℕ → Bool
gets_extra m ws k = ltb (rank (remainder m ws) (length ws) k) (leftover m ws)

abbrev pub extra : ℕ → List ℕ → ℕ → ℕ
extra m ws k = cond (gets_extra m ws k) 1 0

-- what position k receives
unfoldable pub part : ℕ → List ℕ → ℕ → ℕ
part m ws k = quotient m ws k + extra m ws k

-- 64 numbers: those of n positions, and 0 behind them
unfoldable pub padded : ℕ → (ℕ → ℕ) → List ℕ
padded n f = list_below 64 (λ k. cond (ltb k n) (f k) 0)

-- the parts by the weights ws: 1 to 64 positions, an amount of at most 10^11, a total weight of 1 to 92,000,000
unfoldable pub apportioned : ℕ → List ℕ → Result (List ℕ) Undivided
apportioned m ws =
    cond (eqb (length ws) 0 || ltb 64 (length ws)) (Err Count)
    (cond (ltb 100000000000 m) (Err Amount)
    (cond (eqb (total_weight ws) 0 || ltb 92000000 (total_weight ws)) (Err Weight)
    (Ok (padded (length ws) (part m ws)))))
