-- The table rises, by one test that is computed over the whole of it; so the daily rate rises with the annual rate.
use Rattle.std.proofs.Common.{Bool, true, ◌&&◌, List, [], ◌∷◌, subst, ℕ, zero, suc, ◌<◌, ◌≤◌, le_of_suc-le-suc, not-suc-le-zero, lt_of_lt_of_le, arith, T, ltb, ltb→lt, length, get_or}
use lib.Ieee.Fits.{and_l, and_r}
use Rattle.rates.specs.Rate.{daily_of}
use Rattle.rates.proofs.DailyRates.{daily_rates}
use Rattle.rates.proofs.Rule.{grows}
use Rattle.rates.proofs.Entries.{entry}

-- each entry is less than the next
abbrev rising : List ℕ → Bool
rising [] = true
rising (x ∷ []) = true
rising (x ∷ y ∷ zs) = ltb x y && rising (y ∷ zs)

rising-at : (xs : List ℕ) → T (rising xs) → (k : ℕ) → suc k < length xs → get_or xs k 0 < get_or xs (suc k) 0
rising-at [] t k h = absurd (not-suc-le-zero h)
rising-at (x ∷ []) t k h = absurd (not-suc-le-zero (le_of_suc-le-suc h))
rising-at (x ∷ y ∷ zs) t zero h = ltb→lt x y (and_l (ltb x y) (rising (y ∷ zs)) t)
rising-at (x ∷ y ∷ zs) t (suc k) h = rising-at (y ∷ zs) (and_r (ltb x y) (rising (y ∷ zs)) t) k (le_of_suc-le-suc h)

table_rises : (k : ℕ) → suc k < 4001 → get_or daily_rates k 0 < get_or daily_rates (suc k) 0
unfolding daily_rates
table_rises k h = rising-at daily_rates tt k h

next-rises : (i : ℕ) → i < 4000 → daily_of i < daily_of (suc i)
next-rises i h =
    subst (λ (x : ℕ). x < daily_of (suc i)) (entry i (omega arith))
    (subst (λ (x : ℕ). get_or daily_rates i 0 < x) (entry (suc i) (omega arith)) (table_rises i (omega arith)))

pub rises : (i j : ℕ) → i < j → j ≤ 4000 → daily_of i < daily_of j
rises i j h l = lt_of_lt_of_le (next-rises i (omega arith)) (grows (suc i) j h)
