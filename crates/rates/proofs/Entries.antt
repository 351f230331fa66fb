-- The rule at every entry of the table, by one test that is computed over the whole of it.
use Rattle.std.proofs.Common.{Bool, not, ◌&&◌, ◌≡◌, ℕ, suc, ◌<◌, T, get_or, take, drop}
use lib.Ieee.Bits.{is_true, is_false}
use lib.Ieee.Fits.{and_l, and_r}
use Rattle.general_laws.proofs.Every.{every, at_entry, every-joined}
use Rattle.rates.specs.Rate.{within, daily_of}
use Rattle.rates.proofs.DailyRates.{daily_rates}
use Rattle.rates.proofs.Rule.{only}

-- d meets the bound of i, and the next number does not
unfoldable right : ℕ → ℕ → Bool
right i d = within i d && not (within i (suc d))

-- in four parts: each takes about 40 million of the 50 million steps that a declaration has
part0 : T (every right 0 (take 1001 daily_rates))
unfolding daily_rates right within
part0 = tt

part1 : T (every right 1001 (take 1001 (drop 1001 daily_rates)))
unfolding daily_rates right within
part1 = tt

part2 : T (every right 2002 (take 1001 (drop 2002 daily_rates)))
unfolding daily_rates right within
part2 = tt

part3 : T (every right 3003 (drop 3003 daily_rates))
unfolding daily_rates right within
part3 = tt

whole : T (every right 0 daily_rates)
unfolding daily_rates
whole =
    every-joined right 1001 daily_rates 0 part0
    (every-joined right 1001 (drop 1001 daily_rates) 1001 part1 (every-joined right 1001 (drop 2002 daily_rates) 2002 part2 part3))

right-at : (k : ℕ) → k < 4001 → T (right k (get_or daily_rates k 0))
unfolding daily_rates
right-at k h = at_entry right daily_rates whole k h

right-only : (i d : ℕ) → T (right i d) → d ≡ daily_of i
unfolding right
right-only i d t =
    only i d (is_true (within i d) (and_l (within i d) (not (within i (suc d))) t))
    (is_false (within i (suc d)) (and_r (within i d) (not (within i (suc d))) t))

pub entry : (k : ℕ) → k < 4001 → get_or daily_rates k 0 ≡ daily_of k
entry k h = right-only k (get_or daily_rates k 0) (right-at k h)
