-- What an annual rate is answered, and what its answer tells.
use Rattle.std.proofs.Common.{arith, ◌≡◌, ℕ, ◌≤◌, ◌<◌, le-leb}
use Rattle.std.proofs.lemmas.Bool.{lt-leb}
use Rattle.std.proofs.lemmas.Grind.{common_steps}
use Rattle.rates.specs.Rate.{daily_of, rate_of, rate_number}

pub refused : (i : ℕ) → 4000 < i → rate_of i ≡ (rate_number, 0)
unfolding rate_of
refused i h = rw (lt-leb i 4000 h)

pub accepted : (i : ℕ) → i ≤ 4000 → rate_of i ≡ (0, daily_of i)
unfolding rate_of
accepted i h = rw (le-leb i 4000 h)

pub over_tells : (i : ℕ) → (rate_number, 0) ≡ rate_of i → 4000 < i
unfolding rate_of
over_tells i e = grind (arith, common_steps)

pub daily_tells : (i d : ℕ) → (0, d) ≡ rate_of i → (i ≤ 4000) × (d ≡ daily_of i)
unfolding rate_of
daily_tells i d e = (grind (arith, common_steps), grind (arith, common_steps))
