-- What one byte more does to a filled buffer.
use Rattle.std.proofs.Common.{◌≡◌, List, ℕ, ◌+◌, ◌%◌, ◌<◌, add-one, length, take, set, take-suc-set}
use Rattle.cases.specs.Filled.{filled}

pub fills : (b : List ℕ) (i : ℕ) → i < length b → take i b ≡ filled i → take (i + 1) (set b i (35 + i % 90)) ≡ filled (i + 1)
unfolding filled
fills b i h e = rw (add-one, take-suc-set b i (35 + i % 90) h, e)
