-- A field of w columns is below 10 ^ w.
use Rattle.std.proofs.Common.{◌≡◌, refl, List, ℕ, zero, suc, ◌+◌, ◌*◌, ◌^◌, ◌≤◌, ◌<◌, pow-suc, arith, length, get_or}
use Rattle.std.proofs.Math.Nat.{pow-le-pow_right, one-le-pow}
use Rattle.std.proofs.lemmas.Bool.Decides.{nat_tests}
use Rattle.std.specs.Prelude.{Some, None, Ok, Err}
use Rattle.line.specs.Field.{Field, number, step_of, field_at}
use Rattle.line.specs.Line.{number_of}

-- a number, if there is one, is below k
abbrev pub Below : Field → ℕ → Type 0
Below (Ok None) k = Unit {0}
Below (Ok (Some n)) k = n < k
Below (Err refusal) k = Unit {0}

-- one column more multiplies the bound by ten
step_below : (f : Field) (c k : ℕ) → 0 < k → Below f k → Below (step_of f c) (k * 10)
step_below f c k pos h = grind (arith, nat_tests)

pub field_below : (s : List ℕ) (at w : ℕ) → Below (field_at s at w) (10 ^ w)
unfolding field_at
field_below s at zero = tt
field_below s at (suc w) = rw pow-suc (step_below (field_at s at w) (get_or s (at + w) 0) (10 ^ w) (one-le-pow w 10 (omega arith)) (field_below s at w))

below_more : (f : Field) (j k : ℕ) → j ≤ k → Below f j → Below f k
below_more f j k le h = grind arith

-- a wider field's bound
pub field_below_wider : (s : List ℕ) (at w k : ℕ) → w ≤ k → Below (field_at s at w) (10 ^ k)
field_below_wider s at w k le =
    below_more (field_at s at w) (10 ^ w) (10 ^ k) (pow-le-pow_right {n = 10} (omega arith) {i = w} {j = k} le) (field_below s at w)

pub number-below : (f : Field) (k : ℕ) → 0 < k → Below f k → number_of f < k
number-below f k pos h = grind arith

-- a number of so many columns
pub number_below : (s : List ℕ) (n : ℕ) → field_at s 0 (length s) ≡ number n → (10 ^ length s ≡ 10 ^ length s) × (n < 10 ^ length s)
number_below s n e = (refl, rw e at (field_below s 0 (length s)))

pub some_below : (w : ℕ) → 0 < 10 ^ w
some_below w = one-le-pow w 10 (omega arith)
