-- A line that is read, by its letter and its fields.
use Rattle.std.proofs.Common.{◌≡◌, refl, sym, List, ℕ, ◌+◌, ◌≤◌, arith, length, get_or, take, drop, eq-eqb}
use Rattle.std.proofs.lemmas.Bool.Decides.{nat_tests}
use Rattle.std.specs.Prelude.{Option, Some, None, Result, Ok, Err}
use Rattle.line.specs.declared.Fields.{Fields}
use Rattle.line.specs.declared.Malformed.{Malformed}
use Rattle.line.specs.declared.line.Uses.{Uses}
use Rattle.line.specs.Field.{Field, field_at}
use Rattle.line.specs.FieldUse.{used_number}
use Rattle.line.specs.Line.{read_stated, uses_of, assembled_of, columns_of, line_of}
use Rattle.line.proofs.FieldReading.{field_part}

-- a field as a part of the line
abbrev pub part : List ℕ → ℕ → ℕ → Field
part s at w = field_at (take w (drop at s)) 0 (length (take w (drop at s)))

-- the fields of a line, or the refusal of the first that is not proper
abbrev pub joined : ℕ → (date first second third : Result ℕ Malformed) → Result Fields Malformed
joined l (Ok d) (Ok f) (Ok s) (Ok t) = Ok (record { letter = l; date = d; first = f; second = s; third = t })
joined l (Ok d) (Ok f) (Ok s) (Err m) = Err m
joined l (Ok d) (Ok f) (Err m) t = Err m
joined l (Ok d) (Err m) s t = Err m
joined l (Err m) f s t = Err m

joins : (l : ℕ) (u : Uses) (d f s t : Field)
    → assembled_of l (Some u) d f s t ≡ read_stated (joined l (used_number u.date d) (used_number u.first f) (used_number u.second s) (used_number u.third t))
unfolding assembled_of
joins l u d f s t = grind (arith, nat_tests)

-- the same by the letter
abbrev pub reading : List ℕ → Option Uses → Result Fields Malformed
reading s None = Err (record {})
reading s (Some u) =
    joined
    (get_or s 0 0)
    (used_number u.date (part s 1 8))
    (used_number u.first (part s 9 9))
    (used_number u.second (part s 18 9))
    (used_number u.third (part s 27 15))

pub line_read : (s : List ℕ) → length s ≡ 43 → get_or s 42 0 ≡ 10 → line_of s ≡ read_stated (reading s (uses_of (get_or s 0 0)))
unfolding line_of columns_of assembled_of
line_read s long feed = simp (eq-eqb _ _ long, eq-eqb _ _ feed) (go (uses_of (get_or s 0 0)))
  where
    there : (at w : ℕ) → at + w ≤ 43 → field_at s at w ≡ part s at w
    there at w h = sym (field_part s at w (omega (arith, long)))

    go : (o : Option Uses) → assembled_of (get_or s 0 0) o (field_at s 1 8) (field_at s 9 9) (field_at s 18 9) (field_at s 27 15) ≡ read_stated (reading s o)
    go None = refl
    go (Some u) =
        rw (there 1 8 (omega arith), there 9 9 (omega arith), there 18 9 (omega arith), there 27 15 (omega arith)) (joins (get_or s 0 0) u _ _ _ _)
