-- What refuses a line: another length than 43, another last byte than a line feed, or a line feed among its columns.
use Rattle.std.proofs.Common.{◌≡◌, refl, ap, ◌∙◌, Bool, false, cond, List, ℕ, suc, ◌+◌, ◌-◌, ◌≤◌, ◌<◌, arith, length, get_or, ne_eqb}
use Rattle.std.proofs.Math.Bool.{and-false}
use Rattle.line.specs.declared.Fields.{Fields}
use Rattle.std.proofs.lemmas.Bool.Decides.{nat_tests}
use Rattle.std.specs.Prelude.{Option, Some, None}
use Rattle.line.specs.declared.line.Uses.{Uses}
use Rattle.line.specs.Field.{Field, bad, step_of, field_at}
use Rattle.line.specs.Line.{malformed_number, no_fields, uses_of, formed, fields_from, assembled_of, columns_of, line_of}
use Rattle.line.proofs.FieldReading.{bad_stays}

abbrev pub Refused : ℕ × Fields → Type 0
Refused r = r ≡ (malformed_number, no_fields)

-- A line feed among the columns

step_feed : (f : Field) → step_of f 10 ≡ bad
step_feed f = grind (arith, nat_tests)

feed_bad : (s : List ℕ) (at w k : ℕ) → at ≤ k → k < at + w → get_or s k 0 ≡ 10 → field_at s at w ≡ bad
unfolding field_at
feed_bad s at w k from to e =
    let n : at + (k - at) ≡ k = omega arith in
    bad_stays s at (suc (k - at)) w (omega arith)
    (ap (λ (i : ℕ). step_of (field_at s at (k - at)) (get_or s i 0)) n
    ∙ ap (step_of (field_at s at (k - at))) e
    ∙ step_feed (field_at s at (k - at)))

unformed : (l : ℕ) (o : Option Uses) (date first second third : Field) → formed o date first second third ≡ false
    → Refused (assembled_of l o date first second third)
unfolding assembled_of
unformed l o date first second third e =
    ap (λ (t : Bool). cond t (0, fields_from l date first second third) (malformed_number, no_fields)) e

any_uses : (o : Option Uses) (date first second third : Field) → ((u : Uses) → formed (Some u) date first second third ≡ false)
    → formed o date first second third ≡ false
any_uses None date first second third h = refl
any_uses (Some u) date first second third h = h u

module _ (s : List ℕ) where
  letter-feed : get_or s 0 0 ≡ 10 → Refused (columns_of s)
  unfolding columns_of assembled_of uses_of
  letter-feed e = rw e

  date_bad : field_at s 1 8 ≡ bad → Refused (columns_of s)
  unfolding columns_of
  date_bad e = unformed _ _ _ _ _ _ (any_uses (uses_of (get_or s 0 0)) (field_at s 1 8) (field_at s 9 9) (field_at s 18 9) (field_at s 27 15) (λ u. simp e))

  first_bad : field_at s 9 9 ≡ bad → Refused (columns_of s)
  unfolding columns_of
  first_bad e = unformed _ _ _ _ _ _ (any_uses (uses_of (get_or s 0 0)) (field_at s 1 8) (field_at s 9 9) (field_at s 18 9) (field_at s 27 15) (λ u. simp (e, and-false)))

  second_bad : field_at s 18 9 ≡ bad → Refused (columns_of s)
  unfolding columns_of
  second_bad e = unformed _ _ _ _ _ _ (any_uses (uses_of (get_or s 0 0)) (field_at s 1 8) (field_at s 9 9) (field_at s 18 9) (field_at s 27 15) (λ u. simp (e, and-false)))

  third_bad : field_at s 27 15 ≡ bad → Refused (columns_of s)
  unfolding columns_of
  third_bad e = unformed _ _ _ _ _ _ (any_uses (uses_of (get_or s 0 0)) (field_at s 1 8) (field_at s 9 9) (field_at s 18 9) (field_at s 27 15) (λ u. simp (e, and-false)))

  pub columns-feed : (k : ℕ) → k < 42 → get_or s k 0 ≡ 10 → Refused (columns_of s)
  columns-feed k h e = grind (arith, letter-feed, date_bad, first_bad, second_bad, third_bad, feed_bad)

  -- What refuses a line

  pub length-refuses : (length s ≡ 43 → ⊥) → Refused (line_of s)
  unfolding line_of
  length-refuses n = simp (ne_eqb (length s) 43 n)

  pub last-refuses : (get_or s 42 0 ≡ 10 → ⊥) → Refused (line_of s)
  unfolding line_of
  last-refuses n = simp (ne_eqb (get_or s 42 0) 10 n, and-false)

  pub columns-refuse : Refused (columns_of s) → Refused (line_of s)
  unfolding line_of
  columns-refuse e = grind (arith, nat_tests)

  -- one that isn't refused
  pub read_length : (f : Fields) → line_of s ≡ (0, f) → length s ≡ 43
  unfolding line_of
  read_length f e = grind (arith, nat_tests)
