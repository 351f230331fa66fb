-- A field read column by column, as a part of a longer list, and behind the spaces in front of it.
use Rattle.std.proofs.Common.{◌≡◌, refl, sym, ap, ◌∙◌, ◌&&◌, List, arith, cond, not, false, true≢false, ℕ, zero, suc, ◌+◌, ◌-◌, ◌*◌, ◌^◌, ◌≤◌, ◌<◌, add-zero, add-suc, zero-add, add-one, eqb, eqb-true, eq-eqb, get_or-drop, length, get_or, take, drop, length-drop}
use Rattle.std.proofs.Math.Nat.{one-le-pow}
use Rattle.std.proofs.Math.Seq.{take-length}
use Rattle.std.specs.Prelude.{Some, None, position}
use Rattle.std.specs.List.{position_or_len}
use Rattle.std.proofs.lemmas.Bool.{not-false}
use Rattle.std.proofs.lemmas.Bool.Decides.{nat_tests}
use Rattle.std.proofs.lemmas.Grind.{common_steps}
use Rattle.std.proofs.lemmas.List.{take_rest}
use Rattle.std.proofs.lemmas.List.Quantifiers.{position-Some}
use Rattle.std.proofs.lemmas.List.Sums.{fails_before_first}
use Rattle.line.specs.Line.{proper}
use Rattle.line.specs.Field.{Field, blank, number, bad, step_of, field_at}
use Rattle.line.proofs.FieldBounds.{Below, field_below_wider}
use Rattle.line.proofs.FieldRoundTrip.{columns, field_columns}

-- the field of i digits, which write n
abbrev pub passed : (i n : ℕ) → Field
passed i n = cond (eqb i 0) blank (number n)

-- One column

step_other : (i n c : ℕ) → (48 ≤ c → c ≤ 57 → ⊥) → (i ≡ 0 → c ≡ 32 → ⊥) → step_of (passed i n) c ≡ bad
step_other i n c h b = grind (arith, nat_tests)

step_passed : (i n c : ℕ) → 48 ≤ c → c ≤ 57 → (i ≡ 0 → n ≡ 0) → (n ≡ 0 → i ≡ 0) → step_of (passed i n) c ≡ passed (i + 1) (n * 10 + (c - 48))
step_passed i n c l u first later = grind (arith, nat_tests)

passed-below : (i n k : ℕ) → 0 < k → (i ≡ 0 → n ≡ 0) → Below (passed i n) k → n < k
passed-below i n k pos first h = grind (arith, nat_tests)

-- The columns from a position on

module _ (s : List ℕ) (at : ℕ) where
  bad_further : (i k : ℕ) → field_at s at i ≡ bad → field_at s at (i + k) ≡ bad
  unfolding field_at
  bad_further i zero e = rw add-zero e
  bad_further i (suc k) e = rw add-suc (ap (λ (f : Field). step_of f (get_or s (at + (i + k)) 0)) (bad_further i k e))

  pub bad_stays : (i w : ℕ) → i ≤ w → field_at s at i ≡ bad → field_at s at w ≡ bad
  bad_stays i w h e =
      let m : i + (w - i) ≡ w = omega arith in
      rw m at (bad_further i (w - i) e)

  -- a first digit 0 is the number 0
  pub zero_read : (i w : ℕ) → i < w → w ≤ i + 1 → field_at s at i ≡ blank → get_or s (at + i) 0 ≡ 48 → field_at s at w ≡ number 0
  unfolding field_at
  zero_read i w h k e c =
      let m : w ≡ i + 1 = omega arith in
      rw (m, add-one, e, c) refl

-- a column more of an unused field is a space
pub unused_further : (s : List ℕ) (i : ℕ) → proper false (field_at s 0 (i + 1)) ≡ (proper false (field_at s 0 i) && eqb (get_or s i 0) 32)
unfolding field_at
unused_further s i = grind (arith, nat_tests)

-- The columns of a list

module _ (s : List ℕ) where
  column_more : (i : ℕ) (f : Field) → field_at s 0 i ≡ f → field_at s 0 (i + 1) ≡ step_of f (get_or s i 0)
  unfolding field_at
  column_more i f e = rw (add-one, e, zero-add) refl

  first_zero : get_or s 0 0 ≡ 48 → field_at s 0 1 ≡ number 0
  unfolding field_at
  first_zero e = rw e refl

  -- a first digit 0 with any column after it
  pub zero_further : (w : ℕ) → 1 < w → get_or s 0 0 ≡ 48 → field_at s 0 w ≡ bad
  zero_further w h e = bad_stays s 0 2 w h (column_more 1 (number 0) (first_zero e))

  module _ (i n : ℕ) (e : field_at s 0 i ≡ passed i n) where
    -- a byte that is no digit, and no space before the digits
    pub other-column : (w : ℕ) → i < w → (48 ≤ get_or s i 0 → get_or s i 0 ≤ 57 → ⊥) → (i ≡ 0 → get_or s i 0 ≡ 32 → ⊥) → field_at s 0 w ≡ bad
    other-column w h d b = bad_stays s 0 (i + 1) w (omega arith) (column_more i (passed i n) e ∙ step_other i n (get_or s i 0) d b)

    module _ (first : i ≡ 0 → n ≡ 0) where
      -- a digit, behind no leading 0
      pub digit_column : 48 ≤ get_or s i 0 → get_or s i 0 ≤ 57 → (n ≡ 0 → i ≡ 0) → field_at s 0 (i + 1) ≡ passed (i + 1) (n * 10 + (get_or s i 0 - 48))
      digit_column l u later = column_more i (passed i n) e ∙ step_passed i n (get_or s i 0) l u first later

      -- up to 18 columns
      pub digits-below : i ≤ 18 → n < 10 ^ 18
      digits-below h = passed-below i n (10 ^ 18) (one-le-pow 18 10 (omega arith)) first (rw e at (field_below_wider s 0 i 18 h))

-- what a column makes of the digits before it
pub ruleset digit_steps = (zero_further, other-column, digit_column, digits-below)

-- spaces in front change nothing
module _ (s : List ℕ) (k : ℕ) (spaces : (i : ℕ) → i < k → get_or s i 0 ≡ 32) where
  spaces_blank : (i : ℕ) → i ≤ k → field_at s 0 i ≡ blank
  unfolding field_at
  spaces_blank zero h = refl
  spaces_blank (suc i) h = rw (spaces_blank i (omega arith), zero-add, spaces i (omega arith)) refl

  field_passed : (w : ℕ) → field_at s 0 (k + w) ≡ field_at (drop k s) 0 w
  unfolding field_at
  field_passed zero = rw add-zero (spaces_blank k (omega arith))
  field_passed (suc w) = rw (add-suc, field_passed w, zero-add, zero-add, get_or-drop k s w 0) refl

-- a field as a part
pub field_part : (s : List ℕ) (at w : ℕ) → at + w ≤ length s → field_at (take w (drop at s)) 0 (length (take w (drop at s))) ≡ field_at s at w
field_part s at w h =
    let t : List ℕ = take w (drop at s) in
    field_columns t 0 (length t) (omega arith) ∙ ap (columns blank) (take-length t) ∙ sym (field_columns s at w h)

-- The first column that isn't a space

-- none: the field is blank
pub filled_nowhere : (s : List ℕ) → position (λ c. not (eqb c 32)) s ≡ None → field_at s 0 (length s) ≡ blank
filled_nowhere s e =
    let whole : length s ≤ position_or_len (λ (c : ℕ). not (eqb c 32)) s = grind (arith, common_steps) in
    spaces_blank s (length s)
    (λ i h. eqb-true (get_or s i 0) 32 (not-false (eqb (get_or s i 0) 32) (fails_before_first (λ (c : ℕ). not (eqb c 32)) s i 0 (omega arith))))
    (length s) (omega arith)

-- one: what begins there is the field, and not with a space
pub filled_first : (s : List ℕ) (k : ℕ) → position (λ c. not (eqb c 32)) s ≡ Some k
    → (drop k s ≡ drop k s)
    × ((k < length s)
    × ((get_or (drop k s) 0 0 ≡ 32 → ⊥)
    × ((take (length s - k) (drop k s) ≡ drop k s) × (field_at s 0 (length s) ≡ field_at (drop k s) 0 (length (drop k s))))))
filled_first s k e =
    let p = position-Some (λ (c : ℕ). not (eqb c 32)) s k 0 e in
    let first : get_or (drop k s) 0 0 ≡ get_or s k 0 = rw (get_or-drop k s 0 0, add-zero) in
    let m : k + (length s - k) ≡ length s = omega (arith, p.0) in
    let behind = field_passed s k (λ i h. eqb-true (get_or s i 0) 32 (not-false (eqb (get_or s i 0) 32) (p.2 i h))) (length s - k) in (
      refl,
      (
        p.0,
        (
          rw first (λ z. true≢false (sym p.1 ∙ ap not (eq-eqb (get_or s k 0) 32 z))),
          (take_rest s k, rw m at behind ∙ ap (field_at (drop k s) 0) (sym (length-drop k s))),
        ),
      ),
    )
