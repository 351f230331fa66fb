-- A written field reads back, and a field that is read is written as the same bytes, at every width.
use Rattle.std.proofs.Common.{◌≡◌, refl, sym, ap, ◌∙◌, cond, List, [], ◌∷◌, ◌++◌, ℕ, zero, suc, ◌+◌, ◌*◌, ◌/◌, ◌%◌, ◌^◌, ◌≤◌, ◌<◌, arith, eqb, length, get_or, take, drop}
use Rattle.std.proofs.Math.Nat.{one-le-pow}
use Rattle.general_laws.proofs.Parts.{part_longer}
use Rattle.general_laws.proofs.Powers.{quotient-below}
use Rattle.std.proofs.lemmas.Bool.Decides.{nat_tests}
use Rattle.std.proofs.lemmas.List.Sums.{fold-append}
use Rattle.std.specs.List.{fold}
use Rattle.line.specs.Field.{Field, blank, number, step_of, field_at, symbol_of, padded, justified}

-- the columns of a list, read one after the other
abbrev pub columns : Field → List ℕ → Field
columns = fold step_of

pub field_columns : (s : List ℕ) (at w : ℕ) → at + w ≤ length s → field_at s at w ≡ columns blank (take w (drop at s))
unfolding field_at
field_columns s at zero h = refl
field_columns s at (suc w) h =
    ap (λ (f : Field). step_of f (get_or s (at + w) 0)) (field_columns s at w (omega arith))
    ∙ sym (ap (columns blank) (part_longer s at w 0 h) ∙ fold-append step_of blank (take w (drop at s)) (get_or s (at + w) 0 ∷ []))

-- the field of the columns of `padded`
abbrev pub shown : ℕ → Field
shown m = cond (eqb m 0) blank (number m)

-- a digit after `shown q`
pub step_digit : (q d : ℕ) → d < 10 → step_of (shown q) (48 + d) ≡ number (q * 10 + d)
step_digit q d h = grind (arith, nat_tests)

-- one column more of `padded`
step_shown : (m : ℕ) → step_of (shown (m / 10)) (symbol_of m) ≡ shown m
step_shown m = grind (arith, nat_tests)

padded-reads : (w m : ℕ) → m < 10 ^ w → columns blank (padded w m) ≡ shown m
unfolding padded
padded-reads zero m h =
    let z : m ≡ 0 = omega arith in
    rw z
padded-reads (suc w) m h =
    fold-append step_of blank (padded w (m / 10)) (symbol_of m ∷ [])
    ∙ ap (λ (f : Field). step_of f (symbol_of m)) (padded-reads w (m / 10) (quotient-below 10 m w (omega arith) h)) ∙ step_shown m

-- a written field reads back
pub number-reads : (w n : ℕ) → 0 < w → n < 10 ^ w → columns blank (justified w n) ≡ number n
unfolding justified
number-reads zero n pos h = absurd (omega arith)
number-reads (suc w) n pos h =
    let e : n / 10 * 10 + n % 10 ≡ n = omega arith in
    fold-append step_of blank (padded w (n / 10)) ((48 + n % 10) ∷ [])
    ∙ ap (λ (f : Field). step_of f (48 + n % 10)) (padded-reads w (n / 10) (quotient-below 10 n w (omega arith) h))
    ∙ step_digit (n / 10) (n % 10) (omega arith) ∙ ap number e

-- a field that ends in a number: the field before it, and its last column
step_inv : (f : Field) (c n : ℕ) → step_of f c ≡ number n → (f ≡ shown (n / 10)) × (c ≡ 48 + n % 10)
step_inv f c n h = grind (arith, nat_tests)

-- the same for a field of `padded`
shown_inv : (f : Field) (c q : ℕ) → step_of f c ≡ shown q → (f ≡ shown (q / 10)) × (c ≡ symbol_of q)
shown_inv f c q h = grind (arith, nat_tests)

module _ (s : List ℕ) (at : ℕ) where
  padded-same : (w q : ℕ) → at + w ≤ length s → field_at s at w ≡ shown q → take w (drop at s) ≡ padded w q
  unfolding padded field_at
  padded-same zero q h e = refl
  padded-same (suc w) q h e =
      let b = shown_inv (field_at s at w) (get_or s (at + w) 0) q e in
      part_longer s at w 0 h ∙ ap (λ (l : List ℕ). l ++ (get_or s (at + w) 0 ∷ [])) (padded-same w (q / 10) (omega arith) b.0)
      ∙ ap (λ (c : ℕ). padded w (q / 10) ++ (c ∷ [])) b.1

  -- a field that is a number is written as the same bytes
  pub number_same : (w n : ℕ) → at + w ≤ length s → field_at s at w ≡ number n → take w (drop at s) ≡ justified w n
  unfolding justified field_at
  number_same zero n h e = refl
  number_same (suc w) n h e =
      let b = step_inv (field_at s at w) (get_or s (at + w) 0) n e in
      part_longer s at w 0 h ∙ ap (λ (l : List ℕ). l ++ (get_or s (at + w) 0 ∷ [])) (padded-same w (n / 10) (omega arith) b.0)
      ∙ ap (λ (c : ℕ). padded w (n / 10) ++ (c ∷ [])) b.1

  -- an unused field is written as spaces
  pub blank_same : (w : ℕ) → at + w ≤ length s → field_at s at w ≡ blank → take w (drop at s) ≡ padded w 0
  blank_same w h e = padded-same w 0 h e

-- spaces read as an unused field
pub blank_reads : (w : ℕ) → columns blank (padded w 0) ≡ blank
blank_reads w = padded-reads w 0 (one-le-pow w 10 (omega arith))
