-- Positions after parts of a share went from a cedent to an assignee: what stays the same.
use Rattle.std.proofs.Common.{ℕ, suc, ◌+◌, ◌≤◌, ◌<◌, arith, ◌≡◌, refl, sym, ap, ◌∙◌, Bool, true, false, cond, ◌||◌, List, [], ◌∷◌, ◌++◌, map, ltb-true, ltb-false, le-ltb, eqb, ltb, length, length-append}
use Rattle.std.proofs.lemmas.List.{map-append}
use Rattle.std.specs.List.{list_all, sum}
use Rattle.std.proofs.lemmas.List.Folds.{list_all-append}
use Rattle.std.proofs.lemmas.List.Sums.{sum_by_push}
use Rattle.general_laws.specs.Members.{distinct, among}
use Rattle.general_laws.proofs.Choice.{by-test, choice}
use Rattle.general_laws.proofs.Members.{distinct-last}
use Rattle.general_laws.proofs.Totals.{sum-cons}
use Rattle.book_model.specs.declared.Position.{Position}
use Rattle.book_model.specs.Book.{fresh}
use Rattle.book_model.specs.Positions.{is_holder, place, present, share_of, change, less, more, given, shares, unit_days_column, receipts, holders}
use Rattle.book_model.proofs.Changes.{length-change, map-change, present-change}

abbrev pub assigned : ℕ → ℕ → ℕ → List Position → List Position
assigned c a n ps = given a n (change c (less n) ps)

-- Shares

pub shares_less : (c n : ℕ) (ps : List Position) → n ≤ share_of c ps → sum (shares (change c (less n) ps)) + n ≡ sum (shares ps)
shares_less c n [] e = omega arith
shares_less c n (p ∷ ps) e = go (eqb p.holder c) (shares_less c n ps) e
  where
    go : (t : Bool) → (n ≤ share_of c ps → sum (shares (change c (less n) ps)) + n ≡ sum (shares ps)) → n ≤ cond t p.share.0 (share_of c ps)
        → sum (shares (cond t (less n p ∷ ps) (p ∷ change c (less n) ps))) + n ≡ sum (shares (p ∷ ps))
    go true ih q = omega (arith, sum-cons)
    go false ih q = omega (arith, sum-cons, ih q)

pub shares-more : (a n : ℕ) (ps : List Position) → place a ps < length ps → sum (shares (change a (more n) ps)) ≡ sum (shares ps) + n
shares-more a n [] lt = absurd (omega arith)
shares-more a n (p ∷ ps) lt = go (eqb p.holder a) (shares-more a n ps) lt
  where
    go : (t : Bool) → (place a ps < length ps → sum (shares (change a (more n) ps)) ≡ sum (shares ps) + n) → cond t 0 (suc (place a ps)) < suc (length ps)
        → sum (shares (cond t (more n p ∷ ps) (p ∷ change a (more n) ps))) ≡ sum (shares (p ∷ ps)) + n
    go true ih q = omega (arith, sum-cons)
    go false ih q = omega (arith, sum-cons, ih (omega arith))

pub shares-given : (a n : ℕ) (ps : List Position) → sum (shares (given a n ps)) ≡ sum (shares ps) + n
shares-given a n ps =
    choice (λ (l : List Position). sum (shares l) ≡ sum (shares ps) + n) (present a ps)
    (λ e. shares-more a n ps (ltb-true (place a ps) (length ps) e))
    (λ e. rw map-append (sum_by_push (λ (s : ℕ). s) (shares ps) n))

-- A figure that is 0 in a new position and that no change of a share touches

module _ (f : Position → ℕ) (new : (h s : ℕ) → f (fresh h s) ≡ 0) (ceded : (n : ℕ) (p : Position) → f (less n p) ≡ f p)
    (gained : (n : ℕ) (p : Position) → f (more n p) ≡ f p) (c a n : ℕ) where
  total-given : (ps : List Position) → sum (map f (given a n ps)) ≡ sum (map f ps)
  total-given ps =
      choice (λ (l : List Position). sum (map f l) ≡ sum (map f ps)) (present a ps)
      (λ e. ap sum (map-change a (more n) f (gained n) ps))
      (λ e. rw map-append (omega (arith, sum_by_push (λ (s : ℕ). s) (map f ps) (f (fresh a n)), new a n)))

  total-assigned : (ps : List Position) → sum (map f (assigned c a n ps)) ≡ sum (map f ps)
  total-assigned ps = total-given (change c (less n) ps) ∙ ap sum (map-change c (less n) f (ceded n) ps)

-- Holders

-- a holder with no position is not among those that have one
pub absent-among : (a : ℕ) (ps : List Position) → present a ps ≡ false → among a (holders ps) ≡ false
absent-among a [] e = refl
absent-among a (p ∷ ps) e = go (eqb p.holder a) (absent-among a ps) e
  where
    go : (t : Bool) → (present a ps ≡ false → among a (holders ps) ≡ false) → ltb (cond t 0 (suc (place a ps))) (suc (length ps)) ≡ false
        → t || among a (holders ps) ≡ false
    go true ih q = absurd (omega (arith, ltb-false 0 (suc (length ps)) q))
    go false ih q = ih (le-ltb (place a ps) (length ps) (omega (arith, ltb-false (suc (place a ps)) (suc (length ps)) q)))

-- the holders after n parts more for one: the same, or with a new one last
module _ (a n : ℕ) (ps : List Position) where
  holders-same : present a ps ≡ true → holders (given a n ps) ≡ holders ps
  holders-same there = rw there (map-change a (more n) (λ (p : Position). p.holder) (λ p. refl) ps)

  holders-new : present a ps ≡ false → holders (given a n ps) ≡ holders ps ++ (a ∷ [])
  holders-new away = rw away (map-append (λ (p : Position). p.holder) ps (fresh a n ∷ []))

-- What an accepted transfer keeps

module _ (c a n : ℕ) (ps : List Position) where
  holders-less : holders (change c (less n) ps) ≡ holders ps
  holders-less = map-change c (less n) (λ (p : Position). p.holder) (λ p. refl) ps

  present-less : present a (change c (less n) ps) ≡ present a ps
  present-less = present-change c (less n) (λ p. refl) a ps

  holders-assigned : (P : List ℕ → Type 0) → P (holders ps) → (present a ps ≡ false → P (holders ps ++ (a ∷ []))) → P (holders (assigned c a n ps))
  holders-assigned P same last =
      by-test (present a (change c (less n) ps))
      (λ e. rw (holders-same a n (change c (less n) ps) e, holders-less) same)
      (λ e. rw (holders-new a n (change c (less n) ps) e, holders-less) (last (sym present-less ∙ e)))

  pub shares-kept : n ≤ share_of c ps → sum (shares (assigned c a n ps)) ≡ sum (shares ps)
  shares-kept enough = shares-given a n (change c (less n) ps) ∙ shares_less c n ps enough

  pub unit_days_kept : sum (unit_days_column (assigned c a n ps)) ≡ sum (unit_days_column ps)
  unit_days_kept = total-assigned (λ (p : Position). p.unit_days) (λ h s. refl) (λ k p. refl) (λ k p. refl) c a n ps

  pub receipts-kept : sum (receipts (assigned c a n ps)) ≡ sum (receipts ps)
  receipts-kept = total-assigned (λ (p : Position). p.received.0) (λ h s. refl) (λ k p. refl) (λ k p. refl) c a n ps

  pub holders_right_kept : is_holder a ≡ true → list_all is_holder (holders ps) ≡ true → list_all is_holder (holders (assigned c a n ps)) ≡ true
  holders_right_kept right e =
      holders-assigned (λ (l : List ℕ). list_all is_holder l ≡ true) e (λ _. rw (list_all-append is_holder (holders ps) (a ∷ []), e, right))

  pub distinct-kept : distinct (holders ps) ≡ true → distinct (holders (assigned c a n ps)) ≡ true
  distinct-kept e =
      holders-assigned (λ (l : List ℕ). distinct l ≡ true) e (λ away. distinct-last (holders ps) a e (absent-among a ps away))

  -- As many positions as before, or one more

  length-less : length (change c (less n) ps) ≡ length ps
  length-less = length-change c (less n) ps

  pub length_least : length ps ≤ length (assigned c a n ps)
  length_least =
      choice (λ (l : List Position). length ps ≤ length l) (present a (change c (less n) ps))
      (λ e. omega (arith, length-less, length-change a (more n) (change c (less n) ps)))
      (λ e. omega (arith, length-less, length-append (change c (less n) ps) (fresh a n ∷ [])))

  pub length_most : (m : ℕ) → length ps ≤ m → (present a ps ≡ false → length ps < m) → length (assigned c a n ps) ≤ m
  length_most m most free =
      choice (λ (l : List Position). length l ≤ m) (present a (change c (less n) ps))
      (λ e. omega (arith, length-less, length-change a (more n) (change c (less n) ps)))
      (λ e. omega (arith, length-less, length-append (change c (less n) ps) (fresh a n ∷ []), free (sym present-less ∙ e)))
