-- Positions that are paid, each by its place, and the book after a settlement.
use Rattle.std.proofs.Common.{ℕ, zero, suc, ◌+◌, ◌≤◌, ◌<◌, arith, ◌≡◌, refl, ap, ◌∙◌, List, [], ◌∷◌, length, get_or}
use Rattle.std.proofs.Math.Seq.{take-append_seam}
use Rattle.std.proofs.lemmas.List.{length-map}
use Rattle.std.specs.List.{sum}
use Rattle.general_laws.specs.Sums.{sum_below}
use Rattle.apportionment.proofs.Callers.{divides, padded-at, padded-behind, laws, weight-total}
use Rattle.general_laws.proofs.Choice.{by_order}
use Rattle.general_laws.proofs.Sums.{sum-none, sum-suc, sum_prefix, sum_first}
use Rattle.general_laws.proofs.Totals.{sum-cons, total_most_of}
use Rattle.std.specs.Prelude.{Ok}
use Rattle.apportionment.specs.Apportionment.{total_weight, part, padded, apportioned}
use Rattle.book_model.specs.declared.Book.{Book}
use Rattle.book_model.specs.declared.Position.{Position}
use Rattle.book_model.specs.Book.{held, fresh, with_held, with_account, with_settlement}
use Rattle.book_model.specs.Positions.{paid_position, paid_from, unit_days_column, shares, receipts, holders}
use Rattle.book_model.specs.Settle.{settled_book}
use Rattle.book_model.specs.Invariant.{OpenSound}
use Rattle.book_model.proofs.ChangedBook.{Roomy, length-held}

-- places counted from one more
paid_shift : (f : ℕ → ℕ) (k : ℕ) (ps : List Position) → paid_from f (suc k) ps ≡ paid_from (λ i. f (suc i)) k ps
paid_shift f k [] = refl
paid_shift f k (p ∷ ps) = ap (λ (l : List Position). paid_position (f (suc k)) p ∷ l) (paid_shift f (suc k) ps)

pub length-paid : (f : ℕ → ℕ) (k : ℕ) (ps : List Position) → length (paid_from f k ps) ≡ length ps
length-paid f k [] = refl
length-paid f k (p ∷ ps) = ap suc (length-paid f (suc k) ps)

-- what stands at a place
pub paid-at : (f : ℕ → ℕ) (ps : List Position) (i : ℕ) (d : Position) → i < length ps
    → get_or (paid_from f 0 ps) i d ≡ paid_position (f i) (get_or ps i d)
paid-at f [] i d lt = absurd (omega arith)
paid-at f (p ∷ ps) zero d lt = refl
paid-at f (p ∷ ps) (suc i) d lt = rw (paid_shift f 0 ps) (paid-at (λ j. f (suc j)) ps i d (omega arith))

-- only the places of the list matter
pub paid-same : (f g : ℕ → ℕ) (ps : List Position) → ((i : ℕ) → i < length ps → f i ≡ g i) → paid_from f 0 ps ≡ paid_from g 0 ps
paid-same f g [] h = refl
paid-same f g (p ∷ ps) h =
    rw (
      h 0 (omega arith),
      paid_shift f 0 ps,
      paid_shift g 0 ps,
      paid-same (λ i. f (suc i)) (λ i. g (suc i)) ps (λ i lt. h (suc i) (omega arith)),
    )

-- What a payment leaves

pub holders-paid : (f : ℕ → ℕ) (k : ℕ) (ps : List Position) → holders (paid_from f k ps) ≡ holders ps
holders-paid f k [] = refl
holders-paid f k (p ∷ ps) = ap (λ (hs : List ℕ). p.holder ∷ hs) (holders-paid f (suc k) ps)

pub shares-paid : (f : ℕ → ℕ) (k : ℕ) (ps : List Position) → shares (paid_from f k ps) ≡ shares ps
shares-paid f k [] = refl
shares-paid f k (p ∷ ps) = ap (λ (ss : List ℕ). p.share.0 ∷ ss) (shares-paid f (suc k) ps)

-- What a payment changes

pub unit_days_paid : (f : ℕ → ℕ) (k : ℕ) (ps : List Position) → sum (unit_days_column (paid_from f k ps)) ≡ 0
unit_days_paid f k [] = refl
unit_days_paid f k (p ∷ ps) = omega (arith, sum-cons, unit_days_paid f (suc k) ps)

pub receipts-paid : (f : ℕ → ℕ) (ps : List Position)
    → sum (receipts (paid_from f 0 ps)) ≡ sum (receipts ps) + sum_below (length ps) f
receipts-paid f [] = let e = sum-none f in omega arith
receipts-paid f (p ∷ ps) =
    rw (paid_shift f 0 ps) (omega (arith, sum-cons, sum_first (length ps) f, receipts-paid (λ i. f (suc i)) ps))

-- no position of a sound book has received more than 240 settlements
pub receipt_most : (b : Book) → OpenSound b → (i : ℕ) → (get_or (held b) i (fresh 0 0)).received.0 ≤ 24000000000000
receipt_most b s i = omega (arith, total_most_of (λ (p : Position). p.received.0) (held b) i (fresh 0 0) refl)

-- The parts of an amount

-- none is over the amount
pub part-within : (m : ℕ) (us : List ℕ) → 0 < total_weight us → (k : ℕ) → k < length us → part m us k ≤ m
part-within m us some k lt =
    omega (arith, (laws m us some).parts-total, sum-suc k (part m us), sum_prefix (k + 1) (length us) (part m us) (omega arith))

-- Those of m cents by the unit-days of the positions ps
module _ (ps : List Position) (some : 0 < length ps) (few : length ps ≤ 64)
    (days-some : 0 < sum (unit_days_column ps)) (days-most : sum (unit_days_column ps) ≤ 92000000)
    (m : ℕ) (small : m ≤ 100000000000) where
  as_many : length (unit_days_column ps) ≡ length ps
  as_many = length-map ps (λ (p : Position). p.unit_days)

  weights-some : 0 < total_weight (unit_days_column ps)
  weights-some = omega (arith, weight-total (unit_days_column ps))

  pub divided : apportioned m (unit_days_column ps) ≡ Ok (padded (length (unit_days_column ps)) (part m (unit_days_column ps)))
  divided =
      divides m (unit_days_column ps) (omega (arith, as_many)) (omega (arith, as_many)) small weights-some
      (omega (arith, weight-total (unit_days_column ps)))

  module _ (parts : List ℕ) (are : parts ≡ padded (length (unit_days_column ps)) (part m (unit_days_column ps))) where
    parts_at : (k : ℕ) → k < length ps → get_or parts k 0 ≡ part m (unit_days_column ps) k
    parts_at k lt = rw are (padded-at (length (unit_days_column ps)) (part m (unit_days_column ps)) k (omega (arith, as_many)) (omega (arith, as_many)))

    pub parts-most : (k : ℕ) → get_or parts k 0 ≤ 100000000001
    parts-most k =
        by_order k (length ps)
        (λ lt. omega (arith, parts_at k lt, part-within m (unit_days_column ps) weights-some k (omega (arith, as_many))))
        (λ ge. rw are (omega (arith, padded-behind (length (unit_days_column ps)) (part m (unit_days_column ps)) k (omega (arith, as_many)))))

    -- the positions paid by them
    pub paid_by_parts : paid_from (λ k. get_or parts k 0) 0 ps ≡ paid_from (part m (unit_days_column ps)) 0 ps
    paid_by_parts = paid-same (λ k. get_or parts k 0) (part m (unit_days_column ps)) ps parts_at

-- The book after a settlement of m cents

module _ (b : Book) (m : ℕ) where
  pub held-settled : held (settled_book b m) ≡ paid_from (part m (unit_days_column (held b))) 0 (held b)
  unfolding settled_book with_held with_account with_settlement
  held-settled = take-append_seam (paid_from (part m (unit_days_column (held b))) 0 (held b)) _

  pub count-settled : Roomy b → (settled_book b m).count ≡ b.count
  unfolding settled_book with_held with_account with_settlement
  count-settled room = length-paid (part m (unit_days_column (held b))) 0 (held b) ∙ length-held b room

  pub holders-settled : holders (held (settled_book b m)) ≡ holders (held b)
  holders-settled = rw held-settled (holders-paid (part m (unit_days_column (held b))) 0 (held b))

  pub shares-settled : shares (held (settled_book b m)) ≡ shares (held b)
  shares-settled = rw held-settled (shares-paid (part m (unit_days_column (held b))) 0 (held b))

  -- "Unit-days become 0."
  pub unit_days_settled : sum (unit_days_column (held (settled_book b m))) ≡ 0
  unit_days_settled = rw held-settled (unit_days_paid (part m (unit_days_column (held b))) 0 (held b))

  -- the positions receive m together
  pub receipts-settled : 0 < sum (unit_days_column (held b)) → sum (receipts (held (settled_book b m))) ≡ sum (receipts (held b)) + m
  receipts-settled some =
      let ws = unit_days_column (held b) in
      let whole = (laws m ws (omega (arith, weight-total ws))).parts-total in
      let n : length ws ≡ length (held b) = length-map (held b) (λ (p : Position). p.unit_days) in
      rw held-settled (receipts-paid (part m ws) (held b) ∙ omega (arith, rw n at whole))
