-- A book and a tally agree, as far as the holders go: what holds of both after every call.
use Rattle.std.proofs.Common.{ℕ, zero, suc, ◌≤◌, ◌<◌, arith, ◌≡◌, refl, ap, ◌∙◌, true, false, map}
use Rattle.std.proofs.Math.Option.{none, some}
use mathlib.Core.List.{map-map}
use Rattle.general_laws.specs.Members.{distinct, among}
use Rattle.std.specs.List.{sum}
use Rattle.book_model.specs.declared.Book.{Book}
use Rattle.book_model.specs.declared.Position.{Position}
use Rattle.book_model.specs.Book.{held, settlements_of}
use Rattle.book_model.specs.Outcome.{answered, no_position}
use Rattle.book_model.specs.Positions.{is_holder, holders, shares, unit_days_column, receipts}
use Rattle.book_model.specs.Read as read
use Rattle.book_model.specs.Invariant.{OpenSound}
use Rattle.account.specs.Standing.{settled_on}
use Rattle.conservation.specs.Tally.{Tally, share_today, weight, received, unit_days_of}
use Rattle.conservation.proofs.ByHolder.{position_with, holders_are, present-is, looked-up}
use Rattle.conservation.proofs.Members.{each_of}
use Rattle.account.proofs.Callers.{none_after_today, none_yet}
use Rattle.conservation.proofs.TallyDays.{weights-some}

-- the position that the tally gives a holder
abbrev pub position_of : Tally → ℕ → Position
position_of t h = position_with h (share_today t h) (unit_days_of t h) (received t h)

-- that no holder stands twice and settlements follow one another, a sound book tells
pub record Agrees (b : Book) (t : Tally) : Type 0 where
  pub today : b.today.0 ≡ t.today
  pub positions : held b ≡ map (position_of t) t.holders
  pub settlements : (d : ℕ) → t.paid d ≡ settled_on (settlements_of b) d
  -- who has not appeared holds nothing, on any day
  pub absent : (h d : ℕ) → among h t.holders ≡ false → t.share h d ≡ 0
  -- today's shares last
  pub lasting : (h d : ℕ) → t.today ≤ d → t.share h d ≡ share_today t h
  -- on every day the shares are the whole right
  pub whole : (d : ℕ) → sum (map (λ h. t.share h d) t.holders) ≡ 1000000

module _ (b : Book) (t : Tally) (agrees : Agrees b t) where
  -- Demand 3 on the holders

  column : (f : Position → ℕ) → map f (held b) ≡ map (λ h. f (position_of t h)) t.holders
  column f = ap (map f) agrees.positions ∙ map-map f (position_of t) t.holders

  pub holders-same : holders (held b) ≡ t.holders
  holders-same = ap holders agrees.positions ∙ holders_are (position_of t) (λ h. refl) t.holders

  pub shares-same : shares (held b) ≡ map (share_today t) t.holders
  shares-same = column (λ p. p.share.0)

  pub shares_whole : sum (shares (held b)) ≡ 1000000
  shares_whole = ap sum shares-same ∙ agrees.whole t.today

  pub unit-days-same : unit_days_column (held b) ≡ map (unit_days_of t) t.holders
  unit-days-same = column (λ p. p.unit_days)

  pub receipts-same : receipts (held b) ≡ map (received t) t.holders
  receipts-same = column (λ p. p.received.0)

  -- What a sound book adds

  module _ (known : OpenSound b) where
    -- no holder stands twice
    pub holders-distinct : distinct t.holders ≡ true
    holders-distinct = rw holders-same at known.holders-distinct

    -- each reads its position as the tally has it
    pub positions-read : b.opened ≡ true → (h : ℕ) → among h t.holders ≡ true → read.position_of b h ≡ answered (position_of t h)
    unfolding read.position_of
    positions-read is_open h m =
        let right : is_holder h ≡ true = each_of is_holder h t.holders (rw holders-same at known.holders-right) m in
        let p = position_of t in
        rw (is_open, right, agrees.positions, present-is p (λ x. refl) h t.holders, m, looked-up p (λ x. refl) h no_position t.holders m) refl

    -- nothing is settled after today
    pub none_ahead : (d : ℕ) → t.today < d → t.paid d ≡ none
    none_ahead d lt =
        agrees.settlements d
        ∙ none_after_today 0 (settlements_of b) b.today.0 d known.timely (omega (arith, agrees.today))

    -- nor on day 0, so every settlement has unit-days to divide by
    pub settled-weights : (d m : ℕ) → t.paid d ≡ some m → 0 < sum (map (weight t d) t.holders)
    settled-weights zero m e =
        let f : t.paid 0 ≡ none = agrees.settlements 0 ∙ none_yet 0 (settlements_of b) b.today.0 0 known.timely (omega arith) in
        cc
    settled-weights (suc d) m e = weights-some t (suc d) (omega arith) agrees.whole
