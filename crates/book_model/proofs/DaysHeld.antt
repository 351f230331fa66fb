-- Positions over days: holders, shares and receipts stay, and the unit-days grow by the shares.
use Rattle.std.proofs.Common.{ℕ, ◌+◌, ◌*◌, arith, add-mul, ◌≡◌, List, [], ◌∷◌, map}
use mathlib.Core.List.{map-map}
use Rattle.std.specs.List.{sum}
use Rattle.general_laws.proofs.Totals.{sum-cons}
use Rattle.book_model.specs.declared.Position.{Position}
use Rattle.book_model.specs.Positions.{holders, shares, unit_days_column, receipts}
use Rattle.book_model.specs.Closed.{days_held}

module _ (n : ℕ) where
  pub holders-days : (ps : List Position) → holders (map (days_held n) ps) ≡ holders ps
  holders-days = map-map (λ p. p.holder) (days_held n)

  pub shares-days : (ps : List Position) → shares (map (days_held n) ps) ≡ shares ps
  shares-days = map-map (λ p. p.share.0) (days_held n)

  pub receipts-days : (ps : List Position) → receipts (map (days_held n) ps) ≡ receipts ps
  receipts-days = map-map (λ p. p.received.0) (days_held n)

  pub unit_days_grown : (ps : List Position) → sum (unit_days_column (map (days_held n) ps)) ≡ sum (unit_days_column ps) + sum (shares ps) * n
  unit_days_grown [] = omega arith
  unit_days_grown (p ∷ ps) = simp (sum-cons, add-mul) (omega (arith, unit_days_grown ps))
