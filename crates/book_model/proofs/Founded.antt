-- The positions of an opening: one for each holder, in order, with its share and nothing else yet.
use Rattle.std.proofs.Common.{ℕ, zero, suc, ◌<◌, arith, ◌≡◌, refl, ap, List, [], ◌∷◌, length, get_or}
use Rattle.std.specs.List.{sum}
use Rattle.general_laws.proofs.Totals.{sum-cons}
use Rattle.book_model.specs.Book.{fresh}
use Rattle.book_model.specs.Open.{founded}
use Rattle.book_model.specs.Positions.{holders, shares, unit_days_column, receipts}

pub length-founded : (hs ss : List ℕ) → length hs ≡ length ss → length (founded hs ss) ≡ length hs
length-founded [] ss e = refl
length-founded (h ∷ hs) [] e = absurd (omega arith)
length-founded (h ∷ hs) (s ∷ ss) e = ap suc (length-founded hs ss (omega arith))

pub founded-at : (hs ss : List ℕ) (i : ℕ) → i < length hs → length hs ≡ length ss
    → get_or (founded hs ss) i (fresh 0 0) ≡ fresh (get_or hs i 0) (get_or ss i 0)
founded-at [] ss i lt e = absurd (omega arith)
founded-at (h ∷ hs) [] i lt e = absurd (omega arith)
founded-at (h ∷ hs) (s ∷ ss) zero lt e = refl
founded-at (h ∷ hs) (s ∷ ss) (suc i) lt e = founded-at hs ss i (omega arith) (omega arith)

pub founded-holders : (hs ss : List ℕ) → length hs ≡ length ss → holders (founded hs ss) ≡ hs
founded-holders [] ss e = refl
founded-holders (h ∷ hs) [] e = absurd (omega arith)
founded-holders (h ∷ hs) (s ∷ ss) e = ap (λ (l : List ℕ). h ∷ l) (founded-holders hs ss (omega arith))

pub founded-shares : (hs ss : List ℕ) → length hs ≡ length ss → shares (founded hs ss) ≡ ss
founded-shares [] [] e = refl
founded-shares [] (s ∷ ss) e = absurd (omega arith)
founded-shares (h ∷ hs) [] e = absurd (omega arith)
founded-shares (h ∷ hs) (s ∷ ss) e = ap (λ (l : List ℕ). s ∷ l) (founded-shares hs ss (omega arith))

pub founded_unit_days : (hs ss : List ℕ) → sum (unit_days_column (founded hs ss)) ≡ 0
founded_unit_days [] ss = refl
founded_unit_days (h ∷ hs) [] = refl
founded_unit_days (h ∷ hs) (s ∷ ss) = omega (arith, sum-cons, founded_unit_days hs ss)

pub founded-receipts : (hs ss : List ℕ) → sum (receipts (founded hs ss)) ≡ 0
founded-receipts [] ss = refl
founded-receipts (h ∷ hs) [] = refl
founded-receipts (h ∷ hs) (s ∷ ss) = omega (arith, sum-cons, founded-receipts hs ss)
