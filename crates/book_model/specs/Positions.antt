-- Positions in book order: looked up and changed by holder, aged by days, paid by parts.
use Rattle.std.specs.Prelude.{ℕ, suc, ◌+◌, ◌-◌, Option, position, Bool, cond, not, ◌&&◌, List, [], ◌∷◌, ◌++◌, map, leb, ltb, eqb, length}
use Rattle.book_model.specs.declared.Position.{Position}
use Rattle.book_model.specs.Book.{fresh}

-- a holder's number: not "0 or over 999,999,999"
abbrev pub is_holder : ℕ → Bool
is_holder n = not (eqb n 0) && leb n 999999999

-- how many positions stand before the holder's; all of them where it has none
abbrev pub place : ℕ → List Position → ℕ
place h [] = 0
place h (p ∷ ps) = cond (eqb p.holder h) 0 (suc (place h ps))

abbrev pub present : ℕ → List Position → Bool
present h ps = ltb (place h ps) (length ps)

abbrev pub found_in : List Position → ℕ → Option ℕ
found_in ps h = position (λ (p : Position). eqb p.holder h) ps

-- the holder's share; 0 where it has no position
abbrev pub share_of : ℕ → List Position → ℕ
share_of h [] = 0
share_of h (p ∷ ps) = cond (eqb p.holder h) p.share.0 (share_of h ps)

abbrev pub with_share : Position → ℕ → Position
with_share p s = record { holder = p.holder; share = record { 0 = s }; unit_days = p.unit_days; received = p.received }

abbrev pub less : ℕ → Position → Position
less n p = with_share p (p.share.0 - n)

abbrev pub more : ℕ → Position → Position
more n p = with_share p (p.share.0 + n)

-- the holder's position changed by f, the others as they were
abbrev pub change : ℕ → (Position → Position) → List Position → List Position
change h f [] = []
change h f (p ∷ ps) = cond (eqb p.holder h) (f p ∷ ps) (p ∷ change h f ps)

-- n parts more for a holder. "An assignee not yet present is added last."
abbrev pub given : ℕ → ℕ → List Position → List Position
given h n ps = cond (present h ps) (change h (more n) ps) (ps ++ (fresh h n ∷ []))

-- "every position gains its share in unit-days", for one day
abbrev pub day_held : Position → Position
day_held p =
    record { holder = p.holder; share = p.share; unit_days = p.unit_days + p.share.0; received = p.received }

-- a position that is paid so many cents. "Unit-days become 0."
abbrev pub paid_position : ℕ → Position → Position
paid_position cents p =
    record { holder = p.holder; share = p.share; unit_days = 0; received = record { 0 = p.received.0 + cents } }

-- each position paid what its place gets, places counted from k
abbrev pub paid_from : (ℕ → ℕ) → ℕ → List Position → List Position
paid_from part k [] = []
paid_from part k (p ∷ ps) = paid_position (part k) p ∷ paid_from part (suc k) ps

abbrev pub unit_days_column : List Position → List ℕ
unit_days_column ps = map (λ (p : Position). p.unit_days) ps

abbrev pub shares : List Position → List ℕ
shares ps = map (λ (p : Position). p.share.0) ps

abbrev pub receipts : List Position → List ℕ
receipts ps = map (λ (p : Position). p.received.0) ps

abbrev pub holders : List Position → List ℕ
holders ps = map (λ (p : Position). p.holder) ps
