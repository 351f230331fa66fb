-- One holder's position changed: the list's length, places and figures, and the store that makes the change.
use Rattle.std.proofs.Common.{ℕ, suc, ◌<◌, arith, ◌≡◌, refl, ap, Bool, true, false, cond, List, [], ◌∷◌, map, eqb, length, get_or, set}
use Rattle.book_model.specs.declared.Position.{Position}
use Rattle.book_model.specs.Positions.{place, present, change}

module _ (h : ℕ) (f : Position → Position) where
  -- a change is a store at the holder's place
  pub change-at : (ps : List Position) (d : Position) → place h ps < length ps → change h f ps ≡ set ps (place h ps) (f (get_or ps (place h ps) d))
  change-at [] d lt = absurd (omega arith)
  change-at (p ∷ ps) d lt = go (eqb p.holder h) (change-at ps d) lt
    where
      go : (t : Bool) → (place h ps < length ps → change h f ps ≡ set ps (place h ps) (f (get_or ps (place h ps) d)))
          → cond t 0 (suc (place h ps)) < suc (length ps)
          → cond t (f p ∷ ps) (p ∷ change h f ps) ≡ set (p ∷ ps) (cond t 0 (suc (place h ps))) (f (get_or (p ∷ ps) (cond t 0 (suc (place h ps))) d))
      go true ih q = refl
      go false ih q = ap (λ (l : List Position). p ∷ l) (ih (omega arith))

  pub length-change : (ps : List Position) → length (change h f ps) ≡ length ps
  length-change [] = refl
  length-change (p ∷ ps) = go (eqb p.holder h) (length-change ps)
    where
      go : (t : Bool) → length (change h f ps) ≡ length ps → length (cond t (f p ∷ ps) (p ∷ change h f ps)) ≡ suc (length ps)
      go true ih = refl
      go false ih = ap suc ih

  -- a figure that the change leaves alone
  pub map-change : {B : Type 0} (g : Position → B) → ((p : Position) → g (f p) ≡ g p) → (ps : List Position) → map g (change h f ps) ≡ map g ps
  map-change g keeps [] = refl
  map-change {B} g keeps (p ∷ ps) = go (eqb p.holder h) (map-change g keeps ps)
    where
      go : (t : Bool) → map g (change h f ps) ≡ map g ps → map g (cond t (f p ∷ ps) (p ∷ change h f ps)) ≡ g p ∷ map g ps
      go true ih = ap (λ (x : B). x ∷ map g ps) (keeps p)
      go false ih = ap (λ (l : List B). g p ∷ l) ih

  module _ (keeps : (p : Position) → (f p).holder ≡ p.holder) (a : ℕ) where
    pub place-change : (ps : List Position) → place a (change h f ps) ≡ place a ps
    place-change [] = refl
    place-change (p ∷ ps) = go (eqb p.holder h) (place-change ps)
      where
        go : (t : Bool) → place a (change h f ps) ≡ place a ps → place a (cond t (f p ∷ ps) (p ∷ change h f ps)) ≡ place a (p ∷ ps)
        go true ih = rw (keeps p)
        go false ih = rw ih

    pub present-change : (ps : List Position) → present a (change h f ps) ≡ present a ps
    present-change ps = rw (place-change ps, length-change ps)
