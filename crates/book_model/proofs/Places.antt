-- Where a holder stands among positions, and what a search for it found.
use Rattle.std.proofs.Common.{ℕ, suc, ◌<◌, arith, ◌≡◌, refl, ap, ◌∙◌, Bool, true, false, cond, List, [], ◌∷◌, eqb-true, ltb-true, eqb, length, get_or}
use Rattle.book_model.specs.declared.Position.{Position}
use Rattle.std.specs.Prelude.{Some, None}
use Rattle.std.specs.List.{position_or_len}
use Rattle.std.proofs.lemmas.List.Recursion.{is_position_or_len}
use Rattle.book_model.specs.Positions.{place, present, share_of, found_in}

-- std's search for the first position of a holder finds it at its place
pub place_first : (ps : List Position) (h : ℕ) → place h ps ≡ position_or_len (λ (p : Position). eqb p.holder h) ps
place_first ps h = is_position_or_len (place h) (λ (p : Position). eqb p.holder h) refl
    (λ (x : Position) (xs : List Position). ap (λ (n : ℕ). cond (eqb x.holder h) 0 n) (omega arith)) ps

found_first : (ps : List Position) (h : ℕ) → found_in ps h ≡ cond (present h ps) (Some (place h ps)) None
found_first ps h = rw (place_first ps h) refl

module _ (ps : List Position) (h : ℕ) where
  -- What it found

  pub found_at : (i : ℕ) → Some i ≡ found_in ps h → (i ≡ place h ps) × (i < length ps) × (present h ps ≡ true)
  found_at i e = go (present h ps) refl (e ∙ found_first ps h)
    where
      go : (t : Bool) → present h ps ≡ t → Some i ≡ cond t (Some (place h ps)) None → (i ≡ place h ps) × (i < length ps) × (present h ps ≡ true)
      go true p q = let same : i ≡ place h ps = cc in (same, omega (arith, ltb-true (place h ps) (length ps) p), p)
      go false p q = cc

  pub found_nothing : None ≡ found_in ps h → present h ps ≡ false
  found_nothing e = go (present h ps) (e ∙ found_first ps h)
    where
      go : (t : Bool) → None ≡ cond t (Some (place h ps)) None → t ≡ false
      go true q = cc
      go false q = refl

-- What stands at a holder's place

module _ (h : ℕ) (d : Position) where
  pub share-at : (ps : List Position) → place h ps < length ps → share_of h ps ≡ (get_or ps (place h ps) d).share.0
  share-at [] lt = absurd (omega arith)
  share-at (p ∷ ps) lt = go (eqb p.holder h) (share-at ps) lt
    where
      go : (t : Bool) → (place h ps < length ps → share_of h ps ≡ (get_or ps (place h ps) d).share.0) → cond t 0 (suc (place h ps)) < suc (length ps)
          → cond t p.share.0 (share_of h ps) ≡ (get_or (p ∷ ps) (cond t 0 (suc (place h ps))) d).share.0
      go true ih q = refl
      go false ih q = ih (omega arith)

  pub holder-at : (ps : List Position) → place h ps < length ps → (get_or ps (place h ps) d).holder ≡ h
  holder-at [] lt = absurd (omega arith)
  holder-at (p ∷ ps) lt = go (eqb p.holder h) refl (holder-at ps) lt
    where
      go : (t : Bool) → eqb p.holder h ≡ t → (place h ps < length ps → (get_or ps (place h ps) d).holder ≡ h)
          → cond t 0 (suc (place h ps)) < suc (length ps) → (get_or (p ∷ ps) (cond t 0 (suc (place h ps))) d).holder ≡ h
      go true e ih q = eqb-true _ _ e
      go false e ih q = ih (omega arith)
