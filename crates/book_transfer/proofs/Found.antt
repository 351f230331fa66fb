-- What `find` tells of a holder in an open book, and the two positions that a transfer changes.
use Rattle.std.proofs.Common.{arith, refl, ℕ, ◌≡◌, ◌+◌, ◌≤◌, ◌<◌, sym, ap, ◌∙◌, true, Some, length, get_or, set, get_or-take, eqb, eqb-true}
use Rattle.std.proofs.lemmas.List.{get_or-set_other}
use Rattle.std.proofs.lemmas.List.Quantifiers.{position-Some}
use Rattle.book_model.specs.declared.Book.{Book}
use Rattle.book_model.specs.declared.Position.{Position}
use Rattle.book_model.specs.Book.{held}
use Rattle.book_model.specs.Invariant.{Sound}
use Rattle.book_model.specs.Outcome.{no_position}
use Rattle.book_model.specs.Positions.{found_in, less, place, present, share_of}
use Rattle.book_model.proofs.Callers.{Cedent, found_at, found_nothing, length-held, share-at, share-most}

-- a holder stands at a place
pub record Found (b : Book) (h i : ℕ) : Type 0 where
  pub there : present h (held b) ≡ true
  pub cedent : Cedent b h i
  pub holder : (get_or b.positions i no_position).holder ≡ h

pub found : {b : Book} → Sound b → b.opened ≡ true → (h i : ℕ) → Some i ≡ found_in (held b) h → Found b h i
found {b} sound is_open h i e =
    let f = found_at (held b) h i e in
    let most = (sound.when_open is_open).positions-most in
    let below : i < b.count = omega (arith, length-held b (omega (arith, most, sound.room-positions))) in
    let p = position-Some (λ (p : Position). eqb p.holder h) (held b) i no_position (sym e) in
    record {
      there = f.2;
      cedent = record { sound = sound; is_open = is_open; here = f.0; below = below };
      holder = ap (λ (p : Position). p.holder) (sym (get_or-take b.count b.positions i no_position below)) ∙ eqb-true _ _ p.1;
    }

module _ {b : Book} {c a i j : ℕ} (from : Found b c i) (to : Found b a j) (other : c ≡ a → ⊥) (n : ℕ) where
  abbrev at : ℕ → Position
  at k = get_or b.positions k no_position

  -- the assignee's position is as it was once the cedent's has changed
  pub to_kept : get_or (set b.positions i (less n (at i))) j no_position ≡ at j
  to_kept =
      get_or-set_other b.positions i j (less n (at i)) no_position
      (λ (e : j ≡ i). other (sym from.holder ∙ ap (λ (k : ℕ). (at k).holder) (sym e) ∙ to.holder))

  -- two shares of one book
  pub sum_most : n ≤ (at i).share.0 → (get_or (set b.positions i (less n (at i))) j no_position).share.0 + n ≤ 2000000
  sum_most enough = rw to_kept (omega (arith, share-most from.cedent i from.cedent.below, share-most to.cedent j to.cedent.below))

-- and the share there is the holder's
pub share_there : (b : Book) (h i : ℕ) → Sound b → b.opened ≡ true → Some i ≡ found_in (held b) h
    → (share_of h (held b) ≡ (get_or b.positions i no_position).share.0) × (present h (held b) ≡ true)
share_there b h i sound is_open e =
    let f = found sound is_open h i e in
    let within : place h (held b) < length (held b) = omega (arith, found_at (held b) h i e) in
    (rw (share-at h no_position (held b) within, ← f.cedent.here, get_or-take b.count b.positions i no_position f.cedent.below) refl, f.there)

pub ruleset lookups = (found_nothing, share_there)
