-- Positions that stand for a list of distinct holders: what the book's changes make of them.
use Rattle.std.proofs.Common.{ℕ, suc, ◌+◌, arith, add-zero, zero-add, ◌≡◌, refl, sym, ap, ap₂, ◌∙◌, Bool, true, false, cond, ◌||◌, List, [], ◌∷◌, map, eqb-true, eq-eqb, ne_eqb, lt-ltb, le-ltb, eqb, ltb, get_or, length}
use Rattle.std.proofs.lemmas.List.{length-map}
use Rattle.general_laws.specs.Members.{distinct, among}
use Rattle.std.proofs.lemmas.Bool.{or_parts, eqb-false}
use Rattle.general_laws.proofs.Choice.{by-test}
use Rattle.general_laws.proofs.Members.{member_other, first-apart, map_same}
use Rattle.book_model.specs.declared.Position.{Position}
use Rattle.book_model.specs.Book.{fresh}
use Rattle.book_model.specs.Open.{founded}
use Rattle.book_model.specs.Positions.{place, present, share_of, change, paid_position, paid_from, holders}
use Rattle.conservation.specs.Tally.{listed}
use Rattle.conservation.specs.Tally as tally
use Rattle.conservation.proofs.Members.{place-within, place_without}

-- positions are the same where their numbers are
abbrev pub position_with : ℕ → ℕ → ℕ → ℕ → Position
position_with h share days received =
    record { holder = h; share = record { 0 = share }; unit_days = days; received = record { 0 = received } }

pub position-same : (h : ℕ) {s s' u u' r r' : ℕ} → s ≡ s' → u ≡ u' → r ≡ r' → position_with h s u r ≡ position_with h s' u' r'
position-same h p q e = λ i. position_with h (p i) (q i) (e i)

-- p gives each holder's position
module _ (p : ℕ → Position) (own : (h : ℕ) → (p h).holder ≡ h) where
  pub holders_are : (hs : List ℕ) → holders (map p hs) ≡ hs
  holders_are [] = refl
  holders_are (h ∷ hs) = ap₂ (λ (x : ℕ) (l : List ℕ). x ∷ l) (own h) (holders_are hs)

  place_is : (x : ℕ) (hs : List ℕ) → place x (map p hs) ≡ tally.place x hs
  place_is x [] = refl
  place_is x (h ∷ hs) = rw (own h, place_is x hs)

  pub present-is : (x : ℕ) (hs : List ℕ) → present x (map p hs) ≡ among x hs
  present-is x hs = rw (place_is x hs, length-map hs p) (go (among x hs) refl)
    where
      go : (t : Bool) → among x hs ≡ t → ltb (tally.place x hs) (length hs) ≡ t
      go true m = lt-ltb (tally.place x hs) (length hs) (place-within x hs m)
      go false away = le-ltb (tally.place x hs) (length hs) (omega (arith, place_without x hs away))

  pub share-is : (x : ℕ) (hs : List ℕ) → among x hs ≡ true → share_of x (map p hs) ≡ (p x).share.0
  share-is x [] m = cc
  share-is x (h ∷ hs) m = rw (own h) (go (eqb h x) refl (share-is x hs) m)
    where
      go : (t : Bool) → eqb h x ≡ t → (among x hs ≡ true → share_of x (map p hs) ≡ (p x).share.0) → t || among x hs ≡ true
          → cond t (p h).share.0 (share_of x (map p hs)) ≡ (p x).share.0
      go true e ih q = ap (λ (k : ℕ). (p k).share.0) (eqb-true h x e)
      go false e ih q = ih q

  pub looked-up : (x : ℕ) (other : Position) (hs : List ℕ) → among x hs ≡ true → get_or (map p hs) (place x (map p hs)) other ≡ p x
  looked-up x other [] m = cc
  looked-up x other (h ∷ hs) m =
      ap (λ (k : ℕ). get_or (p h ∷ map p hs) (cond (eqb k x) 0 (suc (place x (map p hs)))) other) (own h)
      ∙ by-test (eqb h x) (λ e. rw e (ap p (eqb-true h x e))) (λ e. rw e (looked-up x other hs (rw e at m)))

  -- one holder's position changed
  module _ (x : ℕ) (f : Position → Position) where
    abbrev pub changed_at : ℕ → Position
    changed_at h = cond (eqb h x) (f (p h)) (p h)

    pub change-is : (hs : List ℕ) → distinct hs ≡ true → change x f (map p hs) ≡ map changed_at hs
    change-is [] d = refl
    change-is (h ∷ hs) d =
        ap (λ (k : ℕ). cond (eqb k x) (f (p h) ∷ map p hs) (p h ∷ change x f (map p hs))) (own h)
        ∙ go (eqb h x) refl (change-is hs (first-apart h hs d).1)
      where
        go : (t : Bool) → eqb h x ≡ t → change x f (map p hs) ≡ map changed_at hs
            → cond t (f (p h) ∷ map p hs) (p h ∷ change x f (map p hs)) ≡ cond t (f (p h)) (p h) ∷ map changed_at hs
        go true e ih =
            ap (λ (l : List Position). f (p h) ∷ l)
            (map_same hs p changed_at λ y m.
            rw (ne_eqb y x (λ q. eqb-false h y (member_other y h hs (first-apart h hs d).0 m) (eqb-true h x e ∙ sym q))))
        go false e ih = ap (λ (l : List Position). p h ∷ l) ih

  -- each paid what its place gets, places counted from k
  paid-from : (f : ℕ → ℕ) (k : ℕ) (hs : List ℕ) → distinct hs ≡ true
      → paid_from f k (map p hs) ≡ map (λ h. paid_position (f (k + tally.place h hs)) (p h)) hs
  paid-from f k [] d = refl
  paid-from f k (x ∷ hs) d =
      let here : k + tally.place x (x ∷ hs) ≡ k = rw (eq-eqb x x refl) (add-zero k) in
      let rest : paid_from f (suc k) (map p hs) ≡ map (λ h. paid_position (f (k + tally.place h (x ∷ hs))) (p h)) hs =
      paid-from f (suc k) hs (first-apart x hs d).1
      ∙ map_same hs (λ h. paid_position (f (suc k + tally.place h hs)) (p h)) (λ h. paid_position (f (k + tally.place h (x ∷ hs))) (p h))
      (λ y m. rw (member_other y x hs (first-apart x hs d).0 m) (ap (λ (i : ℕ). paid_position (f i) (p y)) (omega arith))) in
      rw (here, rest)

  pub paid-is : (f : ℕ → ℕ) (hs : List ℕ) → distinct hs ≡ true → paid_from f 0 (map p hs) ≡ map (λ h. paid_position (f (tally.place h hs)) (p h)) hs
  paid-is f hs d = simp zero-add at (paid-from f 0 hs d)

-- The positions of an opening

pub founded-is : (hs ss : List ℕ) → length hs ≡ length ss → distinct hs ≡ true → founded hs ss ≡ map (λ h. fresh h (listed hs ss h)) hs
founded-is [] ss e d = refl
founded-is (x ∷ hs) [] e d = absurd (omega arith)
founded-is (x ∷ hs) (s ∷ ss) e d =
    let here : listed (x ∷ hs) (s ∷ ss) x ≡ s = rw (eq-eqb x x refl) in
    let rest : founded hs ss ≡ map (λ h. fresh h (listed (x ∷ hs) (s ∷ ss) h)) hs =
    founded-is hs ss (omega arith) (first-apart x hs d).1
    ∙ map_same hs (λ h. fresh h (listed hs ss h)) (λ h. fresh h (listed (x ∷ hs) (s ∷ ss) h))
    (λ y m. rw (member_other y x hs (first-apart x hs d).0 m)) in
    rw (here, rest)

-- who is not listed has no share
pub listed-none : (hs ss : List ℕ) (h : ℕ) → among h hs ≡ false → listed hs ss h ≡ 0
listed-none [] ss h away = refl
listed-none (x ∷ hs) [] h away = refl
listed-none (x ∷ hs) (s ∷ ss) h away =
    let n = or_parts (eqb x h) (among h hs) away in rw n.0 (listed-none hs ss h n.1)
