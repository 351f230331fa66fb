-- Lists of holders in order of appearance: at which place each stands, and one who is added last.
use Rattle.std.proofs.Common.{ℕ, suc, ◌<◌, arith, ◌≡◌, refl, ap, Bool, true, false, cond, ◌||◌, List, [], ◌∷◌, ◌++◌, map, eqb-true, eq-eqb, eqb, length}
use Rattle.std.proofs.lemmas.List.{map-append}
use Rattle.general_laws.specs.Members.{distinct, among}
use Rattle.std.specs.List.{sum, list_all}
use Rattle.std.proofs.lemmas.Bool.{and_parts, or_parts}
use Rattle.general_laws.proofs.Choice.{by-test, choice}
use Rattle.general_laws.proofs.Members.{among-joined, distinct-last}
use Rattle.std.proofs.lemmas.List.Sums.{sum_by_push}
use Rattle.conservation.specs.Tally.{with_holder, place}

-- Places

pub place-within : (x : ℕ) (hs : List ℕ) → among x hs ≡ true → place x hs < length hs
place-within x [] m = cc
place-within x (y ∷ hs) m = go (eqb y x) (place-within x hs) m
  where
    go : (t : Bool) → (among x hs ≡ true → place x hs < length hs) → t || among x hs ≡ true → cond t 0 (suc (place x hs)) < suc (length hs)
    go true ih q = omega arith
    go false ih q = let h = ih q in omega arith

pub place_without : (x : ℕ) (hs : List ℕ) → among x hs ≡ false → place x hs ≡ length hs
place_without x [] away = refl
place_without x (y ∷ hs) away = let n = or_parts (eqb y x) (among x hs) away in rw (n.0, place_without x hs n.1)

-- what holds of all of them holds of each
pub each_of : (f : ℕ → Bool) (x : ℕ) (hs : List ℕ) → list_all f hs ≡ true → among x hs ≡ true → f x ≡ true
each_of f x [] all m = cc
each_of f x (y ∷ hs) all m =
    let h = and_parts (f y) (list_all f hs) all in
    by-test (eqb y x) (λ e. rw (eqb-true y x e) at h.0) (λ e. each_of f x hs h.1 (rw e at m))

-- One who comes last

module _ (a : ℕ) where
  -- moves nobody
  pub place_kept : (x : ℕ) (hs : List ℕ) → among x hs ≡ true → place x (hs ++ (a ∷ [])) ≡ place x hs
  place_kept x [] m = cc
  place_kept x (y ∷ hs) m = go (eqb y x) (place_kept x hs) m
    where
      go : (t : Bool) → (among x hs ≡ true → place x (hs ++ (a ∷ [])) ≡ place x hs) → t || among x hs ≡ true
          → cond t 0 (suc (place x (hs ++ (a ∷ [])))) ≡ cond t 0 (suc (place x hs))
      go true ih q = refl
      go false ih q = ap suc (ih q)

  pub place-last : (hs : List ℕ) → among a hs ≡ false → place a (hs ++ (a ∷ [])) ≡ length hs
  place-last [] new = rw (eq-eqb a a refl)
  place-last (y ∷ hs) new = let n = or_parts (eqb y a) (among a hs) new in rw (n.0, place-last hs n.1)

  module _ (hs : List ℕ) where
    -- is added where it is new
    pub added : (P : List ℕ → Type 0) → (among a hs ≡ true → P hs) → (among a hs ≡ false → P (hs ++ (a ∷ []))) → P (with_holder a hs)
    added P here new = choice P (among a hs) here new

    pub still_among : (x : ℕ) → among x hs ≡ true → among x (with_holder a hs) ≡ true
    still_among x m = added (λ l. among x l ≡ true) (λ _. m) (λ _. rw (among-joined a x hs, m))

    pub added-among : among a (with_holder a hs) ≡ true
    added-among = added (λ l. among a l ≡ true) (λ m. m) (λ new. rw (among-joined a a hs, new) (eq-eqb a a refl))

    pub away-before : (x : ℕ) → among x (with_holder a hs) ≡ false → among x hs ≡ false
    away-before x =
        added (λ l. among x l ≡ false → among x hs ≡ false) (λ _ e. e)
        (λ _ e. (or_parts (among x hs) (eqb a x) (rw (among-joined a x hs) at e)).0)

    pub added-distinct : distinct hs ≡ true → distinct (with_holder a hs) ≡ true
    added-distinct d = added (λ l. distinct l ≡ true) (λ _. d) (distinct-last hs a d)

    -- with nothing, it adds nothing
    pub added-total : (f : ℕ → ℕ) → (among a hs ≡ false → f a ≡ 0) → sum (map f (with_holder a hs)) ≡ sum (map f hs)
    added-total f none =
        added (λ l. sum (map f l) ≡ sum (map f hs)) (λ _. refl)
        (λ new. rw map-append (omega (arith, sum_by_push (λ (n : ℕ). n) (map f hs) (f a), none new)))
