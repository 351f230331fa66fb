-- A day's settlement off the stored list: none after the last, and one settlement more.
use Rattle.std.proofs.Common.{ℕ, ◌≤◌, ◌<◌, arith, ◌≡◌, refl, sym, ap, ◌∙◌, cond, List, [], ◌∷◌, ◌++◌, eqb-true, eq-eqb, ne_eqb, eqb}
use Rattle.std.proofs.Math.Option.{Option, none, some}
use Rattle.std.proofs.lemmas.Bool.{eqb-false}
use Rattle.general_laws.proofs.Choice.{by-test}
use Rattle.account.specs.declared.Settlement.{Settlement}
use Rattle.account.specs.Invariant.{Timely}
use Rattle.account.specs.Schedule.{last_day}
use Rattle.account.specs.Standing.{settled_on}
use Rattle.account.proofs.Timeline.{last_within}

-- Settlements that follow one another

pub last_least : (from : ℕ) (ss : List Settlement) (today : ℕ) → Timely from ss today → from ≤ last_day from ss
unfolding last_day
last_least from [] today h = omega arith
last_least from (s ∷ ss) today h = omega (arith, h.0, last_least s.day.0 ss today h.1)

pub none_after_last : (from : ℕ) (ss : List Settlement) (today t : ℕ) → Timely from ss today → last_day from ss < t → settled_on ss t ≡ none
unfolding settled_on last_day
none_after_last from [] today t h lt = refl
none_after_last from (s ∷ ss) today t h lt =
    let least = last_least s.day.0 ss today h.1 in
    rw (ne_eqb s.day.0 t (λ e. omega arith)) (none_after_last s.day.0 ss today t h.1 lt)

pub none_after_today : (from : ℕ) (ss : List Settlement) (today t : ℕ) → Timely from ss today → today < t → settled_on ss t ≡ none
none_after_today from ss today t h lt =
    let within = last_within from ss today h in none_after_last from ss today t h (omega arith)

-- none on a day up to which there is none
pub none_yet : (from : ℕ) (ss : List Settlement) (today t : ℕ) → Timely from ss today → t ≤ from → settled_on ss t ≡ none
unfolding settled_on
none_yet from [] today t h le = refl
none_yet from (s ∷ ss) today t h le =
    rw (ne_eqb s.day.0 t (λ e. omega (arith, h.0, e))) (none_yet s.day.0 ss today t h.1 (omega (arith, h.0)))

-- Settlements, and then more settlements

pub settled-first : (ss more : List Settlement) (t : ℕ) → settled_on more t ≡ none → settled_on (ss ++ more) t ≡ settled_on ss t
unfolding settled_on
settled-first [] more t h = h
settled-first (s ∷ ss) more t h =
    ap (λ (p : Option ℕ). cond (eqb s.day.0 t) (some s.cents.0) p) (settled-first ss more t h)

pub settled_then : (ss more : List Settlement) (t : ℕ) → settled_on ss t ≡ none → settled_on (ss ++ more) t ≡ settled_on more t
unfolding settled_on
settled_then [] more t h = refl
settled_then (s ∷ ss) more t h = grind (arith, settled_then ss more t)

-- One settlement more

module _ (ss : List Settlement) (s : Settlement) where
  -- on other days it changes nothing
  pub settled-other : (t : ℕ) → (s.day.0 ≡ t → ⊥) → settled_on (ss ++ (s ∷ [])) t ≡ settled_on ss t
  unfolding settled_on
  settled-other t other = settled-first ss (s ∷ []) t (rw (ne_eqb s.day.0 t other))

  module _ (none-there : settled_on ss s.day.0 ≡ none) where
    pub settled-there : settled_on (ss ++ (s ∷ [])) s.day.0 ≡ some s.cents.0
    unfolding settled_on
    settled-there = settled_then ss (s ∷ []) s.day.0 none-there ∙ rw (eq-eqb s.day.0 s.day.0 refl)

    -- as the tally puts it down
    pub settled-joined : (t : ℕ) → settled_on (ss ++ (s ∷ [])) t ≡ cond (eqb t s.day.0) (some s.cents.0) (settled_on ss t)
    settled-joined t =
        by-test (eqb t s.day.0)
        (λ e. rw (e, eqb-true t s.day.0 e) settled-there)
        (λ e. rw e (settled-other t (λ same. eqb-false t s.day.0 e (sym same))))
