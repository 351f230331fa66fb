-- Lists of numbers: who stands in them, one more at the end, and totals of distinct ones.
use Rattle.std.proofs.Common.{ℕ, ◌+◌, arith, ◌≡◌, refl, sym, ap, ap₂, ◌∙◌, Bool, true, false, cond, not, ◌||◌, List, [], ◌∷◌, ◌++◌, map, eqb-true, eq-eqb, ne_eqb, eqb}
use Rattle.std.proofs.Math.Bool.{or-true, or-false}
use Rattle.std.specs.List.{sum}
use Rattle.std.proofs.lemmas.List.Folds.{list_any-append}
use Rattle.general_laws.specs.Members.{among, distinct}
use Rattle.std.proofs.lemmas.Bool.{and_parts, or_parts, eqb-false, not-true}
use Rattle.general_laws.proofs.Totals.{sum-cons}

-- Members

-- a member is none that is not one
pub member_other : (x y : ℕ) (ns : List ℕ) → among y ns ≡ false → among x ns ≡ true → eqb y x ≡ false
member_other x y ns away here =
    ne_eqb y x (λ e. cc (ap (λ (k : ℕ). among k ns) e))

-- functions that agree on the members
pub map_same : {A : Type 0} (ns : List ℕ) (f g : ℕ → A) → ((n : ℕ) → among n ns ≡ true → f n ≡ g n) → map f ns ≡ map g ns
map_same [] f g e = refl
map_same {A} (x ∷ ns) f g e =
    ap₂ (λ (y : A) (ys : List A). y ∷ ys) (e x (rw (eq-eqb x x refl)))
    (map_same ns f g (λ n m. e n (ap (λ (t : Bool). eqb x n || t) m ∙ or-true (eqb x n))))

-- of distinct ones, the first is not among the others, and these are distinct
pub first-apart : (x : ℕ) (ns : List ℕ) → distinct (x ∷ ns) ≡ true → (among x ns ≡ false) × (distinct ns ≡ true)
first-apart x ns d = let h = and_parts (not (among x ns)) (distinct ns) d in (not-true (among x ns) h.0, h.1)

-- One number more, at the end

pub among-joined : (a x : ℕ) (ns : List ℕ) → among x (ns ++ (a ∷ [])) ≡ among x ns || eqb a x
among-joined a x ns = list_any-append (λ m. eqb m x) ns (a ∷ []) ∙ ap (λ (t : Bool). among x ns || t) (or-false (eqb a x))

pub distinct-last : (ns : List ℕ) (n : ℕ) → distinct ns ≡ true → among n ns ≡ false → distinct (ns ++ (n ∷ [])) ≡ true
distinct-last [] n e f = refl
distinct-last (m ∷ ns) n e f =
    let h = first-apart m ns e in
    let g = or_parts (eqb m n) (among n ns) f in
    let other : eqb n m ≡ false = ne_eqb n m (λ q. eqb-false m n g.0 (sym q)) in
    rw (among-joined n m ns, h.0, other) (distinct-last ns n h.1 g.1)

-- A number at one member alone

module _ (x n : ℕ) where
  abbrev pub only_at : ℕ → ℕ
  only_at h = cond (eqb h x) n 0

  total_nowhere : (ns : List ℕ) → among x ns ≡ false → sum (map only_at ns) ≡ 0
  total_nowhere [] e = refl
  total_nowhere (y ∷ ns) e = let m = or_parts (eqb y x) (among x ns) e in rw (sum-cons, m.0, total_nowhere ns m.1)

  pub total-at : (ns : List ℕ) → distinct ns ≡ true → among x ns ≡ true → sum (map only_at ns) ≡ n
  total-at [] d m = cc
  total-at (y ∷ ns) d m = rw sum-cons (go (eqb y x) refl (total-at ns (first-apart y ns d).1) m)
    where
      go : (t : Bool) → eqb y x ≡ t → (among x ns ≡ true → sum (map only_at ns) ≡ n) → t || among x ns ≡ true
          → cond t n 0 + sum (map only_at ns) ≡ n
      go true e ih q =
          let away : among x ns ≡ false = ap (λ (k : ℕ). among k ns) (sym (eqb-true y x e)) ∙ (first-apart y ns d).0 in
          omega (arith, total_nowhere ns away)
      go false e ih q = omega (arith, ih q)
