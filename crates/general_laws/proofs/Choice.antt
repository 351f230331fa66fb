-- Proofs by cases of a test or of an order, and what several tests together say.
use Rattle.std.proofs.Common.{ℕ, ◌<◌, ◌≤◌, ◌≡◌, refl, sym, ⊎_elim, Bool, true, false, cond, ◌&&◌, ltb}
use Rattle.std.proofs.lemmas.Bool.{ltb-true, lt-ltb, cases_Bool, cases_lt, cond_both, and_parts}

-- By cases

pub by-test : {A : Type 0} (t : Bool) → (t ≡ true → A) → (t ≡ false → A) → A
by-test t f g = ⊎_elim f g (cases_Bool t)

pub by_order : {A : Type 0} (a b : ℕ) → (a < b → A) → (b ≤ a → A) → A
by_order a b f g = ⊎_elim f g (cases_lt a b)

-- what holds of both values holds of the one that a test picks
pub choice : {A : Type 0} (P : A → Type 0) (t : Bool) {a b : A} → (t ≡ true → P a) → (t ≡ false → P b) → P (cond t a b)
choice P t {a} {b} = cond_both t a b P

-- Four tests, and five

abbrev pub FourTrue : Bool → Bool → Bool → Bool → Type 0
FourTrue q r s t = (q ≡ true) × (r ≡ true) × (s ≡ true) × (t ≡ true)

pub four_true : (q r s t : Bool) → q && (r && (s && t)) ≡ true → FourTrue q r s t
four_true q r s t e =
    let first = and_parts q (r && (s && t)) e in
    let second = and_parts r (s && t) first.1 in
    let third = and_parts s t second.1 in
    (first.0, second.0, third.0, third.1)

abbrev pub FiveTrue : Bool → Bool → Bool → Bool → Bool → Type 0
FiveTrue q r s t u = (q ≡ true) × (r ≡ true) × (s ≡ true) × (t ≡ true) × (u ≡ true)

pub five_true : (q r s t u : Bool) → q && (r && (s && (t && u))) ≡ true → FiveTrue q r s t u
five_true q r s t u e =
    let first = and_parts q (r && (s && (t && u))) e in
    let rest = four_true r s t u first.1 in
    (first.0, rest.0, rest.1, rest.2, rest.3)

-- Tests that imply each other are equal

pub test_same : (s t : Bool) → (s ≡ true → t ≡ true) → (t ≡ true → s ≡ true) → s ≡ t
test_same s true f g = g refl
test_same true false f g = sym (f refl)
test_same false false f g = refl

pub ltb_same : (a b c d : ℕ) → (a < b → c < d) → (c < d → a < b) → ltb a b ≡ ltb c d
ltb_same a b c d f g =
    test_same (ltb a b) (ltb c d) (λ e. lt-ltb c d (f (ltb-true a b e))) (λ e. lt-ltb a b (g (ltb-true c d e)))
