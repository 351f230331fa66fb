-- A test that is computed once, at every number below a bound or at every entry of a list, and lifted to each of them.
use Rattle.std.proofs.Common.{◌≡◌, sym, subst, ◌∙◌, ⊎_elim, Bool, true, ◌&&◌, List, [], ◌∷◌, ℕ, zero, suc, ◌+◌, ◌<◌, add-zero, zero-add, add-suc, suc-add, eq-or-lt_of_le, le_of_suc-le-suc, not-suc-le-zero, T, length, get_or, take, drop}
use Rattle.std.proofs.Math.Bool.{and-eq-true_iff}
use lib.Ieee.Fits.{and_i, and_l, and_r}

-- Numbers below a bound

abbrev pub every_below : ℕ → (ℕ → Bool) → Bool
every_below zero f = true
every_below (suc n) f = f n && every_below n f

pub at_each : (n : ℕ) (f : ℕ → Bool) → every_below n f ≡ true → (k : ℕ) → k < n → f k ≡ true
at_each zero f e k h = absurd (not-suc-le-zero h)
at_each (suc n) f e k h =
    let both = (and-eq-true_iff (f n) (every_below n f)).0 e in
    ⊎_elim
    (λ q. subst (λ (i : ℕ). f i ≡ true) (sym q) both.0)
    (λ l. at_each n f both.1 k l)
    (eq-or-lt_of_le (le_of_suc-le-suc h))

-- Entries of a list

-- the test passes at each entry of the list and its place, counted from i
abbrev pub every : (ℕ → ℕ → Bool) → ℕ → List ℕ → Bool
every f i [] = true
every f i (x ∷ xs) = f i x && every f (suc i) xs

at_from : (f : ℕ → ℕ → Bool) (xs : List ℕ) (i : ℕ) → T (every f i xs) → (k : ℕ) → k < length xs → T (f (i + k) (get_or xs k 0))
at_from f [] i t k h = absurd (not-suc-le-zero h)
at_from f (x ∷ xs) i t zero h = subst (λ (m : ℕ). T (f m x)) (sym (add-zero i)) (and_l (f i x) (every f (suc i) xs) t)
at_from f (x ∷ xs) i t (suc k) h =
    subst (λ (m : ℕ). T (f m (get_or xs k 0))) (suc-add i k ∙ sym (add-suc i k))
    (at_from f xs (suc i) (and_r (f i x) (every f (suc i) xs) t) k (le_of_suc-le-suc h))

pub at_entry : (f : ℕ → ℕ → Bool) (xs : List ℕ) → T (every f 0 xs) → (k : ℕ) → k < length xs → T (f k (get_or xs k 0))
at_entry f xs t k h = subst (λ (m : ℕ). T (f m (get_or xs k 0))) (zero-add k) (at_from f xs 0 t k h)

-- the test of a list from the tests of its first n entries and of the rest: a long test is computed in parts
pub every-joined : (f : ℕ → ℕ → Bool) (n : ℕ) (xs : List ℕ) (i : ℕ) → T (every f i (take n xs)) → T (every f (n + i) (drop n xs)) → T (every f i xs)
every-joined f zero xs i t u = subst (λ (m : ℕ). T (every f m xs)) (zero-add i) u
every-joined f (suc n) [] i t u = tt
every-joined f (suc n) (x ∷ xs) i t u =
    and_i (f i x) (every f (suc i) xs) (and_l (f i x) (every f (suc i) (take n xs)) t)
    (every-joined f n xs (suc i) (and_r (f i x) (every f (suc i) (take n xs)) t)
    (subst (λ (m : ℕ). T (every f m (drop n xs))) (suc-add n i ∙ sym (add-suc n i)) u))
