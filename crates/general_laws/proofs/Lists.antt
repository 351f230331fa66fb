-- The list of a function's values at the numbers below n.
use Rattle.std.proofs.Common.{ℕ, zero, suc, ◌<◌, arith, ◌≡◌, refl, sym, ◌∙◌, List, [], ◌∷◌, eqb, length, get_or, set, length-append, length-set, get_or-set_same, get_or-set_other, ext_get_or, eqb-true}
use Rattle.std.proofs.Math.ListN.{get_or-append}
use Rattle.std.proofs.lemmas.Bool.{eqb-false}
use Rattle.std.proofs.lemmas.List.{get_or_at}
use Rattle.general_laws.specs.Sums.{list_below}
use Rattle.general_laws.proofs.Choice.{by-test, by_order}

pub list_length : (n : ℕ) (f : ℕ → ℕ) → length (list_below n f) ≡ n
unfolding list_below
list_length zero f = refl
list_length (suc n) f = let ih = list_length n f in length-append (list_below n f) (f n ∷ []) ∙ omega arith

pub list_at : (n : ℕ) (f : ℕ → ℕ) (k : ℕ) → k < n → get_or (list_below n f) k 0 ≡ f k
unfolding list_below
list_at zero f k lt = absurd (omega arith)
list_at (suc n) f k lt =
    by_order k n
    (λ below. get_or-append (list_below n f) (f n ∷ []) 0 k (omega (arith, list_length n f)) ∙ list_at n f k below)
    (λ last. let is : k ≡ n = omega arith in rw is (get_or_at (list_below n f) (f n) [] 0 n (list_length n f)))

pub list_same : (n : ℕ) (f g : ℕ → ℕ) → ((k : ℕ) → k < n → f k ≡ g k) → list_below n f ≡ list_below n g
unfolding list_below
list_same zero f g h = refl
list_same (suc n) f g h = rw (list_same n f g (λ k lt. h k (omega arith)), h n (omega arith))

-- a list whose numbers are f's is f's list
pub list_of : (n : ℕ) (f : ℕ → ℕ) (l : List ℕ) → length l ≡ n → ((k : ℕ) → k < n → get_or l k 0 ≡ f k) → l ≡ list_below n f
list_of n f l e h =
    ext_get_or 0 l (list_below n f) (e ∙ sym (list_length n f))
    (λ k lt. let lt' : k < n = omega arith in h k lt' ∙ sym (list_at n f k lt'))

-- one number changed
pub list_set : (n : ℕ) (f g : ℕ → ℕ) (i x : ℕ) → i < n → x ≡ g i → ((k : ℕ) → k < n → (k ≡ i → ⊥) → f k ≡ g k)
    → set (list_below n f) i x ≡ list_below n g
list_set n f g i x lt e h =
    list_of n g (set (list_below n f) i x) (length-set (list_below n f) i x ∙ list_length n f) λ k lt'.
    by-test (eqb k i)
    (λ same. let is = eqb-true k i same in rw is (get_or-set_same (list_below n f) i x 0 (omega (arith, list_length n f)) ∙ e))
    (λ other.
    get_or-set_other (list_below n f) i k x 0 (eqb-false k i other)
    ∙ list_at n f k lt' ∙ h k lt' (eqb-false k i other))
