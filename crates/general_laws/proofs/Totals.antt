-- Sums of lists of numbers.
use Rattle.std.proofs.Common.{ℕ, zero, suc, ◌+◌, ◌≤◌, min, arith, ◌≡◌, refl, sym, ◌∙◌, List, [], ◌∷◌, map, length, get_or}
use Rattle.std.specs.List.{fold, sum}
use Rattle.std.proofs.lemmas.List.Folds.{fold_along}
use Rattle.std.proofs.lemmas.List.Sums.{sum_by-cons}
use Rattle.general_laws.specs.Sums.{sum_below}
use Rattle.general_laws.proofs.Sums.{sum-none, sum_first}

pub sum-cons : (n : ℕ) (ns : List ℕ) → sum (n ∷ ns) ≡ n + sum ns
sum-cons = sum_by-cons (λ n. n)

-- a sum that stops at a greatest number
pub fold_capped : (g : ℕ) (ns : List ℕ) → fold (λ s n. min (s + n) g) 0 ns ≡ min (sum ns) g
fold_capped g ns = fold_along (λ s n. min (s + n) g) (λ s n. s + n) (λ s t. s ≡ min t g) (λ s t n e. omega arith) 0 0 ns (omega arith)

-- no element adds more than the sum
pub total_most_of : {A : Type 0} (f : A → ℕ) (xs : List A) (k : ℕ) (d : A) → f d ≡ 0 → f (get_or xs k d) ≤ sum (map f xs)
total_most_of f [] k d e = omega arith
total_most_of f (x ∷ xs) zero d e = omega (arith, sum-cons)
total_most_of f (x ∷ xs) (suc k) d e = omega (arith, sum-cons, total_most_of f xs k d e)

-- Two functions of the elements
pub total_both : {A : Type 0} (xs : List A) (f g u v : A → ℕ) → ((x : A) → f x + u x ≡ g x + v x)
    → sum (map f xs) + sum (map u xs) ≡ sum (map g xs) + sum (map v xs)
total_both [] f g u v e = refl
total_both (x ∷ xs) f g u v e = omega (arith, sum-cons, e x, total_both xs f g u v e)

-- The sum over its places is that of the list
pub sum-total : (ns : List ℕ) → sum_below (length ns) (λ k. get_or ns k 0) ≡ sum ns
sum-total [] = sym (sum-none (λ k. get_or [] k 0))
sum-total (n ∷ ns) = sum_first (length ns) (λ k. get_or (n ∷ ns) k 0) ∙ omega (arith, sum-cons, sum-total ns)
