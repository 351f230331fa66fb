-- A number cut to the greatest at each digit is the number cut at the end.
use Rattle.std.proofs.Common.{arith, ◌≡◌, ◌+◌, ◌-◌, ◌*◌, ℕ, List, [], ◌∷◌, min, refl, subst, drop, length, take}
use Rattle.std.proofs.lemmas.List.{drop-drop, take_rest}
use Rattle.std.proofs.lemmas.Grind.{common_steps}
use Rattle.std.specs.List.{fold}
use Rattle.cases.specs.Cases.{greatest, skipped, digits, number_at}

pub cut : (v : ℕ) (l : List ℕ) → fold (λ v b. min (min (v * 10) greatest + (b - 48)) greatest) (min v greatest) l ≡ min (fold (λ v b. v * 10 + (b - 48)) v l) greatest
cut v [] = refl
cut v (b ∷ l) = subst (λ (n : ℕ). fold (λ v b. min (min (v * 10) greatest + (b - 48)) greatest) n l ≡ min (fold (λ v b. v * 10 + (b - 48)) (v * 10 + (b - 48)) l) greatest) (omega arith) (cut (v * 10 + (b - 48)) l)

-- a number's digits, behind what was skipped
pub found : (s rest : List ℕ) (at k n v : ℕ) → rest ≡ drop at s → k ≡ skipped rest → n ≡ digits (take (length rest - k) (drop k rest))
    → v ≡ min (fold (λ v b. v * 10 + (b - 48)) 0 (take n (take (length rest - k) (drop k rest)))) greatest
    → number_at s at ≡ (v, at + (k + n))
unfolding number_at
found s rest at k n v e f h i =
    let sum : at + (k + n) ≡ at + k + n = omega arith in
    let number : take (length rest - k) (drop k rest) ≡ drop k rest = take_rest rest k in
    rw sum (simp (rw number at i, rw number at h, drop-drop, e, f))

-- with std's steps on lists
pub ruleset number_steps = (common_steps, found)
