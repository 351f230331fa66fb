-- Parts of a list, each n elements from a place on: one element longer, what follows a part, and what stands past one.
use Rattle.std.proofs.Common.{ℕ, suc, ◌+◌, ◌≤◌, arith, ◌≡◌, sym, ap, ◌∙◌, List, [], ◌∷◌, ◌++◌, length, get_or, take, drop, length-drop, take-append-drop, take-suc, get_or-drop, drop-drop}
use Rattle.std.proofs.Math.Seq.{drop-append-add}

module _ {A : Type 0} where
  pub part_longer : (l : List A) (i n : ℕ) (d : A) → i + suc n ≤ length l → take (suc n) (drop i l) ≡ take n (drop i l) ++ (get_or l (i + n) d ∷ [])
  part_longer l i n d le =
      take-suc (drop i l) n d (simp length-drop (omega arith)) ∙ ap (λ (x : A). take n (drop i l) ++ (x ∷ [])) (get_or-drop i l n d)

  pub part_followed : (l xs : List A) (i n k : ℕ) → i + n ≡ k → take n (drop i l) ≡ xs → drop i l ≡ xs ++ drop k l
  part_followed l xs i n k e part =
      sym (take-append-drop n (drop i l))
      ∙ ap (λ (ys : List A). ys ++ drop n (drop i l)) part
      ∙ ap (λ (ys : List A). xs ++ ys) (drop-drop n i l ∙ ap (λ (j : ℕ). drop j l) e)

  pub part-passed : (xs ys : List A) (n k : ℕ) → length xs ≡ n → drop (n + k) (xs ++ ys) ≡ drop k ys
  part-passed xs ys n k e = ap (λ (j : ℕ). drop (j + k) (xs ++ ys)) (sym e) ∙ drop-append-add xs ys k
