-- Stores into a list, one after the other from a place on: two runs as one, and the last store made first.
use Rattle.std.proofs.Common.{ℕ, suc, ◌+◌, ◌≤◌, add-zero, arith, ◌≡◌, refl, ap, ◌∙◌, List, [], ◌∷◌, ◌++◌, length, set}
use Rattle.std.proofs.lemmas.List.{set_comm}
use Rattle.std.proofs.lemmas.List.Edits.{sets}

module _ {A : Type 0} where
  -- a store behind a run may come before it
  set_sets : (vs l : List A) (i k : ℕ) (v : A) → i + length vs ≤ k → set (sets l i vs) k v ≡ sets (set l k v) i vs
  set_sets [] l i k v h = refl
  set_sets (a ∷ vs) l i k v h =
      set_sets vs (set l i a) (suc i) k v (omega arith)
      ∙ ap (λ (x : List A). sets x (suc i) vs) (set_comm l i k a v (omega arith))

  -- two runs, one behind the other, are one
  pub sets_append : (xs ys l : List A) (i : ℕ) → sets l i (xs ++ ys) ≡ sets (sets l i xs) (i + length xs) ys
  sets_append [] ys l i = rw add-zero
  sets_append (a ∷ xs) ys l i =
      let e : suc i + length xs ≡ i + suc (length xs) = omega arith in
      sets_append xs ys (set l i a) (suc i) ∙ ap (λ (k : ℕ). sets (sets (set l i a) (suc i) xs) k ys) e

  -- the same, where the first run's length is known
  pub sets_append_at : (xs ys l : List A) (i n : ℕ) → length xs ≡ n → sets l i (xs ++ ys) ≡ sets (sets l i xs) (i + n) ys
  sets_append_at xs ys l i n e = sets_append xs ys l i ∙ ap (λ (k : ℕ). sets (sets l i xs) (i + k) ys) e

  -- the last store of a run may come first
  pub sets_last_first : (xs l : List A) (i n : ℕ) (x : A) → length xs ≡ n → sets l i (xs ++ (x ∷ [])) ≡ sets (set l (i + n) x) i xs
  sets_last_first xs l i n x e = sets_append_at xs (x ∷ []) l i n e ∙ set_sets xs l i (i + n) x (omega arith)
