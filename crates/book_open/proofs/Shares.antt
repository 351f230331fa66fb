-- Each is a share where none is 0.
use Rattle.std.proofs.Common.{◌≡◌, ℕ, ap, not, ◌||◌, ◌&&◌, List, [], ◌∷◌, eqb, refl, ◌∙◌, Bool, true, false}
use Rattle.std.specs.List.{list_all, list_any}
use Rattle.book_model.specs.Open.{is_share}

neither : (a b : Bool) → (not a && not b) ≡ not (a || b)
neither true b = refl
neither false b = refl

pub none_0 : (ss : List ℕ) → list_all is_share ss ≡ not (list_any (λ s. eqb s 0) ss)
none_0 [] = refl
none_0 (s ∷ ss) = ap (λ b. is_share s && b) (none_0 ss) ∙ neither (eqb s 0) _
