-- The day of the last settlement is that of the last place.
use Rattle.std.proofs.Common.{arith, ◌≡◌, ℕ, ◌-◌, List, [], ◌∷◌, length, get_or, refl}
use Rattle.std.specs.List.{slice_get}
use Rattle.std.specs.Option.{MatchOption}
use Rattle.std.proofs.lemmas.Option.{slice_get-get_or}
use Rattle.account.specs.declared.Settlement.{Settlement}
use Rattle.account.specs.Opening.{no_settlement}
use Rattle.account.specs.Schedule.{last_day}

last_of : (day : ℕ) (s : Settlement) (ss : List Settlement) → last_day day (s ∷ ss) ≡ (get_or (s ∷ ss) (length ss) no_settlement).day.0
unfolding last_day
last_of day s [] = refl
last_of day s (t ∷ ss) = last_of s.day.0 t ss

-- the first part is trivially true: it is the term that `grind` looks for
pub last_is : (ss : List Settlement) → (last_day 0 ss ≡ last_day 0 ss) × MatchOption (slice_get ss (length ss - 1)) (last_day 0 ss ≡ 0) (λ (s : Settlement). last_day 0 ss ≡ s.day.0)
unfolding last_day
last_is [] = (refl, refl)
last_is (s ∷ ss) =
    let place : length (s ∷ ss) - 1 ≡ length ss = omega arith in
    (refl, rw (place, slice_get-get_or (s ∷ ss) (length ss) no_settlement (omega arith)) (last_of 0 s ss))
