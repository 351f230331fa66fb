-- A book is sound in one way at most, so that soundness follows from a reached book's type.
use Rattle.std.proofs.Common.{ℕ, List, [], ◌∷◌}
use Rattle.std.proofs.Math.Logic.{∥∥₁_elim}
use Rattle.std.proofs.Props.{props}
use Rattle.account.specs.declared.RateOrder.{RateOrder}
use Rattle.account.specs.declared.Settlement.{Settlement}
use Rattle.account.specs.Invariant.{FromStart, Rising, Timely}
use Rattle.book_model.specs.declared.Book.{Book}
use Rattle.book_model.specs.Invariant.{Sound, OpenSound, Priced, Begun}
use Rattle.book_model.specs.Reached.{Reached}
use Rattle.book_model.proofs.Kept.{sound}

priced_once : (os : List RateOrder) → IsProp (Priced os)
priced_once [] = hlevel props
priced_once (o ∷ os) = let rest = priced_once os in hlevel (props, rest)

rising_once : (day : ℕ) (os : List RateOrder) → IsProp (Rising day os)
rising_once day [] = hlevel props
rising_once day (o ∷ os) = let rest = rising_once o.first.0 os in hlevel (props, rest)

from_start_once : (os : List RateOrder) → IsProp (FromStart os)
from_start_once [] = hlevel props
from_start_once (o ∷ os) = let rest = rising_once o.first.0 os in hlevel (props, rest)

begun_once : (os : List RateOrder) (today : ℕ) → IsProp (Begun os today)
begun_once [] today = hlevel props
begun_once (o ∷ os) today = let rest = begun_once os today in hlevel (props, rest)

timely_once : (day : ℕ) (ss : List Settlement) (today : ℕ) → IsProp (Timely day ss today)
timely_once day [] today = hlevel props
timely_once day (s ∷ ss) today = let rest = timely_once s.day.0 ss today in hlevel (props, rest)

open_sound_once : (b : Book) → IsProp (OpenSound b)
open_sound_once b = hlevel (props, priced_once, from_start_once, begun_once, timely_once)

sound_once : (b : Book) → IsProp (Sound b)
sound_once b = hlevel (props, open_sound_once)

-- Every reached book is sound
pub is_sound : {b : Book} → ∥ Reached b ∥₁ → Sound b
is_sound {b = b} reached = ∥∥₁_elim reached (sound_once b) (sound b)
