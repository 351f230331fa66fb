-- Stored settlements beside today: a later today, and one settlement more.
use Rattle.std.proofs.Common.{ℕ, ◌≤◌, ◌<◌, arith, ◌≡◌, refl, List, [], ◌∷◌, ◌++◌}
use Rattle.account.specs.declared.Settlement.{Settlement}
use Rattle.account.specs.Schedule.{last_day}
use Rattle.account.specs.Invariant.{Timely}

-- Properties of a later today

pub timely-later : (from : ℕ) (ss : List Settlement) (today later : ℕ) → today ≤ later → Timely from ss today → Timely from ss later
timely-later from [] today later le t = omega arith
timely-later from (s ∷ ss) today later le t = (t.0, timely-later s.day.0 ss today later le t.1)

-- Properties of the last settlement

pub last_within : (from : ℕ) (ss : List Settlement) (today : ℕ) → Timely from ss today → last_day from ss ≤ today
unfolding last_day
last_within from [] today t = t
last_within from (s ∷ ss) today t = last_within s.day.0 ss today t.1

pub last-joined : (from : ℕ) (ss : List Settlement) (s : Settlement) → last_day from (ss ++ (s ∷ [])) ≡ s.day.0
unfolding last_day
last-joined from [] s = refl
last-joined from (x ∷ ss) s = last-joined x.day.0 ss s

pub timely-joined : (from : ℕ) (ss : List Settlement) (s : Settlement) (today : ℕ) → last_day from ss < s.day.0 → s.day.0 ≤ today
    → Timely from ss today → Timely from (ss ++ (s ∷ [])) today
unfolding last_day
timely-joined from [] s today lt le t = (lt, le)
timely-joined from (x ∷ ss) s today lt le t = (t.0, timely-joined x.day.0 ss s today lt le t.1)

-- Properties of today

pub timely-most : (from : ℕ) (ss : List Settlement) (today : ℕ) → Timely from ss today → from ≤ today
timely-most from [] today h = h
timely-most from (s ∷ ss) today h = omega (arith, h.0, timely-most s.day.0 ss today h.1)
