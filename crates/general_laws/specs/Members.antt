-- What stands in a list of numbers: whether one does, and whether none stands twice.
use Rattle.std.specs.Prelude.{ℕ, Bool, true, not, ◌&&◌, List, [], ◌∷◌, eqb}
use Rattle.std.specs.List.{list_any}

-- a number stands in a list
abbrev pub among : ℕ → List ℕ → Bool
among n ns = list_any (λ m. eqb m n) ns

-- no number stands twice: std's `IsDistinct` says it by a type, and `is_financing` wants a test
abbrev pub distinct : List ℕ → Bool
distinct [] = true
distinct (n ∷ ns) = not (among n ns) && distinct ns
