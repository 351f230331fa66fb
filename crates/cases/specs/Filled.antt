-- A buffer with other bytes at neighbouring places.
use Rattle.std.specs.Prelude.{List, [], ◌∷◌, ◌++◌, ℕ, zero, suc, ◌+◌, ◌%◌}

-- n bytes, of which byte i is 35 + i % 90
unfoldable pub filled : ℕ → List ℕ
filled zero = []
filled (suc i) = filled i ++ ((35 + i % 90) ∷ [])
