-- A book's positions in use after others replace them.
use Rattle.std.proofs.Common.{◌≤◌, ◌≡◌, List, length, drop, take-append-drop, length-take-le}
use Rattle.std.proofs.Math.Seq.{take-append_seam, drop-append_seam}
use Rattle.book_model.specs.declared.Book.{Book}
use Rattle.book_model.specs.declared.Position.{Position}
use Rattle.book_model.specs.Book.{held, with_held}

-- the array of positions has room for those in use
abbrev pub Roomy : Book → Type 0
Roomy b = b.count ≤ length b.positions

module _ (b : Book) where
  pub length-held : Roomy b → length (held b) ≡ b.count
  length-held room = length-take-le b.count b.positions room

  pub held-with_held : (ps : List Position) → held (with_held b ps) ≡ ps
  unfolding with_held
  held-with_held ps = take-append_seam ps (drop (length ps) b.positions)

  pub with_held-held : Roomy b → with_held b (held b) ≡ b
  unfolding with_held
  with_held-held room = rw (length-held room, take-append-drop)

  -- of two replacements by as many positions, the last one stays
  pub with_held-twice : (ps qs : List Position) → length ps ≡ length qs → with_held (with_held b ps) qs ≡ with_held b qs
  unfolding with_held
  with_held-twice ps qs e = rw (← e, drop-append_seam)
