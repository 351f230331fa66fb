-- The book with another array of positions.
use Rattle.std.proofs.Common.{ℕ, ◌≡◌, List, ◌++◌, length, drop}
use Rattle.book_model.specs.declared.Book.{Book}
use Rattle.book_model.specs.declared.Position.{Position}
use Rattle.book_model.specs.Book.{with_held}
use Rattle.book_model.specs.Closed.{with_stored}

-- it is the book with other positions in use, where the places behind them stay as they were
pub stored-held : (b : Book) (ts : List Position) (count : ℕ) (ps : List Position) → length ts ≡ count → ts ++ drop count b.positions ≡ ps
    → with_stored b count ps ≡ with_held b ts
unfolding with_held
stored-held b ts count ps e f = rw (← f, ← e)

-- the book with another array of positions
abbrev pub with_array : Book → List Position → Book
with_array b ps = with_stored b b.count ps
