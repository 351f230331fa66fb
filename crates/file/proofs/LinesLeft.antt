-- What a reader has left of its file once it has read a line.
use Rattle.std.proofs.Common.{arith, ◌≡◌, ◌+◌, ◌<◌, refl, ◌∙◌, length, drop}
use Rattle.book_model.specs.declared.Book.{Book}
use Rattle.lines.specs.Lines.{lines, end_of}
use Rattle.lines.proofs.Callers.{end-within, end-past}
use Rattle.file_model.specs.Load.{Waiting, load_from}
use Rattle.file.specs.declared.reading.Lines.{Lines}
use Rattle.file.specs.Turns.{left, Moves}

-- where the line at a position ends
pub ruleset line_ends = (end-within, end-past)

-- a reader before and after a line
pub record Read (old new : Lines) : Type 0 where
  pub more : old.reader.at < length old.reader.file.now
  pub moved : (new.reader.file ≡ old.reader.file) × (new.reader.at ≡ end_of old.reader.file.now old.reader.at)
  pub counted : new.read ≡ old.read + 1

module _ {old new : Lines} (r : Read old new) where
  pub read-moves : Moves old new
  read-moves = record { same-file = r.moved.0; ahead = omega (arith, r.moved.1) }

  pub left_behind : (before b : Book) (waiting : Waiting)
      → load_from before b waiting (old.read + 1) (lines (drop (end_of old.reader.file.now old.reader.at) old.reader.file.now)) ≡ left before b waiting new
  left_behind before b waiting = rw (r.moved.0, r.moved.1, r.counted) refl

-- one line after others
pub moves_on : {first old new : Lines} → Moves first old → Moves old new → Moves first new
moves_on m n = record { same-file = n.same-file ∙ m.same-file; ahead = omega (arith, m.ahead, n.ahead) }
