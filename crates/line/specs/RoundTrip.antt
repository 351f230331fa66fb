-- Reading and writing undo each other (document 01, "Order file").
use Rattle.std.specs.Prelude.{ℕ, ◌≤◌, ◌≡◌, List, ◌++◌, length, take, drop}
use Rattle.line.specs.declared.Fields.{Fields}
use Rattle.line.specs.Line.{line_of}
use Rattle.line.specs.Write.{written_of}

pub record RoundTrip : Type 0 where
  -- "A written line reads back as its fields"
  pub written_reads_back : (f : Fields) (buffer : List ℕ) → (written_of f buffer).0 ≡ 0 → line_of (take 43 (written_of f buffer).1) ≡ (0, f)
  -- "and a well-formed line's fields are written as the same bytes."
  pub read_is_written : (s : List ℕ) (f : Fields) (buffer : List ℕ) → line_of s ≡ (0, f) → 43 ≤ length buffer → written_of f buffer ≡ (0, s ++ drop 43 buffer)
