-- What the reading of a line gives. Private contracts alone cite this: nobody has to believe it.
use Rattle.std.specs.Prelude.{ℕ, ◌≡◌, List, Result, Ok, Err}
use Rattle.line.specs.declared.Fields.{Fields}
use Rattle.line.specs.Line.{read_stated, line_of}
use Rattle.file_model.specs.declared.LoadFault.{LoadFault}
use Rattle.file_model.specs.declared.LoadRefusal.TheVariants as refusal

-- the fields of a line, or that line n is malformed
abbrev pub ReadAs : (n : ℕ) → List ℕ → Result Fields LoadFault → Type 0
ReadAs n l (Ok f) = read_stated (Ok f) ≡ line_of l
ReadAs n l (Err fault) = (read_stated (Err (record {})) ≡ line_of l) × (fault ≡ record { refusal = refusal.Line; line = n })
