-- What the parts of the load do. Private contracts alone cite this: nobody has to believe it.
use Rattle.std.specs.Prelude.{ℕ, ◌-◌, ◌≤◌, ◌≡◌, Result, Ok, Err, Bool, cond, [], ltb, drop}
use Rattle.book_model.specs.declared.Book.{Book}
use Rattle.book_model.specs.declared.Refusal.{Refusal}
use Rattle.line.specs.declared.Fields.{Fields}
use Rattle.lines.specs.Lines.{lines}
use Rattle.file_model.specs.declared.LoadFault.{LoadFault}
use Rattle.file_model.specs.declared.LoadRefusal.TheVariants as refusal
use Rattle.file_model.specs.Order.{order_of}
use Rattle.file_model.specs.Load.{Outcome, Waiting, None, Waits, accepted, refused, opening_with, ended, after_open, after_line, load_from}
use Rattle.file.specs.declared.reading.Lines.{Lines}
use Rattle.file.specs.declared.financing.Financing.{Financing}

-- a share as 32 bits hold it: the greatest for all beyond, which Open refuses just the same
abbrev pub saturated : ℕ → ℕ
saturated n = cond (ltb 4294967295 n) 4294967295 n

-- a call's answer, as that of the line which made it
abbrev pub by_line : {A : Type 0} → (line : ℕ) → Result A Refusal → Result (Unit {0}) LoadFault
by_line line (Ok value) = Ok tt
by_line line (Err r) = Err (record { refusal = refusal.Call r; line = line })

-- How the load goes on

-- what a reader has left of its file
abbrev pub left : (before b : Book) → Waiting → Lines → Outcome
left before b waiting l = load_from before b waiting l.read (lines (drop l.reader.at l.reader.file.now))

-- with a book, or stopped at a fault
abbrev pub goes_on : (before : Book) → (Book → Outcome) → Book → Result (Unit {0}) LoadFault → Outcome
goes_on before rest b (Ok x) = rest b
goes_on before rest b (Err fault) = refused before fault.line fault.refusal

-- a load that stops: an accepted one keeps the book that it came to
abbrev pub stopped : (before : Book) → Result ℕ LoadFault → Book → Outcome
stopped before (Ok count) b = accepted count b
stopped before (Err fault) b = refused before fault.line fault.refusal

-- an E line behind n lines
pub record Ends (n count : ℕ) (last : Bool) (answer : Result ℕ LoadFault) : Type 0 where
  pub same : (before b : Book) → stopped before answer b ≡ ended before b n count last

-- the reader moves on in its file
pub record Moves (old new : Lines) : Type 0 where
  pub same-file : new.reader.file ≡ old.reader.file
  pub ahead : old.reader.at ≤ new.reader.at

-- what is left behind the F lines of an opening, whose holders and shares were gathered
abbrev pub gathered : (before b : Book) → (line first term annual cents : ℕ) → Lines → Result Financing LoadFault → Outcome
gathered before b line first term annual cents l (Ok g) =
    after_open before b (Waits line (opening_with first term annual cents g.holders.items g.shares.items)) (λ opened. left before opened None l)
gathered before b line first term annual cents l (Err fault) = refused before fault.line fault.refusal

pub record Gathers (old new : Lines) (answer : Result Financing LoadFault) : Type 0 where
  pub same : (before b : Book) (line first term annual cents : ℕ)
      → left before b (Waits line (opening_with first term annual cents [] [])) old ≡ gathered before b line first term annual cents new answer

-- an O line with these fields, read last, opens a book, with the F lines behind it
pub record Opens (first term annual cents : ℕ) (old new : Lines) (b after : Book) (answer : Result (Unit {0}) LoadFault) : Type 0 where
  pub same : (before : Book)
      → left before b (Waits old.read (opening_with first term annual cents [] [])) old ≡ goes_on before (λ opened. left before opened None new) after answer

-- a line with these fields, read last, does what its order does, with the F lines behind an O line
pub record Obeys (f : Fields) (old new : Lines) (b after : Book) (answer : Result (Unit {0}) LoadFault) : Type 0 where
  pub same : (before : Book) (last : Bool)
      → after_line before b (old.read - 1) (order_of f) last (λ opened next. left before opened next old) ≡ goes_on before (λ opened. left before opened None new) after answer
