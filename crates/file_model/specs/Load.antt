-- Loading a file on a book (document 01, "Order file"): its lines in turn, each by the book's own definition of its call. "Loading is all or
-- nothing." "the first fault decides."
use Rattle.std.specs.Prelude.{ℕ, ◌+◌, Result, Ok, Err, Bool, true, false, cond, not, List, [], ◌∷◌, ◌++◌, leb, eqb, length, get_or}
use Rattle.std.specs.Str.{byte}
use Rattle.answers.specs.Answers.{number_in}
use Rattle.book_model.specs.declared.Book.{Book}
use Rattle.book_model.specs.declared.called.Called.{Called}
use Rattle.book_model.specs.declared.called.ReachedBook.{ReachedBook}
use Rattle.book_model.specs.declared.Refusal.TheVariants as book-refusal
use Rattle.book_model.specs.Call.{Opening}
use Rattle.book_model.specs.Calls.{opened_with, book_after, number_of}
use Rattle.book_model.specs.Outcome as book-outcome
use Rattle.line.specs.Line.{malformed_number}
use Rattle.lines.specs.Lines.{lines, line_start, line_end}
use Rattle.file_model.specs.declared.LoadRefusal.{LoadRefusal}
use Rattle.file_model.specs.declared.LoadRefusal.TheVariants as refusal
use Rattle.file_model.specs.declared.LoadFault.{LoadFault}
use Rattle.file_model.specs.Order.{Order, Open, Finance, Later, End, Malformed, order_in}

-- What a load gives back

-- "What stops a call": the number of each trade word
abbrev pub refusal_number : LoadRefusal → ℕ
refusal_number refusal.Empty = 20
refusal_number refusal.Line = malformed_number
refusal_number refusal.Unfinished = 22
refusal_number (refusal.Call r) = book-outcome.refusal_number r

-- the number, the refused line's number (0 for none), "the count of lines before E", and the book
pub record Outcome : Type 0 where
  pub number : ℕ
  pub line : ℕ
  pub count : ℕ
  pub book : Book

abbrev pub accepted : ℕ → Book → Outcome
accepted count b = record { number = 0; line = 0; count = count; book = b }

-- "A refusal gives back its number, with 0 in every other field (a refused load also its line, below), and the book that came in."
abbrev pub refused_by : (before : Book) → (line number : ℕ) → Outcome
refused_by before line number = record { number = number; line = line; count = 0; book = before }

abbrev pub refused : (before : Book) → (line : ℕ) → LoadRefusal → Outcome
refused before line r = refused_by before line (refusal_number r)

abbrev pub answered : Result ℕ LoadFault → Book → Outcome
answered (Ok count) b = accepted count b
answered (Err fault) b = refused b fault.line fault.refusal

abbrev pub load_stated : Called ℕ LoadFault ReachedBook → Outcome
load_stated called = answered called.answer called.book.book

-- The lines in turn. `before` is the book that came in, and n counts the lines before the one that is read.

-- an O line that waits for its F lines: its line number, and the opening so far
pub data Waiting : Type 0 where
  None : Waiting
  Waits : (line : ℕ) → Opening → Waiting

abbrev pub opening_with : (first term annual cents : ℕ) → (holders shares : List ℕ) → Opening
opening_with first term annual cents hs ss = record { first = first; term = term; annual = annual; cents = cents; holders = hs; shares = ss }

-- one holder more, last
abbrev pub with_holder : Opening → (holder share : ℕ) → Opening
with_holder o h s = opening_with o.first o.term o.annual o.cents (o.holders ++ (h ∷ [])) (o.shares ++ (s ∷ []))

-- a call's number and book: the load goes on with the book, or stops at a line
abbrev pub after_call : (before : Book) → (line number : ℕ) → (b : Book) → (Book → Outcome) → Outcome
after_call before line number b rest = cond (eqb number 0) (rest b) (refused_by before line number)

-- "Open runs before the first line after O that doesn't begin with F is checked, or at the file's end, and its refusal names the O line."
unfoldable pub after_open : (before b : Book) → Waiting → (Book → Outcome) → Outcome
after_open before b None rest = rest b
after_open before b (Waits line o) rest = after_call before line (opened_with b o).answer.number (opened_with b o).book rest

-- "F stands only after O or F, else 21; a 65th F of one O is refused with 7, naming that F." A line that begins with F and is no F line is
-- malformed
abbrev pub financed : (before : Book) → (line open_line : ℕ) → Opening → Order → (Waiting → Outcome) → Outcome
financed before line open_line o (Finance h s) rest =
    cond (leb 64 (length o.holders)) (refused before line (refusal.Call book-refusal.Financing)) (rest (Waits open_line (with_holder o h s)))
financed before line open_line o (Open first term annual cents) rest = refused before line refusal.Line
financed before line open_line o (Later k) rest = refused before line refusal.Line
financed before line open_line o (End count) rest = refused before line refusal.Line
financed before line open_line o Malformed rest = refused before line refusal.Line

unfoldable pub after_financing : (before : Book) → Waiting → (line : ℕ) → Order → (Waiting → Outcome) → Outcome
after_financing before None line order rest = refused before line refusal.Line
after_financing before (Waits open_line o) line order rest = financed before line open_line o order rest

-- 22: "its count wrong, or bytes after it"; "A wrong count names the E line; bytes after E name the line that they begin."
abbrev pub ended : (before b : Book) → (n count : ℕ) → (last : Bool) → Outcome
ended before b n count last =
    cond (not (eqb count n)) (refused before (n + 1) refusal.Unfinished)
    (cond (not last) (refused before (n + 2) refusal.Unfinished)
    -- "Acceptance gives the count of lines before E"
    (accepted n b))

-- a line that doesn't begin with F, so never an F line; the last one has no byte behind it
unfoldable pub after_line : (before b : Book) → (n : ℕ) → Order → (last : Bool) → (Book → Waiting → Outcome) → Outcome
after_line before b n (Open first term annual cents) last rest = rest b (Waits (n + 1) (opening_with first term annual cents [] []))
after_line before b n (Finance h s) last rest = refused before (n + 1) refusal.Line
after_line before b n (Later k) last rest = after_call before (n + 1) (number_of b k) (book_after b k) (λ after. rest after None)
after_line before b n (End count) last rest = ended before b n count last
after_line before b n Malformed last rest = refused before (n + 1) refusal.Line

abbrev pub none_left : List (List ℕ) → Bool
none_left [] = true
none_left (l ∷ ls) = false

-- "begin with F": its first byte, whatever its form
abbrev pub begins_with_f : List ℕ → Bool
begins_with_f l = eqb (get_or l 0 0) (byte "F")

unfoldable pub load_from : (before b : Book) → Waiting → (n : ℕ) → List (List ℕ) → Outcome
-- 22: "no E line", at "the lines read plus 1"
load_from before b waiting n [] = after_open before b waiting (λ after. refused before (n + 1) refusal.Unfinished)
load_from before b waiting n (l ∷ ls) =
    cond (begins_with_f l)
    (after_financing before waiting (n + 1) (order_in l) (λ next. load_from before b next (n + 1) ls))
    (after_open before b waiting (λ opened. after_line before opened n (order_in l) (none_left ls) (λ after next. load_from before after next (n + 1) ls)))

-- 20: "length 0"
unfoldable pub load_of : Book → List ℕ → Outcome
load_of b [] = refused b 1 refusal.Empty
load_of b (x ∷ s) = load_from b b None 0 (lines (x ∷ s))

-- The part of the file that an answer shows

abbrev pub number_told : Result ℕ LoadFault → ℕ
number_told = number_in (λ (fault : LoadFault). refusal_number fault.refusal)

-- the number of the refused line, 0 for none
abbrev pub line_named : Result ℕ LoadFault → ℕ
line_named (Ok count) = 0
line_named (Err fault) = fault.line

-- where it begins and ends, by the answer's number and line. "Acceptance gives .. as its part the empty one at the file's end. A refused file gives
-- back the refused line itself, as part of the file (with its line feed; an incomplete last line up to the end; for 20, or 22 without E, the empty
-- part at the end)"
unfoldable pub part_start : List ℕ → (number line : ℕ) → ℕ
part_start s number line = cond (eqb number 0) (length s) (line_start s line)

unfoldable pub part_end : List ℕ → (number line : ℕ) → ℕ
part_end s number line = cond (eqb number 0) (length s) (line_end s line)
