-- What follows from the definition of a load, for every file and every book.
use Rattle.std.specs.Prelude.{ℕ, suc, ◌+◌, ◌-◌, ◌≤◌, ◌<◌, ◌≡◌, ◌≢◌, Result, Bool, true, ◌&&◌, List, [], ◌∷◌, ◌++◌, map, length, get_or, take}
use Rattle.std.specs.Str.{byte}
use Rattle.book_model.specs.declared.Book.{Book}
use Rattle.book_model.specs.Book.{empty_book}
use Rattle.book_model.specs.Call.{Opening, Call}
use Rattle.book_model.specs.Calls.{book_after, number_of, accepts, run}
use Rattle.book_model.specs.Reached.{Reached}
use Rattle.conservation.specs.Conservation.{opening_of, feed_of, Conserved, History}
use Rattle.conservation.specs.Tally.{start, fed_with}
use Rattle.line.specs.Write.{line_bytes}
use Rattle.lines.specs.Lines.{lines, part_of}
use Rattle.file_model.specs.declared.LoadRefusal.TheVariants as refusal
use Rattle.file_model.specs.Order.{Order, Open, Finance, Later, End, Malformed, order_in}
use Rattle.file_model.specs.declared.LoadFault.{LoadFault}
use Rattle.file_model.specs.Load.{accepted, refused, refused_by, answered, opening_with, load_of, number_told, line_named, part_start, part_end}

-- The calls that stand in a file

abbrev pub orders_in : List ℕ → List Order
orders_in s = map order_in (lines s)

-- what each line has of something, in order
unfoldable pub collected : {A : Type 0} → (Order → List A) → List Order → List A
collected has [] = []
collected has (o ∷ os) = has o ++ collected has os

-- the call of a D, R, T or S line
abbrev pub call_in : Order → List Call
call_in (Open first term annual cents) = []
call_in (Finance h s) = []
call_in (Later k) = k ∷ []
call_in (End count) = []
call_in Malformed = []

abbrev pub later_calls : List Order → List Call
later_calls = collected call_in

-- holder and share of an F line
abbrev pub holder_in : Order → List ℕ
holder_in (Open first term annual cents) = []
holder_in (Finance h s) = h ∷ []
holder_in (Later k) = []
holder_in (End count) = []
holder_in Malformed = []

abbrev pub share_in : Order → List ℕ
share_in (Open first term annual cents) = []
share_in (Finance h s) = s ∷ []
share_in (Later k) = []
share_in (End count) = []
share_in Malformed = []

-- the opening that a first line begins, if it is an O line, with the F lines behind it; else one that Open refuses
abbrev pub opening_from : Order → List Order → Opening
opening_from (Open first term annual cents) os = opening_with first term annual cents (collected holder_in os) (collected share_in os)
opening_from (Finance h s) os = opening_with 0 0 0 0 [] []
opening_from (Later k) os = opening_with 0 0 0 0 [] []
opening_from (End count) os = opening_with 0 0 0 0 [] []
opening_from Malformed os = opening_with 0 0 0 0 [] []

abbrev pub opening_in : List Order → Opening
opening_in [] = opening_with 0 0 0 0 [] []
opening_in (o ∷ os) = opening_from o os

unfoldable pub all_accepted : Book → List Call → Bool
all_accepted b [] = true
all_accepted b (k ∷ ks) = accepts b k && all_accepted (book_after b k) ks

-- the lines that hold these calls and an E line with this count, and nothing else
abbrev pub call_lines : List Call → (count : ℕ) → List Order
call_lines ks count = map Later ks ++ (End count ∷ [])

abbrev pub financing_lines : (holders shares : List ℕ) → List Order
financing_lines [] ss = []
financing_lines (h ∷ hs) [] = []
financing_lines (h ∷ hs) (s ∷ ss) = Finance h s ∷ financing_lines hs ss

-- lines behind an O line and the F lines of an opening
abbrev pub opening_before : Opening → List Order → List Order
opening_before o os = Open o.first o.term o.annual o.cents ∷ (financing_lines o.holders o.shares ++ os)

abbrev pub opening_lines : Opening → List Call → (count : ℕ) → List Order
opening_lines o ks count = opening_before o (call_lines ks count)

-- What an accepted file does

-- to an open book: every line before its E is a call, all are accepted, and the book is their run
pub record FromOpen (b : Book) (s : List ℕ) : Type 0 where
  pub every-line : orders_in s ≡ call_lines (later_calls (orders_in s)) (load_of b s).count
  pub calls-accepted : all_accepted b (later_calls (orders_in s)) ≡ true
  pub is-run : (load_of b s).book ≡ run b (later_calls (orders_in s))

-- to the empty book, with a line before its E: the lines are an opening and calls, all accepted; the book is their run, and equals the tally
-- of the file's own calls
pub record FromEmpty (s : List ℕ) (o : Opening) (ks : List Call) : Type 0 where
  pub every-line : orders_in s ≡ opening_lines o ks (load_of empty_book s).count
  pub opening-accepted : (opening_of o).answer.number ≡ 0
  pub calls-accepted : all_accepted (opening_of o).book ks ≡ true
  pub is-run : (load_of empty_book s).book ≡ run (opening_of o).book ks
  pub conserved : Conserved o (load_of empty_book s).book (fed_with o (start o) (feed_of (opening_of o).book ks)) (feed_of (opening_of o).book ks)

-- the bytes of an E line
abbrev pub end_of : (count : ℕ) → List ℕ
end_of count = line_bytes (record { letter = byte "E"; date = 0; first = 0; second = 0; third = count })

abbrev pub end_alone_file : List ℕ
end_alone_file = end_of 0

-- The part that a load's answer shows, by its number and line

abbrev pub part_shown : List ℕ → (number line : ℕ) → List ℕ
part_shown s number line = part_of s (part_start s number line) (part_end s number line)

-- nothing, at the file's end
abbrev pub EmptyAtEnd : List ℕ → (number line : ℕ) → Type 0
EmptyAtEnd s number line = (part_start s number line ≡ length s) × (part_end s number line ≡ length s)

pub record PartShown (s : List ℕ) (number line : ℕ) : Type 0 where
  -- "Acceptance gives .. as its part the empty one at the file's end."
  pub of_acceptance : number ≡ 0 → EmptyAtEnd s number line
  -- "the refused line itself, as part of the file"
  pub of_refusal : number ≢ 0 → part_shown s number line ≡ get_or (lines s) (line - 1) []
  -- "for 20, or 22 without E, the empty part at the end"
  pub behind_lines : line ≡ length (lines s) + 1 → EmptyAtEnd s number line

pub record Loads : Type 0 where
  -- "A load that reports success and applies no line, or only the first": the book is the lines' outcome
  pub from_open : (b : Book) (s : List ℕ) → b.opened ≡ true → (load_of b s).number ≡ 0 → FromOpen b s
  pub from_empty : (s : List ℕ) → (load_of empty_book s).number ≡ 0 → 0 < (load_of empty_book s).count
      → FromEmpty s (opening_in (orders_in s)) (later_calls (orders_in s))
  -- "Every other input is accepted.": lines whose calls are accepted in turn, and an E line with their count
  pub calls-accepted : (b : Book) (s : List ℕ) (ks : List Call) → orders_in s ≡ call_lines ks (length ks) → all_accepted b ks ≡ true
      → load_of b s ≡ accepted (length ks) (run b ks)
  pub opening-accepted : (s : List ℕ) (o : Opening) (ks : List Call) → orders_in s ≡ opening_lines o ks (suc (length o.holders + length ks))
      → (opening_of o).answer.number ≡ 0 → all_accepted (opening_of o).book ks ≡ true
      → load_of empty_book s ≡ accepted (suc (length o.holders + length ks)) (run (opening_of o).book ks)
  -- "the first fault decides": the first call that is refused gives its number and line, whatever follows it; behind an opening too
  pub call-refused : (b : Book) (s : List ℕ) (ks : List Call) (k : Call) (os : List Order) → orders_in s ≡ map Later ks ++ (Later k ∷ os)
      → all_accepted b ks ≡ true → (number_of (run b ks) k ≡ 0 → ⊥) → load_of b s ≡ refused_by b (length ks + 1) (number_of (run b ks) k)
  pub call_refused_behind_opening : (s : List ℕ) (o : Opening) (ks : List Call) (k : Call) (os : List Order)
      → orders_in s ≡ opening_before o (map Later ks ++ (Later k ∷ os))
      → (opening_of o).answer.number ≡ 0 → all_accepted (opening_of o).book ks ≡ true → (number_of (run (opening_of o).book ks) k ≡ 0 → ⊥)
      → load_of empty_book s ≡ refused_by empty_book (suc (length o.holders + length ks) + 1) (number_of (run (opening_of o).book ks) k)
  -- loads go on from reached books to reached books, so demand 3 holds of every open book that any of them leaves
  pub reached-kept : (b : Book) (s : List ℕ) → Reached b → Reached (load_of b s).book
  pub conserved : (b : Book) (s : List ℕ) → Reached b → (load_of b s).book.opened ≡ true → History (load_of b s).book
  -- "A reported line count not taken from the file": it is the number of lines before E, the last line, and E's own
  pub count_of_lines : (b : Book) (s : List ℕ) → (load_of b s).number ≡ 0 → length (lines s) ≡ suc (load_of b s).count
  pub count_of_end : (b : Book) (s : List ℕ) → (load_of b s).number ≡ 0 → order_in (get_or (lines s) (load_of b s).count []) ≡ End (load_of b s).count
  -- a refused file leaves the book, and names one of its lines or the empty part behind them; an accepted one names none
  pub refused_leaves : (b : Book) (s : List ℕ) → ((load_of b s).number ≡ 0 → ⊥) → ((load_of b s).book ≡ b) × ((load_of b s).count ≡ 0)
  pub refused-names : (b : Book) (s : List ℕ) → ((load_of b s).number ≡ 0 → ⊥) → (1 ≤ (load_of b s).line) × ((load_of b s).line ≤ length (lines s) + 1)
  pub accepted_names_none : (b : Book) (s : List ℕ) → (load_of b s).number ≡ 0 → (load_of b s).line ≡ 0
  -- the part that a load's own answer shows: a load answers numbers, and a second call hands out the part
  pub part-shown : (b after : Book) (s : List ℕ) (answer : Result ℕ LoadFault) → answered answer after ≡ load_of b s
      → PartShown s (number_told answer) (line_named answer)
  -- "Taking an empty file for a month without orders"
  pub empty-refused : (b : Book) → load_of b [] ≡ refused b 1 refusal.Empty
  -- "the empty part at the end": named for 22 without an E line, and for no other refusal of a file with a byte
  pub end_missing : (b : Book) (s : List ℕ) → (load_of b s).number ≡ 22 → ((n count : ℕ) → order_in (get_or (lines s) n []) ≡ End count → ⊥)
      → (load_of b s).line ≡ suc (length (lines s))
  pub empty-part : (b : Book) (s : List ℕ) → 0 < length s → (load_of b s).line ≡ suc (length (lines s))
      → ((load_of b s).number ≡ 22) × ((n count : ℕ) → order_in (get_or (lines s) n []) ≡ End count → ⊥)
  -- an accepted file that is cut off anywhere before its last byte is refused, and so is one with bytes behind its E
  pub cut-refused : (b : Book) (s : List ℕ) (k : ℕ) → (load_of b s).number ≡ 0 → k < length s → (load_of b (take k s)).number ≡ 0 → ⊥
  pub more-refused : (b : Book) (s t : List ℕ) → (load_of b s).number ≡ 0 → 0 < length t
      → load_of b (s ++ t) ≡ refused b ((load_of b s).count + 2) refusal.Unfinished
  -- "An E line alone with count 0 is accepted and changes nothing."
  pub end_alone : (b : Book) → load_of b end_alone_file ≡ accepted 0 b
