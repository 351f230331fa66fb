-- Document 01's example file loaded on the empty book, and files that are refused at one line or another. Numbers of the table stand here as numbers.
use Rattle.std.specs.Prelude.{ℕ, zero, suc, ◌≡◌, List, [], ◌∷◌, ◌++◌, take, drop, codes}
use Rattle.std.specs.Str.{byte}
use Rattle.book_model.specs.Book.{empty_book, held}
use Rattle.book_model.specs.Outcome.{answered}
use Rattle.book_model.specs.Read.{totals_of}
use Rattle.book_model.specs.Call.{Advance, Rate, Transfer, Settle}
use Rattle.conservation.specs.Examples.{figures, position}
use Rattle.line.specs.Write.{line_bytes}
use Rattle.line.specs.Examples.{opening_line, financing_line, advance_line, transfer_line, later_advance_line, settlement_line, end_line, rate_line, leading_zero_line}
use Rattle.file_model.specs.Load.{Outcome, refused_by, load_of, part_start, part_end}
use Rattle.file_model.specs.Loads.{end_of}
use Rattle.file_model.specs.Order.{Open, Finance, Later, End, order_in}

-- the paper's file: seven lines
abbrev pub paper_file : List ℕ
paper_file = opening_line ++ (financing_line ++ (advance_line ++ (transfer_line ++ (later_advance_line ++ (settlement_line ++ end_line)))))

-- two equal D lines, the second of them at fault
abbrev pub twice_advanced : List ℕ
twice_advanced = opening_line ++ (financing_line ++ (advance_line ++ (advance_line ++ end_line)))

-- what is made of a file by the empty book
abbrev pub loaded : List ℕ → Outcome
loaded = load_of empty_book

-- refused at a line with a number of the table
abbrev pub turned_away : (line number : ℕ) → Outcome
turned_away = refused_by empty_book

-- F lines of so many holders, numbered from one on: 64 such shares are the whole
abbrev pub holder_lines : (first count : ℕ) → List ℕ
holder_lines first zero = []
holder_lines first (suc count) =
    line_bytes (record { letter = byte "F"; date = 0; first = first; second = 0; third = 15625 }) ++ holder_lines (suc first) count

pub record Examples : Type 0 where
  -- the statement's B line and its two H lines, and the count of lines
  pub paper_accepted : (loaded paper_file).number ≡ 0
  pub paper_count : (loaded paper_file).count ≡ 6
  pub paper_totals : totals_of (loaded paper_file).book ≡ answered (record { today = 20140131; account = figures 0 0 1627656000 100 0 })
  pub paper_positions : held (loaded paper_file).book ≡ position 1 500000 0 67 ∷ position 2 500000 0 33 ∷ []
  -- "Taking an empty file for a month without orders"
  pub empty-file : loaded [] ≡ turned_away 1 20
  -- "an incomplete last line": the E line without its line feed
  pub line_feed_missing : loaded (take 300 paper_file) ≡ turned_away 7 21
  -- "22 without E": "the lines read plus 1"
  pub end_missing : loaded (take 258 paper_file) ≡ turned_away 7 22
  -- "bytes after E name the line that they begin"
  pub bytes_after_end : loaded (paper_file ++ codes "\n") ≡ turned_away 8 22
  -- "A wrong count names the E line", with bytes after it too
  pub wrong_count : loaded (opening_line ++ (financing_line ++ (end_line ++ end_line))) ≡ turned_away 3 22
  pub count_too_great : loaded (end_of 1) ≡ turned_away 1 22
  pub count_too_small : loaded (opening_line ++ (financing_line ++ end_of 1)) ≡ turned_away 3 22
  -- "a 65th F of one O is refused with 7, naming that F."; with 64 of them it is an opening, and each O counts its own
  pub sixty_four_accepted : (loaded (opening_line ++ (holder_lines 1 64 ++ end_of 65))).number ≡ 0
  pub sixty_fifth_refused : loaded (opening_line ++ holder_lines 1 65) ≡ turned_away 66 7
  pub sixty_fifth_malformed : loaded (opening_line ++ (holder_lines 1 64 ++ codes "F\n")) ≡ turned_away 66 21
  pub each_opening_counted : loaded (opening_line ++ (financing_line ++ (opening_line ++ holder_lines 1 64))) ≡ turned_away 3 2
  -- "F stands only after O or F, else 21"
  pub financing-first : loaded (drop 43 paper_file) ≡ turned_away 1 21
  pub financing_late : loaded (opening_line ++ (financing_line ++ (advance_line ++ financing_line))) ≡ turned_away 4 21
  -- "Open runs before the first line after O that doesn't begin with F is checked, or at the file's end, and its refusal names the O line."
  pub opening_before_next_line : loaded (opening_line ++ leading_zero_line) ≡ turned_away 1 7
  pub opening_at_end : loaded opening_line ≡ turned_away 1 7
  -- a line that begins with F is checked before Open runs
  pub financing_before_opening : loaded (opening_line ++ codes "F\n") ≡ turned_away 2 21
  -- and a wrong count after it
  pub opening_before_count : loaded (opening_line ++ end_line) ≡ turned_away 1 7
  -- a call and a line at fault behind an opening: an Advance to today, and a leading zero
  pub call_behind_opening : loaded twice_advanced ≡ turned_away 4 8
  pub malformed_behind_call : loaded (opening_line ++ (financing_line ++ (advance_line ++ leading_zero_line))) ≡ turned_away 4 21
  -- the part of the second of two equal lines is its own; an accepted file's is at the end
  pub second_part : (part_start twice_advanced 8 4 ≡ 129) × (part_end twice_advanced 8 4 ≡ 172)
  pub paper_part : (part_start paper_file 0 0 ≡ 301) × (part_end paper_file 0 0 ≡ 301)
  -- what each letter orders
  pub opening-ordered : order_in opening_line ≡ Open 20140101 30 2000 100
  pub financing-ordered : order_in financing_line ≡ Finance 1 1000000
  pub advance-ordered : order_in advance_line ≡ Later (Advance 20140111)
  pub rate-ordered : order_in rate_line ≡ Later (Rate 20140105 1500)
  pub transfer-ordered : order_in transfer_line ≡ Later (Transfer 1 2 500000)
  pub settlement-ordered : order_in settlement_line ≡ Later (Settle 100)
  pub end-ordered : order_in end_line ≡ End 6
  -- a call of the book that has no right
  pub unopened : loaded rate_line ≡ turned_away 1 1
  -- the month's second opening
  pub already_open : loaded (opening_line ++ (financing_line ++ (opening_line ++ (financing_line ++ end_line)))) ≡ turned_away 3 2
