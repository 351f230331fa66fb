-- What follows for every statement, and document 01's example.
use Rattle.std.specs.Prelude.{ℕ, ◌*◌, ◌+◌, ◌^◌, ◌≤◌, ◌<◌, ◌≡◌, true, false, List, [], ◌++◌, length, get_or, replicate, codes}
use Rattle.account.specs.declared.Account.{Account}
use Rattle.book_model.specs.declared.Book.{Book}
use Rattle.book_model.specs.declared.Position.{Position}
use Rattle.book_model.specs.Book.{held}
use Rattle.book_model.specs.Outcome.{no_position}
use Rattle.book_model.specs.Reached.{Reached}
use Rattle.file_model.specs.Examples.{paper_file}
use Rattle.file_model.specs.Loads.{end_alone_file}
use Rattle.report.specs.Statement.{totals_line, position_line, refusal_line, book_printed, statement_of, report_of}

-- figures that their columns hold
pub record TotalsFit (a : Account) : Type 0 where
  pub outstanding : a.outstanding.0 < 10 ^ 15
  pub due : a.due.0 < 10 ^ 15
  pub fraction : a.fraction < 10 ^ 11
  pub principal-paid : a.principal_paid.0 < 10 ^ 15
  pub interest-paid : a.interest_paid.0 < 10 ^ 15

pub record PositionFits (p : Position) : Type 0 where
  pub holder : p.holder < 10 ^ 9
  pub share : p.share.0 < 10 ^ 9
  pub unit-days : p.unit_days < 10 ^ 12
  pub received : p.received.0 < 10 ^ 15

-- the paper's three lines
abbrev pub paper_statement : List ℕ
paper_statement =
    codes "B20140131              0              0 1627656000            100              0\n"
    ++ (codes "H        1   500000           0             67\n" ++ codes "H        2   500000           0             33\n")

abbrev pub empty_file_statement : List ℕ
empty_file_statement = codes "X 20        1\n"

pub record Statements : Type 0 where
  -- the lines' lengths, and that every statement fits 81 + 64 × 47 bytes
  pub totals-length : (today : ℕ) (a : Account) → length (totals_line today a) ≡ 81
  pub position-length : (p : Position) → length (position_line p) ≡ 47
  pub refusal_length : (number line : ℕ) → length (refusal_line number line) ≡ 14
  pub book-length : (b : Book) → b.opened ≡ true → length (book_printed b) ≡ 81 + length (held b) * 47
  pub statement-fits : (s : List ℕ) → length (statement_of s) ≤ 81 + 64 * 47
  -- an empty book prints nothing
  pub empty_prints_nothing : (b : Book) → b.opened ≡ false → book_printed b ≡ []
  -- no figure of a reached book is cut by its columns
  pub totals-fit : (b : Book) → Reached b → TotalsFit b.account
  pub positions-fit : (b : Book) (k : ℕ) → Reached b → PositionFits (get_or (held b) k no_position)
  -- each figure in its own columns
  pub figures-apart :
      totals_line 20140131
      (record { outstanding = record { 0 = 1 }; due = record { 0 = 2 }; fraction = 3; principal_paid = record { 0 = 4 }; interest_paid = record { 0 = 5 } })
      ≡ codes "B20140131              1              2          3              4              5\n"
  pub position-apart :
      position_line (record { holder = 1; share = record { 0 = 2 }; unit_days = 3; received = record { 0 = 4 } })
      ≡ codes "H        1        2           3              4\n"
  -- document 01's example, and the empty file
  pub paper_printed : statement_of paper_file ≡ paper_statement
  pub empty_file_printed : statement_of [] ≡ empty_file_statement
  -- "An accepted file that leaves the book empty prints nothing.": an E line alone with count 0
  pub end_alone_printed : statement_of end_alone_file ≡ []
  -- 3,089 bytes are enough for every file, and 3,088 for none
  pub just-fits : (report_of [] (replicate 3089 0)).0 ≡ (0, 14)
  pub short_by_one : (report_of [] (replicate 3088 0)).0 ≡ (21, 0)
