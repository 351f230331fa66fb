-- What the statement prints (document 01, "Statement program"): "Printed numbers are right-justified as in the file, and each line ends in a line
-- feed."
use Rattle.std.specs.Prelude.{ℕ, Result, cond, List, [], ◌∷◌, ◌++◌, leb, eqb, length, drop}
use Rattle.std.specs.Str.{byte}
use Rattle.answers.specs.Answers.{stated}
use Rattle.account.specs.declared.Account.{Account}
use Rattle.book_model.specs.declared.Book.{Book}
use Rattle.book_model.specs.declared.Position.{Position}
use Rattle.book_model.specs.Book.{empty_book, held}
use Rattle.book_model.specs.Read.{totals_of}
use Rattle.line.specs.Field.{justified}
use Rattle.line.specs.Line.{malformed_number}
use Rattle.file_model.specs.Load.{Outcome, load_of}
use Rattle.report.specs.declared.Short.{Short}

-- "B: today (8), outstanding (15), due (15), fraction (11), principal paid (15), interest paid (15)."
unfoldable pub totals_line : (today : ℕ) → Account → List ℕ
totals_line today a =
    byte "B"
    ∷ (justified 8 today
    ++ (justified 15 a.outstanding.0
    ++ (justified 15 a.due.0
    ++ (justified 11 a.fraction
    ++ (justified 15 a.principal_paid.0 ++ (justified 15 a.interest_paid.0 ++ (byte "\n" ∷ [])))))))

-- "H: holder (9), share (9), unit-days (12), received (15)"
unfoldable pub position_line : Position → List ℕ
position_line p =
    byte "H"
    ∷ (justified 9 p.holder
    ++ (justified 9 p.share.0 ++ (justified 12 p.unit_days ++ (justified 15 p.received.0 ++ (byte "\n" ∷ [])))))

-- "in book order"
unfoldable pub position_lines : List Position → List ℕ
position_lines [] = []
position_lines (p ∷ ps) = position_line p ++ position_lines ps

-- "A refusal prints only X, number (3), line (9)."
unfoldable pub refusal_line : (number line : ℕ) → List ℕ
refusal_line number line = byte "X" ∷ (justified 3 number ++ (justified 9 line ++ (byte "\n" ∷ [])))

-- the statement of a book, by its totals and positions; "An accepted file that leaves the book empty prints nothing."
unfoldable pub book_printed : Book → List ℕ
book_printed b =
    cond (eqb (totals_of b).number 0) (totals_line (totals_of b).value.today (totals_of b).value.account ++ position_lines (held b)) []

-- what a load's outcome prints
unfoldable pub printed : Outcome → List ℕ
printed o = cond (eqb o.number 0) (book_printed o.book) (refusal_line o.number o.line)

-- the statement of a file, loaded "on an empty book"
unfoldable pub statement_of : List ℕ → List ℕ
statement_of s = printed (load_of empty_book s)

-- The report, written into a buffer

-- number, and how many bytes were printed
abbrev pub report_stated : Result ℕ Short → ℕ × ℕ
report_stated = stated (λ _. malformed_number) 0

-- the bytes at the buffer's start, the rest as it was; a buffer that not every statement fits into is refused and untouched
unfoldable pub report_of : List ℕ → (buffer : List ℕ) → (ℕ × ℕ) × List ℕ
report_of s buffer =
    cond (leb 3089 (length buffer)) ((0, length (statement_of s)), statement_of s ++ drop (length (statement_of s)) buffer)
    ((malformed_number, 0), buffer)
