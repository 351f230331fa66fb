-- The statements of the paper's file, of the empty one and of an E line alone: what they print by the loads' own theorems, the digits by computation.
use Rattle.std.proofs.Common.{ℕ, ◌≡◌, refl, ap, ◌∙◌, List, [], ◌++◌, length, replicate}
use Rattle.std.specs.Prelude.{codes}
use Rattle.account.specs.declared.Account.{Account}
use Rattle.book_model.specs.declared.Totals.{Totals}
use Rattle.book_model.specs.declared.Position.{Position}
use Rattle.book_model.specs.Book.{empty_book, held}
use Rattle.book_model.specs.Outcome.{answered}
use Rattle.book_model.specs.Read.{totals_of}
use Rattle.line.specs.Field.{padded, justified}
use Rattle.file_model.specs.Examples.{paper_file, loaded}
use Rattle.file_model.specs.Load.{Outcome}
use Rattle.file_model.specs.Loads.{end_alone_file}
use Rattle.file_model.proofs.Callers as loads
use Rattle.report.specs.Statement.{totals_line, position_line, position_lines, refusal_line, book_printed, printed, statement_of, report_of}
use Rattle.report.specs.Statements.{paper_statement, empty_file_statement}
use Rattle.report.proofs.StatementLengths.{empty_prints_nothing}

figures-printed : (o : Outcome) (today : ℕ) (a : Account) (ps : List Position) → o.number ≡ 0
    → totals_of o.book ≡ answered {A = Totals} (record { today = today; account = a }) → held o.book ≡ ps
    → printed o ≡ totals_line today a ++ position_lines ps
unfolding printed book_printed
figures-printed o today a ps number totals positions = rw (number, totals, positions)

-- the digits of each figure

pub figures-apart :
    totals_line 20140131
    (record { outstanding = record { 0 = 1 }; due = record { 0 = 2 }; fraction = 3; principal_paid = record { 0 = 4 }; interest_paid = record { 0 = 5 } })
    ≡ codes "B20140131              1              2          3              4              5\n"
unfolding totals_line justified padded
figures-apart = refl

pub position-apart :
    position_line (record { holder = 1; share = record { 0 = 2 }; unit_days = 3; received = record { 0 = 4 } })
    ≡ codes "H        1        2           3              4\n"
unfolding position_line justified padded
position-apart = refl

-- The three files

pub paper_printed : statement_of paper_file ≡ paper_statement
unfolding statement_of totals_line position_line position_lines justified padded
paper_printed =
    figures-printed (loaded paper_file) _ _ _ (loads.examples).paper_accepted (loads.examples).paper_totals (loads.examples).paper_positions

pub empty_file_printed : statement_of [] ≡ empty_file_statement
unfolding statement_of printed refusal_line justified padded
empty_file_printed = ap printed (loads.examples).empty-file

pub end_alone_printed : statement_of end_alone_file ≡ []
unfolding statement_of printed empty_book
end_alone_printed = ap printed (loads.end_alone empty_book) ∙ empty_prints_nothing empty_book refl

-- By the statement's length: the buffer's own is computed

pub just-fits : (report_of [] (replicate 3089 0)).0 ≡ (0, 14)
unfolding report_of
just-fits = ap (λ (t : List ℕ). (0, length t)) empty_file_printed

pub short_by_one : (report_of [] (replicate 3088 0)).0 ≡ (21, 0)
unfolding report_of
short_by_one = refl
