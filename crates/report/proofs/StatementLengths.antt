-- The lengths of the lines and of a statement.
use Rattle.std.proofs.Common.{ℕ, ◌*◌, ◌+◌, ◌≤◌, arith, ◌≡◌, refl, true, false, List, [], ◌∷◌, eqb, length, length-append}
use Rattle.account.specs.declared.Account.{Account}
use Rattle.book_model.specs.declared.Book.{Book}
use Rattle.book_model.specs.declared.Position.{Position}
use Rattle.book_model.specs.Book.{empty_book, held}
use Rattle.book_model.specs.Reached.{empty}
use Rattle.book_model.specs.Invariant.{Sound}
use Rattle.book_model.specs.Read.{totals_of}
use Rattle.general_laws.proofs.Choice.{by-test, choice}
use Rattle.book_model.proofs.Callers.{length-held, sound}
use Rattle.line.proofs.Callers.{length-justified}
use Rattle.file_model.specs.Load.{load_of}
use Rattle.file_model.proofs.Callers.{reached-kept}
use Rattle.report.specs.Statement.{totals_line, position_line, position_lines, refusal_line, book_printed, printed, statement_of}

-- Lines

pub totals-length : (today : ℕ) (a : Account) → length (totals_line today a) ≡ 81
unfolding totals_line
totals-length today a = simp (length-append, length-justified)

pub position-length : (p : Position) → length (position_line p) ≡ 47
unfolding position_line
position-length p = simp (length-append, length-justified)

pub positions-length : (ps : List Position) → length (position_lines ps) ≡ length ps * 47
unfolding position_lines
positions-length [] = refl
positions-length (p ∷ ps) = simp (length-append, position-length, positions-length ps) (omega arith)

pub refusal_length : (number line : ℕ) → length (refusal_line number line) ≡ 14
unfolding refusal_line
refusal_length number line = simp (length-append, length-justified)

-- The statement of a book

pub book-length : (b : Book) → b.opened ≡ true → length (book_printed b) ≡ 81 + length (held b) * 47
unfolding book_printed totals_of
book-length b is_open = rw is_open (simp (length-append, totals-length, positions-length))

pub empty_prints_nothing : (b : Book) → b.opened ≡ false → book_printed b ≡ []
unfolding book_printed totals_of
empty_prints_nothing b shut = rw shut

pub sound-fits : (b : Book) → Sound b → length (book_printed b) ≤ 81 + 64 * 47
sound-fits b h =
    by-test b.opened
    (λ is_open.
    let most = (h.when_open is_open).positions-most in
    omega (arith, book-length b is_open, length-held b (omega (arith, most, h.room-positions))))
    (λ shut. rw (empty_prints_nothing b shut) (omega arith))

-- The statement of a file

pub statement-fits : (s : List ℕ) → length (statement_of s) ≤ 81 + 64 * 47
unfolding statement_of printed
statement-fits s =
    let o = load_of empty_book s in
    choice (λ (p : List ℕ). length p ≤ 81 + 64 * 47) (eqb o.number 0)
    (λ _. sound-fits o.book (sound o.book (reached-kept empty_book s empty)))
    (λ _. omega (arith, refusal_length o.number o.line))
