-- What puts a book's lines, and a file's statement, at a buffer's front.
use Rattle.std.proofs.Common.{ℕ, ◌+◌, ◌≤◌, ◌≡◌, refl, sym, ap, ◌∙◌, List, ◌++◌, append_assoc, zero-add, arith, le-leb, length, take, drop, length-append, length-take-le}
use Rattle.std.specs.Array.{IsFirstChunk}
use Rattle.std.proofs.lemmas.List.Edits.{sets, sets-eq}
use Rattle.std.proofs.lemmas.List.{drop-append-le, take-append-drop}
use Rattle.account.specs.declared.Account.{Account}
use Rattle.general_laws.proofs.Stores.{sets_append_at}
use Rattle.report.specs.Statement.{totals_line, statement_of, report_of}
use Rattle.report.proofs.StatementLengths.{totals-length, refusal_length, statement-fits}

-- A book

-- what stands behind the B line
pub behind_totals : (out ys : List ℕ) (today : ℕ) (a : Account)
    → sets out 0 (totals_line today a ++ ys) ≡ sets (sets out 0 (totals_line today a)) 81 ys
behind_totals out ys today a = sets_append_at (totals_line today a) ys out 0 81 (totals-length today a)

pub with_totals : (ys : List ℕ) (today : ℕ) (a : Account) → length (totals_line today a ++ ys) ≡ 81 + length ys
with_totals ys today a = rw (length-append, totals-length)

pub ruleset book_put = (behind_totals, with_totals)

-- A file

pub stored_at_front : (bytes out : List ℕ) → length bytes ≤ length out → sets out 0 bytes ≡ bytes ++ drop (length bytes) out
stored_at_front bytes out fits =
    sets-eq bytes out 0 (omega arith) ∙ ap (λ (k : ℕ). bytes ++ drop k out) (zero-add (length bytes))

pub ruleset statement_put = (stored_at_front, statement-fits, refusal_length)

-- A report: a statement put into a buffer's first bytes

pub report_put : (file out front now : List ℕ) (count : ℕ) → IsFirstChunk out front 3089
    → (count ≡ length (statement_of file)) × (now ≡ statement_of file ++ drop (length (statement_of file)) front)
    → ◌≡◌ {A = ℕ × ℕ} (0, count) (report_of file out).0 × (now ++ drop 3089 out ≡ (report_of file out).1)
unfolding report_of
report_put file out front now count first (e, f) =
    let s : List ℕ = statement_of file in
    let fits : length s ≤ length (take 3089 out) = rw (length-take-le 3089 out first.enough) (statement-fits file) in
    let rest : drop (length s) out ≡ drop (length s) (take 3089 out) ++ drop 3089 out =
    ap (λ (l : List ℕ). drop (length s) l) (sym (take-append-drop 3089 out)) ∙ drop-append-le (length s) (take 3089 out) (drop 3089 out) fits in
    rw (le-leb 3089 (length out) first.enough, e, f, first.same, rest, append_assoc) (refl, refl)
