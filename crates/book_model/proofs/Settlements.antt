-- A settlement that is accepted, and the book after it, put together from its parts.
use Rattle.std.proofs.Common.{ℕ, ◌≤◌, ◌<◌, ◌≡◌, sym, ap, ◌∙◌, true, List, ◌++◌, le-ltb, drop}
use Rattle.std.proofs.lemmas.Bool.{lt-leb}
use Rattle.apportionment.specs.Apportionment.{part}
use Rattle.account.specs.declared.Account.{Account}
use Rattle.book_model.specs.declared.Book.{Book}
use Rattle.account.specs.declared.Cents.{Cents}
use Rattle.book_model.specs.declared.Position.{Position}
use Rattle.account.specs.Accrual.{paid_off, worth}
use Rattle.book_model.specs.Advance.{last_settled}
use Rattle.book_model.specs.Book.{held, with_account, with_settlement}
use Rattle.book_model.specs.Outcome.{accept}
use Rattle.book_model.specs.Positions.{paid_from, unit_days_column}
use Rattle.book_model.specs.Settle.{settled_today, settled_book, taken_of, settled}
use Rattle.book_model.proofs.ChangedBook.{Roomy, length-held}
use Rattle.book_model.proofs.Filled.{with_array, stored-held}
use Rattle.book_model.proofs.Paid.{length-paid}

pub accepted : (b : Book) (m : Cents) → b.opened ≡ true → m.0 ≤ 100000000000 → b.settled < 240 → last_settled b < b.today.0 → m.0 ≤ worth b.account
    → accept (taken_of b m.0) (settled_book b m.0) ≡ settled b m
unfolding settled
accepted b m is_open amount room since owed =
    rw (
      is_open,
      le-ltb 100000000000 m.0 amount,
      lt-leb 240 b.settled room,
      lt-leb b.today.0 (last_settled b) since,
      le-ltb (worth b.account) m.0 owed,
    )

-- the book after a settlement of m cents, put together from its array of positions and its account
pub put-together : (b : Book) → Roomy b → (m : ℕ) (ps : List Position) (a : Account)
    → ps ≡ paid_from (part m (unit_days_column (held b))) 0 (held b) ++ drop b.count b.positions → a ≡ paid_off m b.account
    → with_settlement (with_account (with_array b ps) a) (settled_today b m) ≡ settled_book b m
unfolding settled_book
put-together b room m ps a e f =
    let paid = paid_from (part m (unit_days_column (held b))) 0 (held b) in
    let as_many = length-paid (part m (unit_days_column (held b))) 0 (held b) ∙ length-held b room in
    rw f (ap (λ (n : Book). with_settlement (with_account n (paid_off m b.account)) (settled_today b m)) (stored-held b paid b.count ps as_many (sym e)))
