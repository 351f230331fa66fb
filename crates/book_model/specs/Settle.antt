-- Settle (document 01): "Settle M cents, today; M may be 0."
use Rattle.std.specs.Prelude.{ℕ, cond, not, leb, ltb}
use Rattle.apportionment.specs.Apportionment.{part}
use Rattle.book_model.specs.declared.Book.{Book}
use Rattle.account.specs.declared.Cents.{Cents}
use Rattle.book_model.specs.declared.Refusal.TheVariants as refusal
use Rattle.book_model.specs.declared.Taken.{Taken}
use Rattle.account.specs.declared.Settlement.{Settlement}
use Rattle.account.specs.Accrual.{interest_of, principal_of, paid_off, worth}
use Rattle.book_model.specs.Advance.{last_settled}
use Rattle.book_model.specs.Book.{held, with_held, with_account, with_settlement}
use Rattle.book_model.specs.Outcome.{Outcome, nothing_taken, accept, refuse}
use Rattle.book_model.specs.Positions.{paid_from, unit_days_column}

-- "Let W be all unit-days since the last settlement and w a position's. Each receives M × w divided by W, rounded down; the cents left over
-- go one each to the greatest remainders, earlier position first among equals."
abbrev pub paid_out : Book → ℕ → Book
paid_out b m = with_held b (paid_from (part m (unit_days_column (held b))) 0 (held b))

abbrev pub settled_today : Book → ℕ → Settlement
settled_today b m = record { day = b.today; cents = record { 0 = m } }

-- the positions paid, the account paid off, the settlement put down
unfoldable pub settled_book : Book → ℕ → Book
settled_book b m = with_settlement (with_account (paid_out b m) (paid_off m b.account)) (settled_today b m)

-- "Answers interest and principal taken."
abbrev pub taken_of : Book → ℕ → Taken
taken_of b m =
    record { interest = record { 0 = interest_of m b.account }; principal = record { 0 = principal_of m b.account } }

unfoldable pub settled : Book → Cents → Outcome Taken
settled b m =
    cond (not b.opened) (refuse nothing_taken b refusal.Unopened)
    -- 5: "Settle: over 10^11"
    (cond (ltb 100000000000 m.0) (refuse nothing_taken b refusal.Amount)
    -- 12: "a 241st settlement"
    (cond (leb 240 b.settled) (refuse nothing_taken b refusal.BookFull)
    -- 13: "Settle with no day since the last settlement"
    (cond (leb b.today.0 (last_settled b)) (refuse nothing_taken b refusal.NoDayHeld)
    -- 14: "M over due plus outstanding"
    (cond (ltb (worth b.account) m.0) (refuse nothing_taken b refusal.Overpaid)
    (accept (taken_of b m.0) (settled_book b m.0))))))
