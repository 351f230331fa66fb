-- Settle keeps a book sound.
use Rattle.std.proofs.Common.{ℕ, ◌+◌, arith, add-one, ◌≡◌, ◌∙◌, [], ◌∷◌, ◌++◌, length-append, length-drop, length-set, take-suc-set}
use Rattle.std.proofs.lemmas.List.{map-append}
use Rattle.std.specs.List.{sum}
use Rattle.std.proofs.lemmas.List.Sums.{sum_by_push}
use Rattle.book_model.specs.declared.Book.{Book}
use Rattle.account.specs.declared.Cents.{Cents}
use Rattle.book_model.specs.Advance.{last_settled}
use Rattle.book_model.specs.Book.{settlements_of, with_held, with_account, with_settlement}
use Rattle.book_model.specs.Settle.{settled_today, settled_book, settled}
use Rattle.book_model.specs.Invariant.{Sound, OpenSound, settled_cents}
use Rattle.book_model.proofs.Accepted.{SettleRight, settle_cases}
use Rattle.account.proofs.Callers.{bounded-paid, paid_principal_kept, last-joined, timely-joined}
use Rattle.book_model.proofs.Paid.{count-settled, holders-settled, shares-settled, unit_days_settled, receipts-settled}

module _ (b : Book) (h : Sound b) (m : ℕ) (right : SettleRight b m) where
  was : OpenSound b
  was = h.when_open right.is_open

  pub settlements-settled : settlements_of (settled_book b m) ≡ settlements_of b ++ (settled_today b m ∷ [])
  unfolding settled_book with_settlement with_account with_held
  settlements-settled =
      rw (add-one b.settled)
      (take-suc-set b.settlements b.settled (settled_today b m) (omega (arith, right.place-free, h.room-settlements)))

  last-settled : last_settled (settled_book b m) ≡ b.today.0
  last-settled = rw settlements-settled (last-joined 0 (settlements_of b) (settled_today b m))

  cents-settled : sum (settled_cents (settlements_of (settled_book b m))) ≡ sum (settled_cents (settlements_of b)) + m
  cents-settled = rw (settlements-settled, map-append) (sum_by_push (λ (n : ℕ). n) (settled_cents (settlements_of b)) m)

  same_count : (settled_book b m).count ≡ b.count
  same_count = count-settled b m (omega (arith, was.positions-most, h.room-positions))

  open_settled : OpenSound (settled_book b m)
  unfolding settled_book with_settlement with_account with_held
  open_settled =
      record {
        first-date = was.first-date;
        first-early = was.first-early;
        term-most = was.term-most;
        within-term = was.within-term;
        settlement_near = omega (arith, last-settled);
        recognised-most = was.recognised-most;
        bounded = bounded-paid b.today.0 m b.account right.owed was.bounded;
        principal-whole = paid_principal_kept m b.account right.owed ∙ was.principal-whole;
        rates-most = was.rates-most;
        priced = was.priced;
        from_start = was.from_start;
        begun = was.begun;
        settlements-most = omega (arith, right.place-free);
        timely =
            rw settlements-settled
            (timely-joined 0 (settlements_of b) (settled_today b m) b.today.0 right.day-held (omega arith) was.timely);
        received-most = omega (arith, cents-settled, was.received-most, right.cents-most);
        positions-some = rw same_count was.positions-some;
        positions-most = rw same_count was.positions-most;
        holders-right = rw (holders-settled b m) was.holders-right;
        holders-distinct = rw (holders-settled b m) was.holders-distinct;
        shares_whole = rw (shares-settled b m) was.shares_whole;
        days-held = omega (arith, unit_days_settled b m, last-settled);
        receipts-whole =
            omega (arith, receipts-settled b m (omega (arith, was.days-held, right.day-held)), cents-settled, was.receipts-whole);
      }

  sound-settled : Sound (settled_book b m)
  unfolding settled_book with_settlement with_account with_held
  sound-settled =
      record {
        room-positions = rw (length-append, length-drop) (omega (arith, same_count, was.positions-most, h.room-positions));
        room-settlements = rw length-set h.room-settlements;
        room-rates = h.room-rates;
        empty-before = λ shut. cc;
        when_open = λ _. open_settled;
      }

pub settle-kept : (b : Book) → Sound b → (m : Cents) → Sound (settled b m).book
settle-kept b h m = settle_cases b m (λ o. Sound o.book) (λ _. h) (sound-settled b h m.0)
