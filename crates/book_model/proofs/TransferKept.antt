-- Transfer keeps a book sound.
use Rattle.std.proofs.Common.{ℕ, ◌≤◌, arith, ◌≡◌, ◌∙◌, length, length-append, length-drop}
use Rattle.book_model.specs.declared.Book.{Book}
use Rattle.book_model.specs.declared.Parts.{Parts}
use Rattle.book_model.specs.Book.{held, with_held}
use Rattle.book_model.specs.Invariant.{Sound, OpenSound}
use Rattle.book_model.specs.Transfer.{transferred}
use Rattle.book_model.proofs.Accepted.{TransferRight, transfer_cases}
use Rattle.book_model.proofs.Assigned.{assigned, shares-kept, unit_days_kept, receipts-kept, holders_right_kept, distinct-kept}
use Rattle.book_model.proofs.Assigned.{length_least, length_most}
use Rattle.book_model.proofs.ChangedBook.{length-held, held-with_held}

module _ (b : Book) (h : Sound b) (c a n : ℕ) (right : TransferRight b c a n) where
  was : OpenSound b
  was = h.when_open right.is_open

  same_count : length (held b) ≡ b.count
  same_count = length-held b (omega (arith, was.positions-most, h.room-positions))

  count_most : length (assigned c a n (held b)) ≤ 64
  count_most =
      length_most c a n (held b) 64 (omega (arith, same_count, was.positions-most))
      (λ away. omega (arith, same_count, right.place-free away))

  open_assigned : OpenSound (with_held b (assigned c a n (held b)))
  unfolding with_held
  open_assigned =
      let changed = held-with_held b (assigned c a n (held b)) in
      record {
        first-date = was.first-date;
        first-early = was.first-early;
        term-most = was.term-most;
        within-term = was.within-term;
        settlement_near = was.settlement_near;
        recognised-most = was.recognised-most;
        bounded = was.bounded;
        principal-whole = was.principal-whole;
        rates-most = was.rates-most;
        priced = was.priced;
        from_start = was.from_start;
        begun = was.begun;
        settlements-most = was.settlements-most;
        timely = was.timely;
        received-most = was.received-most;
        positions-some = omega (arith, length_least c a n (held b), same_count, was.positions-some);
        positions-most = count_most;
        holders-right = rw changed (holders_right_kept c a n (held b) right.assignee-right was.holders-right);
        holders-distinct = rw changed (distinct-kept c a n (held b) was.holders-distinct);
        shares_whole = rw changed (shares-kept c a n (held b) right.parts-most ∙ was.shares_whole);
        days-held = rw changed (unit_days_kept c a n (held b) ∙ was.days-held);
        receipts-whole = rw changed (receipts-kept c a n (held b) ∙ was.receipts-whole);
      }

  sound-assigned : Sound (with_held b (assigned c a n (held b)))
  unfolding with_held
  sound-assigned =
      record {
        room-positions = rw (length-append, length-drop) (omega (arith, count_most, h.room-positions));
        room-settlements = h.room-settlements;
        room-rates = h.room-rates;
        empty-before = λ shut. cc;
        when_open = λ _. open_assigned;
      }

pub transfer-kept : (b : Book) → Sound b → (c a : ℕ) (n : Parts) → Sound (transferred b c a n).book
transfer-kept b h c a n = transfer_cases b c a n (λ o. Sound o.book) (λ _. h) (sound-assigned b h c a n.0)
