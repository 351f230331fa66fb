-- Open keeps a book sound.
use Rattle.std.proofs.Common.{ℕ, arith, ◌≡◌, refl, List, [], ◌∷◌, length, drop, length-append, length-drop, length-set, take-suc-set}
use Rattle.std.proofs.Math.Seq.{take-append_seam}
use Rattle.book_model.specs.declared.Book.{Book}
use Rattle.account.specs.declared.Cents.{Cents}
use Rattle.account.specs.declared.Day.{Day}
use Rattle.book_model.specs.Book.{empty_book, held, rates_of, order_from}
use Rattle.account.specs.Opening.{opening}
use Rattle.book_model.specs.Open.{founded, new_book, opened}
use Rattle.account.specs.Schedule.{last_day}
use Rattle.book_model.specs.Invariant.{Sound, OpenSound}
use Rattle.book_model.proofs.Accepted.{OpenRight, open_cases}
use Rattle.account.proofs.Callers.{bounded-opening}
use Rattle.book_model.proofs.Founded.{length-founded, founded-holders, founded-shares, founded_unit_days, founded-receipts}

empty-positions : length empty_book.positions ≡ 64
unfolding empty_book
empty-positions = refl

empty-settlements : length empty_book.settlements ≡ 240
unfolding empty_book
empty-settlements = refl

empty-rates : length empty_book.rates ≡ 16
unfolding empty_book
empty-rates = refl

module _ (b : Book) (h : Sound b) (first : ℕ) (term : Day) (annual : ℕ) (cents : Cents) (hs ss : List ℕ) where
  abbrev new : Book
  new = new_book first term annual cents hs ss

  pub held_new : held new ≡ founded hs ss
  unfolding new_book
  held_new = take-append_seam (founded hs ss) (drop (length (founded hs ss)) empty_book.positions)

  pub rates-new : rates_of new ≡ order_from 0 annual ∷ []
  unfolding new_book
  rates-new = take-suc-set empty_book.rates 0 (order_from 0 annual) (omega (arith, empty-rates))

  module _ (right : OpenRight b first term annual cents hs ss) where
    count-new : new.count ≡ length hs
    unfolding new_book
    count-new = length-founded hs ss right.financing.one_length

    open_new : OpenSound new
    unfolding new_book opening last_day
    open_new =
        let financing = right.financing in
        let named = founded-holders hs ss financing.one_length in
        record {
          first-date = right.is-date;
          first-early = right.first-early;
          term-most = right.term-most;
          within-term = omega arith;
          settlement_near = omega arith;
          recognised-most = right.cents-most;
          bounded = bounded-opening cents.0 right.cents-most;
          principal-whole = omega arith;
          rates-most = omega arith;
          priced = rw rates-new (right.annual-most, refl, tt);
          from_start = rw rates-new (refl, tt);
          begun = rw rates-new (omega arith, tt);
          settlements-most = omega arith;
          timely = omega arith;
          received-most = omega arith;
          positions-some = omega (arith, count-new, financing.some);
          positions-most = omega (arith, count-new, financing.few);
          holders-right = rw (held_new, named) financing.holders-right;
          holders-distinct = rw (held_new, named) financing.holders-distinct;
          shares_whole = rw (held_new, founded-shares hs ss financing.one_length) financing.shares_whole;
          days-held = rw held_new (omega (arith, founded_unit_days hs ss));
          receipts-whole = rw held_new (omega (arith, founded-receipts hs ss));
        }

    sound-new : Sound new
    unfolding new_book
    sound-new =
        record {
          room-positions = rw (length-append, length-drop) (omega (arith, count-new, right.financing.few, empty-positions));
          room-settlements = empty-settlements;
          room-rates = rw length-set empty-rates;
          empty-before = λ shut. cc;
          when_open = λ _. open_new;
        }

  pub open_kept : Sound (opened b first term annual cents hs ss).book
  open_kept = open_cases b first term annual cents hs ss (λ o. Sound o.book) (λ _. h) sound-new
