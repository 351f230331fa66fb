-- Calls and open books: an accepted opening opens, a call leaves an open book open, and none is accepted on another.
use Rattle.std.proofs.Common.{ℕ, zero, suc, arith, ◌≡◌, refl, ◌∙◌, true}
use Rattle.book_model.specs.declared.Book.{Book}
use Rattle.book_model.specs.Advance.{day_passed, days_passed}
use Rattle.book_model.specs.Book.{empty_book, with_held, with_account, with_today, with_settlement}
use Rattle.book_model.specs.Call.{Opening, Call, Advance, Rate, Transfer, Settle}
use Rattle.book_model.specs.Calls.{opened_with, book_after, number_of}
use Rattle.book_model.specs.Open.{new_book, opened}
use Rattle.book_model.specs.Rate.{with_rates}
use Rattle.book_model.specs.Settle.{settled_book}
use Rattle.book_model.proofs.Callers.{no_refusal_is_0}
use Rattle.conservation.specs.Conservation.{opening_of}
use Rattle.conservation.proofs.Callers.{changed, right-open, call_cases, opening-is}

days_open : (n : ℕ) (b : Book) → (days_passed n b).opened ≡ b.opened
unfolding days_passed day_passed with_held with_account with_today
days_open zero b = refl
days_open (suc n) b = days_open n b

module _ (b : Book) (is_open : b.opened ≡ true) where
  -- a call leaves it open
  changed-open : (k : Call) → (changed b k).opened ≡ true
  unfolding with_rates with_held settled_book with_settlement with_account
  changed-open (Advance date) = days_open _ b ∙ is_open
  changed-open (Rate date annual) = is_open
  changed-open (Transfer c a n) = is_open
  changed-open (Settle m) = is_open

  pub stays_open : (k : Call) → (book_after b k).opened ≡ true
  stays_open k = call_cases b k (λ _ c. c.opened ≡ true) (λ _. is_open) (λ _. changed-open k)

  -- Open is refused on it
  pub opening-refused : (o : Opening) → (opened_with b o).answer.number ≡ 0 → ⊥
  unfolding opened
  opening-refused o e = let h = rw is_open at e in omega arith

-- on another none is accepted
pub call_on_empty : (k : Call) → number_of empty_book k ≡ 0 → ⊥
unfolding empty_book
call_on_empty k = call_cases empty_book k (λ n _. n ≡ 0 → ⊥) no_refusal_is_0 (λ right _. cc (right-open empty_book k right))

pub opening-opens : (o : Opening) → (opening_of o).answer.number ≡ 0 → (opening_of o).book.opened ≡ true
unfolding new_book
opening-opens o = opening-is o (λ b. b.opened ≡ true) (λ _. refl)
