-- A reached open book comes from an accepted opening and a list of calls, so demand 3 holds of it.
use Rattle.std.proofs.Common.{ℕ, ◌≡◌, refl, sym, ap, ◌∙◌, subst, true, List, [], ◌∷◌, ◌++◌}
use Rattle.general_laws.proofs.Choice.{by-test}
use Rattle.book_model.specs.declared.Book.{Book}
use Rattle.account.specs.declared.Cents.{Cents}
use Rattle.account.specs.declared.Day.{Day}
use Rattle.book_model.specs.Book.{empty_book}
use Rattle.book_model.specs.Call.{Opening, Call, Advance, Rate, Transfer, Settle}
use Rattle.book_model.specs.Calls.{book_after, run}
use Rattle.book_model.specs.Open.{opened}
use Rattle.book_model.specs.Outcome.{Outcome}
use Rattle.book_model.specs.Reached.{Reached, empty, opens, advances, rates, transfers, settles}
use Rattle.book_model.specs.Invariant.{Sound}
use Rattle.book_model.proofs.Callers.{open_cases, sound}
use Rattle.conservation.specs.Conservation.{opening_of, feed_of, Conserved, History, ReachedConserved}
use Rattle.conservation.specs.Tally.{start, fed_with}
use Rattle.conservation.proofs.CallCases.{right-open, call_cases}
use Rattle.conservation.proofs.Conserved.{conserved}

-- History without its last field, which follows
record Origin (b : Book) : Type 0 where
  from : Opening
  accepted : (opening_of from).answer.number ≡ 0
  calls : List Call
  made : b ≡ run (opening_of from).book calls

history : (b : Book) → Origin b → History b
history b h =
    let first = (opening_of h.from).book in
    record {
      from = h.from;
      accepted = h.accepted;
      calls = h.calls;
      made = h.made;
      conserved =
          subst (λ c. Conserved h.from c (fed_with h.from (start h.from) (feed_of first h.calls)) (feed_of first h.calls)) (sym h.made)
          (conserved h.from h.calls h.accepted);
    }

-- One call more

run_more : (ks : List Call) (k : Call) (b : Book) → run b (ks ++ (k ∷ [])) ≡ book_after (run b ks) k
unfolding run
run_more [] k b = refl
run_more (j ∷ ks) k b = run_more ks k (book_after b j)

module _ (b : Book) where
  -- a call on a book that is not open does not open it
  open_before : (k : Call) → (book_after b k).opened ≡ true → b.opened ≡ true
  open_before k = call_cases b k (λ _ c. c.opened ≡ true → b.opened ≡ true) (λ _ e. e) (λ right _. right-open b k right)

  origin-after : (b.opened ≡ true → Origin b) → (k : Call) → (book_after b k).opened ≡ true → Origin (book_after b k)
  origin-after before k e =
      let h = before (open_before k e) in
      record {
        from = h.from;
        accepted = h.accepted;
        calls = h.calls ++ (k ∷ []);
        made = ap (λ c. book_after c k) h.made ∙ sym (run_more h.calls k (opening_of h.from).book);
      }

-- Open

module _ (first : ℕ) (term : Day) (annual : ℕ) (cents : Cents) (hs ss : List ℕ) where
  abbrev opened_from : Book → Outcome (Unit {0})
  opened_from b = opened b first term annual cents hs ss

  opened-accepted : (opened_from empty_book).book.opened ≡ true → (opened_from empty_book).answer.number ≡ 0
  unfolding empty_book
  opened-accepted =
      open_cases empty_book first term annual cents hs ss (λ (r : Outcome (Unit {0})). r.book.opened ≡ true → r.answer.number ≡ 0)
      (λ _ e. cc) (λ _ _. refl)

  origin-opened : (opened_from empty_book).book.opened ≡ true → Origin (opened_from empty_book).book
  unfolding run
  origin-opened e =
      record {
        from = record { first = first; term = term.0; annual = annual; cents = cents.0; holders = hs; shares = ss };
        accepted = opened-accepted e;
        calls = [];
        made = refl;
      }

  open_refuses : (b : Book) → b.opened ≡ true → (opened_from b).book ≡ b
  unfolding opened
  open_refuses b e = rw e

  -- an open book refuses, and another is the empty one
  origin_open : (b : Book) → Sound b → (b.opened ≡ true → Origin b) → (opened_from b).book.opened ≡ true → Origin (opened_from b).book
  origin_open b h before =
      by-test b.opened
      (λ already _. subst Origin (sym (open_refuses b already)) (before already))
      (λ not_yet.
      subst (λ c. (opened_from c).book.opened ≡ true → Origin (opened_from c).book) (sym (h.empty-before not_yet)) origin-opened)

origin : {b : Book} → Reached b → b.opened ≡ true → Origin b
unfolding empty_book
origin empty e = cc
origin (opens r first term annual cents hs ss) e = origin_open first term annual cents hs ss _ (sound _ r) (λ was. origin r was) e
origin (advances r date) e = origin-after _ (λ was. origin r was) (Advance date) e
origin (rates r date annual) e = origin-after _ (λ was. origin r was) (Rate date annual) e
origin (transfers r cedent assignee parts) e = origin-after _ (λ was. origin r was) (Transfer cedent assignee parts.0) e
origin (settles r cents) e = origin-after _ (λ was. origin r was) (Settle cents.0) e

pub reached-conserved : ReachedConserved
reached-conserved b r e = history b (origin r e)
