-- Demand 3, by induction on the list of calls.
use Rattle.std.proofs.Common.{◌+◌, arith, ◌≡◌, refl, sym, ap, true, not, cond, List, [], ◌∷◌}
use Rattle.std.specs.List.{sum}
use Rattle.general_laws.proofs.Choice.{by-test}
use Rattle.calendar.specs.Calendar.{after}
use Rattle.book_model.specs.declared.Book.{Book}
use Rattle.book_model.specs.Book.{empty_book, held}
use Rattle.book_model.specs.Call.{Opening, Call, Advance, Rate, Transfer, Settle}
use Rattle.book_model.specs.Calls.{book_after, accepts, run}
use Rattle.book_model.specs.Positions.{shares, receipts}
use Rattle.book_model.specs.Reached.{Reached, empty, opens}
use Rattle.book_model.specs.Invariant.{Sound}
use Rattle.book_model.proofs.Callers.{totals_open, order_of, account_after, call-reached, sound, standing, advance_step, transfer_step, settle_step}
use Rattle.conservation.specs.Conservation.{opening_of, feed_of, accepted_cents, Conservation}
use Rattle.conservation.specs.Tally.{Tally, start, day_of_date, entered, fed_with}
use Rattle.conservation.proofs.Agreement.{Agrees, holders-same, shares-same, shares_whole, unit-days-same, receipts-same, positions-read}
use Rattle.conservation.proofs.CallAgrees.{agrees_after, receipts-after}
use Rattle.conservation.proofs.CallCases.{Right, changed, accepted_cases}
use Rattle.conservation.proofs.MoneyConserved.{money_conserved}
use Rattle.conservation.proofs.OpenAgrees.{opened_book, opened_step, opening-is, agrees-opened, receipts-opened}
use Rattle.conservation.proofs.SameTerms.{SameTerms, terms-opened, terms-advanced, terms-transferred, terms-settled, terms-rated}

module _ (o : Opening) (b : Book) (h : Sound b) (t : Tally) (was : SameTerms o b t) where
  terms-changed : (k : Call) → Right b k → SameTerms o (changed b k) (entered o t k)
  terms-changed (Advance date) right = terms-advanced o b _ t was (advance_step b h date right).same (day_of_date o date)
  terms-changed (Rate date annual) _ = terms-rated o b t was date annual (account_after b (order_of b date annual))
  terms-changed (Transfer c a n) _ = terms-transferred o b _ t was (transfer_step b h c a n).same c a n
  terms-changed (Settle m) right = terms-settled o b _ t was (settle_step b h m right).same m

  terms-after : (k : Call) → SameTerms o (book_after b k) (cond (accepts b k) (entered o t k) t)
  terms-after k = accepted_cases b k (λ yes c. SameTerms o c (cond yes (entered o t k) t)) was (terms-changed k)

module _ (o : Opening) where
  -- the invariant: a reached book whose terms and holders are the tally's
  record Joint (b : Book) (t : Tally) : Type 0 where
    reached : Reached b
    terms : SameTerms o b t
    agrees : Agrees b t

  joint_after : (b : Book) (t : Tally) → Joint b t → (k : Call) → Joint (book_after b k) (cond (accepts b k) (entered o t k) t)
  joint_after b t j k =
      record {
        reached = call-reached b j.reached k;
        terms = terms-after o b (sound b j.reached) t j.terms k;
        agrees = agrees_after o b (sound b j.reached) j.terms.first t j.agrees k;
      }

  joint_run : (ks : List Call) (b : Book) (t : Tally) → Joint b t → Joint (run b ks) (fed_with o t (feed_of b ks))
  unfolding run fed_with feed_of
  joint_run [] b t j = j
  joint_run (k ∷ ks) b t j = joint_run ks (book_after b k) _ (joint_after b t j k)

  receipts-run : (ks : List Call) (b : Book) (t : Tally) → Joint b t
      → sum (receipts (held (run b ks))) ≡ sum (receipts (held b)) + accepted_cents (feed_of b ks)
  unfolding run feed_of accepted_cents
  receipts-run [] b t j = omega arith
  receipts-run (k ∷ ks) b t j =
      omega (arith, receipts-after b (sound b j.reached) k, receipts-run ks (book_after b k) _ (joint_after b t j k))

  joint_opened : (opening_of o).answer.number ≡ 0 → Joint (opening_of o).book (start o)
  joint_opened number =
      record {
        reached = opens empty o.first (record { 0 = o.term }) o.annual (record { 0 = o.cents }) o.holders o.shares;
        terms = opening-is o (λ b. SameTerms o b (start o)) (λ _. terms-opened o (opened_book o) (opened_step o)) number;
        agrees = agrees-opened o number;
      }

-- a book whose shares total 1,000,000 is no empty one
open_true : (b : Book) → Sound b → sum (shares (held b)) ≡ 1000000 → b.opened ≡ true
unfolding empty_book
open_true b h whole = by-test b.opened (λ e. e) (λ not_yet. absurd (cc (h.empty-before not_yet)))

pub conserved : Conservation
conserved o ks number =
    let first = (opening_of o).book in
    let b = run first ks in
    let t = fed_with o (start o) (feed_of first ks) in
    let opened = joint_opened o number in
    let joint = joint_run o ks first (start o) opened in
    let agrees = joint.agrees in
    let kept = sound b joint.reached in
    let is_open = open_true b kept (shares_whole b t agrees) in
    let known = kept.when_open is_open in
    let money = money_conserved o b t (standing b joint.reached) joint.terms agrees.today agrees.settlements in
    record {
      shares_whole = shares_whole b t agrees;
      holders-same = holders-same b t agrees;
      shares-same = shares-same b t agrees;
      holders-distinct = known.holders-distinct;
      principal-whole = money.principal-whole;
      interest-whole = money.interest-whole;
      fraction-below = known.bounded.below;
      receipts-whole = omega (arith, receipts-run o ks first (start o) opened, receipts-opened o number);
      receipts-same = receipts-same b t agrees;
      unit-days-same = unit-days-same b t agrees;
      opened-same = is_open;
      first-same = joint.terms.first;
      today-same = agrees.today;
      outstanding-same = money.outstanding-same;
      due-same = money.due-same;
      principal-same = money.principal-same;
      interest-same = money.interest-same;
      positions-read = positions-read b t agrees known is_open;
      totals-read = sym (totals_open b (ap not is_open) (after o.first t.today) (rw (joint.terms.first, agrees.today) refl));
    }
