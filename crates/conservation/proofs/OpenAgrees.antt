-- An accepted opening agrees with the tally's start.
use Rattle.std.proofs.Common.{◌≡◌, refl, sym, ap, ◌∙◌, map}
use mathlib.Core.List.{map-map}
use Rattle.std.specs.List.{sum}
use Rattle.general_laws.specs.Sums.{sum_below}
use Rattle.book_model.specs.declared.Book.{Book}
use Rattle.book_model.specs.Book.{empty_book, fresh, held}
use Rattle.conservation.specs.Conservation.{opening_of}
use Rattle.book_model.specs.Open.{founded, new_book}
use Rattle.book_model.specs.Outcome.{Outcome}
use Rattle.book_model.specs.Positions.{shares, receipts}
use Rattle.account.specs.Standing.{settled_on}
use Rattle.book_model.specs.Call.{Opening}
use Rattle.conservation.specs.Tally.{listed, start, share_days, last_before, portion_on, received, unit_days_of}
use Rattle.book_model.proofs.Callers.{open_cases, no_refusal_is_0, Financed, founded-shares, founded-receipts, empty-sound, OpenStep, open_step}
use Rattle.conservation.proofs.Agreement.{Agrees}
use Rattle.conservation.proofs.ByHolder.{founded-is, listed-none}

module _ (o : Opening) where
  module _ (c : Book) (step : OpenStep o.first (record { 0 = o.term }) o.annual (record { 0 = o.cents }) o.holders o.shares c)
      (financed : Financed o.holders o.shares) where
    positions_are : founded o.holders o.shares ≡ map (λ h. fresh h (listed o.holders o.shares h)) o.holders
    positions_are = founded-is o.holders o.shares financed.one_length financed.holders-distinct

    shares_are : sum (map (listed o.holders o.shares) o.holders) ≡ 1000000
    shares_are =
        sym (ap (λ ps. sum (shares ps)) positions_are ∙ ap sum (map-map (λ p. p.share.0) (λ h. fresh h (listed o.holders o.shares h)) o.holders))
        ∙ ap sum (founded-shares o.holders o.shares financed.one_length)
        ∙ financed.shares_whole

    agrees-founded : Agrees c (start o)
    unfolding start last_before unit_days_of share_days received portion_on sum_below settled_on
    agrees-founded =
        record {
          today = step.today;
          positions = step.positions ∙ positions_are;
          settlements = λ d. rw step.settlements;
          absent = λ h d away. listed-none o.holders o.shares h away;
          lasting = λ h d le. refl;
          whole = λ d. shares_are;
        }

  -- the book that an accepted opening gives
  abbrev pub opened_book : Book
  opened_book = new_book o.first (record { 0 = o.term }) o.annual (record { 0 = o.cents }) o.holders o.shares

  pub opened_step : OpenStep o.first (record { 0 = o.term }) o.annual (record { 0 = o.cents }) o.holders o.shares opened_book
  opened_step = open_step empty_book empty-sound o.first (record { 0 = o.term }) o.annual (record { 0 = o.cents }) o.holders o.shares

  pub opening-is : (P : Book → Type 0) → (Financed o.holders o.shares → P opened_book) → (opening_of o).answer.number ≡ 0 → P (opening_of o).book
  opening-is P f =
      open_cases empty_book o.first (record { 0 = o.term }) o.annual (record { 0 = o.cents }) o.holders o.shares
      (λ (r : Outcome (Unit {0})). r.answer.number ≡ 0 → P r.book) (λ r e. absurd (no_refusal_is_0 r e)) (λ right _. f right.financing)

  pub agrees-opened : (opening_of o).answer.number ≡ 0 → Agrees (opening_of o).book (start o)
  agrees-opened = opening-is (λ b. Agrees b (start o)) (agrees-founded opened_book opened_step)

  -- nothing is received yet
  pub receipts-opened : (opening_of o).answer.number ≡ 0 → sum (receipts (held (opening_of o).book)) ≡ 0
  receipts-opened =
      opening-is (λ b. sum (receipts (held b)) ≡ 0) (λ _. rw opened_step.positions (founded-receipts o.holders o.shares))
