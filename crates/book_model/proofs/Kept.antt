-- Every reached book is sound.
use Rattle.std.proofs.Common.{ℕ, arith, ◌≡◌, refl, ◌∙◌, length, get_or}
use Rattle.std.proofs.Math.ListN.{get_or-eq_default, get_or-map}
use Rattle.apportionment.proofs.Callers.{nothing_for_none, weight-total}
use Rattle.general_laws.proofs.Choice.{by_order}
use Rattle.apportionment.specs.Apportionment.{part}
use Rattle.book_model.specs.declared.Book.{Book}
use Rattle.account.specs.declared.Cents.{Cents}
use Rattle.book_model.specs.declared.Position.{Position}
use Rattle.book_model.specs.Book.{empty_book, held}
use Rattle.book_model.specs.Outcome.{no_position}
use Rattle.book_model.specs.Positions.{paid_from, unit_days_column}
use Rattle.book_model.specs.Reached.{Reached, empty, opens, advances, rates, transfers, settles}
use Rattle.book_model.specs.Settle.{settled_book, settled}
use Rattle.book_model.specs.Invariant.{Sound}
use Rattle.book_model.proofs.Accepted.{SettleRight, settle_cases}
use Rattle.book_model.proofs.AdvanceKept.{advance-kept}
use Rattle.book_model.proofs.OpenKept.{open_kept}
use Rattle.book_model.proofs.Paid.{length-paid, paid-at, held-settled}
use Rattle.book_model.proofs.RateKept.{rate-kept}
use Rattle.book_model.proofs.SettleKept.{settle-kept}
use Rattle.book_model.proofs.TransferKept.{transfer-kept}

pub empty-sound : Sound empty_book
unfolding empty_book
empty-sound =
    record {
      room-positions = refl;
      room-settlements = refl;
      room-rates = refl;
      empty-before = λ _. refl;
      when_open = λ e. cc;
    }

pub sound : (b : Book) → Reached b → Sound b
sound b r = go r
  where
    go : {b : Book} → Reached b → Sound b
    go empty = empty-sound
    go (opens r first term annual cents hs ss) = open_kept _ (go r) first term annual cents hs ss
    go (advances r date) = advance-kept _ (go r) date
    go (rates r date annual) = rate-kept _ (go r) date annual
    go (transfers r cedent assignee parts) = transfer-kept _ (go r) cedent assignee parts
    go (settles r cents) = settle-kept _ (go r) cents

-- A consequence: a position with no unit-days receives nothing from a settlement, no leftover cent either

module _ (b : Book) (reached : Reached b) (k : ℕ) (idle : (get_or (held b) k no_position).unit_days ≡ 0) where
  no_part : (m : ℕ) → SettleRight b m → part m (unit_days_column (held b)) k ≡ 0
  no_part m right =
      let days = ((sound b reached).when_open right.is_open).days-held in
      let some = weight-total (unit_days_column (held b)) in
      nothing_for_none m (unit_days_column (held b)) (omega (arith, days, some, right.day-held)) k
      (get_or-map (λ (p : Position). p.unit_days) (held b) k no_position ∙ idle)

  same_receipt : (m : ℕ) → SettleRight b m → (get_or (held (settled_book b m)) k no_position).received.0 ≡ (get_or (held b) k no_position).received.0
  same_receipt m right =
      let f = part m (unit_days_column (held b)) in
      rw (held-settled b m)
      (by_order k (length (held b))
      (λ lt. rw (paid-at f (held b) k no_position lt) (omega (arith, no_part m right)))
      (λ ge.
      let none = get_or-eq_default (paid_from f 0 (held b)) no_position {n = k} (omega (arith, length-paid f 0 (held b))) in
      rw (none, get_or-eq_default (held b) no_position ge)))

  pub nothing_without_days : (cents : Cents) → (get_or (held (settled b cents).book) k no_position).received.0 ≡ (get_or (held b) k no_position).received.0
  nothing_without_days cents =
      settle_cases b cents (λ o. (get_or (held o.book) k no_position).received.0 ≡ (get_or (held b) k no_position).received.0) (λ _. refl)
      (same_receipt cents.0)
