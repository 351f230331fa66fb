-- The figures of a reached book fit their columns.
use Rattle.std.proofs.Common.{ℕ, zero, suc, ◌*◌, ◌+◌, ◌≤◌, arith, ◌≡◌, refl, sym, subst, true, not, List, [], ◌∷◌, eqb, leb, get_or, leb-true}
use Rattle.book_model.specs.declared.Book.{Book}
use Rattle.book_model.specs.declared.Position.{Position}
use Rattle.book_model.specs.Book.{empty_book, held}
use Rattle.account.specs.Opening.{opening}
use Rattle.account.specs.Invariant.{day_interest}
use Rattle.std.specs.List.{list_all}
use Rattle.book_model.specs.Outcome.{no_position}
use Rattle.book_model.specs.Positions.{is_holder, holders}
use Rattle.book_model.specs.Reached.{Reached}
use Rattle.book_model.specs.Invariant.{OpenSound}
use Rattle.std.proofs.lemmas.Bool.{and_parts}
use Rattle.general_laws.proofs.Choice.{by-test}
use Rattle.general_laws.proofs.Totals.{total_most_of}
use Rattle.book_model.proofs.Callers.{sound}
use Rattle.report.specs.Statements.{TotalsFit, PositionFits}

-- a reached book is the empty one, or open and sound
reached_cases : (P : Book → Type 0) (b : Book) → Reached b → P empty_book → (OpenSound b → P b) → P b
reached_cases P b r none some =
    by-test b.opened (λ is_open. some ((sound b r).when_open is_open)) (λ shut. subst P (sym ((sound b r).empty-before shut)) none)

-- The account

no_totals_fit : TotalsFit empty_book.account
unfolding empty_book opening
no_totals_fit =
    record {
      outstanding = omega arith;
      due = omega arith;
      fraction = omega arith;
      principal-paid = omega arith;
      interest-paid = omega arith;
    }

open_totals_fit : (b : Book) → OpenSound b → TotalsFit b.account
open_totals_fit b s =
    let interest : b.account.due.0 + b.account.interest_paid.0 ≤ 6000 * (day_interest + 1) =
    omega (arith, s.bounded.interest, s.within-term, s.term-most) in
    record {
      outstanding = omega (arith, s.bounded.principal);
      due = omega arith;
      fraction = omega (arith, s.bounded.below);
      principal-paid = omega (arith, s.bounded.principal);
      interest-paid = omega arith;
    }

pub totals-fit : (b : Book) → Reached b → TotalsFit b.account
totals-fit b r = reached_cases (λ c. TotalsFit c.account) b r no_totals_fit (open_totals_fit b)

-- The positions

holder-most : (ps : List Position) (k : ℕ) → list_all is_holder (holders ps) ≡ true → (get_or ps k no_position).holder ≤ 999999999
holder-most [] k right = omega arith
holder-most (p ∷ ps) zero right =
    leb-true p.holder 999999999
    (and_parts (not (eqb p.holder 0)) (leb p.holder 999999999) (and_parts (is_holder p.holder) (list_all is_holder (holders ps)) right).0).1
holder-most (p ∷ ps) (suc k) right = holder-most ps k (and_parts (is_holder p.holder) (list_all is_holder (holders ps)) right).1

no_position_fits : (k : ℕ) → PositionFits (get_or (held empty_book) k no_position)
unfolding empty_book
no_position_fits k = record { holder = omega arith; share = omega arith; unit-days = omega arith; received = omega arith }

open_position_fits : (b : Book) (k : ℕ) → OpenSound b → PositionFits (get_or (held b) k no_position)
open_position_fits b k s =
    record {
      holder = omega (arith, holder-most (held b) k s.holders-right);
      share = omega (arith, total_most_of (λ (p : Position). p.share.0) (held b) k no_position refl, s.shares_whole);
      unit-days =
          omega (arith, total_most_of (λ (p : Position). p.unit_days) (held b) k no_position refl, s.days-held, s.settlement_near);
      received =
          omega (
            arith,
            total_most_of (λ (p : Position). p.received.0) (held b) k no_position refl,
            s.receipts-whole,
            s.received-most,
            s.settlements-most,
          );
    }

pub positions-fit : (b : Book) (k : ℕ) → Reached b → PositionFits (get_or (held b) k no_position)
positions-fit b k r = reached_cases (λ c. PositionFits (get_or (held c) k no_position)) b r (no_position_fits k) (open_position_fits b k)
