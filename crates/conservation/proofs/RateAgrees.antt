-- A rate order is nothing to the holders: it keeps the agreement with the tally.
use Rattle.std.proofs.Common.{ℕ, List}
use Rattle.account.specs.declared.Account.{Account}
use Rattle.book_model.specs.declared.Book.{Book}
use Rattle.account.specs.declared.RateOrder.{RateOrder}
use Rattle.book_model.specs.Rate.{with_rates}
use Rattle.conservation.specs.Tally.{Tally, revise, share_days, weight, portion_on, received, unit_days_of}
use Rattle.conservation.proofs.Agreement.{Agrees}

pub agrees-rated : (b : Book) (t : Tally) → Agrees b t → (orders : List RateOrder) (a : Account) (day annual : ℕ)
    → Agrees (with_rates b orders a) (revise t day annual)
unfolding with_rates revise unit_days_of received portion_on weight share_days
agrees-rated b t agrees orders a day annual =
    record {
      today = agrees.today;
      positions = agrees.positions;
      settlements = agrees.settlements;
      absent = agrees.absent;
      lasting = agrees.lasting;
      whole = agrees.whole;
    }
