-- There is room for the holders, and each field is that of a new book.
use Rattle.std.proofs.Common.{rules}
use Rattle.book_model.specs.Book.{empty_book}
use Rattle.book_model.specs.Open.{new_book}
use Rattle.book_model.proofs.Callers.{financed, length-founded, Financed}
use Rattle.book_open.proofs.set_up.Goals as goal
use Rattle.book_open.proofs.set_up.Goals.{After-opening-book}

lists : (c : After-opening-book) → Financed c.args.opening.holders.now c.args.opening.shares.now
lists c = financed _ _ c.requires.financing

pub place_holders-requires-clause-one_length : goal.place_holders-requires-clause-one_length
place_holders-requires-clause-one_length c = (lists (goal.at.place_holders-requires-clause-one_length c).After-opening-book).one_length

pub place_holders-requires-clause-room : goal.place_holders-requires-clause-room
unfolding empty_book
place_holders-requires-clause-room c =
    rw c.requires.empty (lists (goal.at.place_holders-requires-clause-room c).After-opening-book).few

pub returns : goal.returns
unfolding new_book empty_book
returns c =
    let as_many = length-founded _ _ (lists (goal.at.returns c).After-opening-book).one_length in
    search rules
