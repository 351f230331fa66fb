-- The loop's invariant: the first i places are filled with the positions of the holders.
use Rattle.std.proofs.Common.{◌≡◌, length}
use Rattle.general_laws.proofs.Fronts.{filled}
use Rattle.book_model.specs.Open.{founded}
use Rattle.book_open.proofs.place_holders.Given as goal

abbrev pub invariant-loop-i : goal.invariant-loop-i
invariant-loop-i l =
    l.positions ≡ filled (founded l.holders l.shares) (length l.yielded) l.initial.positions
