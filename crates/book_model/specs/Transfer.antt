-- Transfer of share parts from cedent to assignee, today (document 01).
use Rattle.std.specs.Prelude.{ℕ, ◌-◌, cond, not, ◌&&◌, ◌||◌, leb, ltb, eqb}
use Rattle.book_model.specs.declared.Book.{Book}
use Rattle.book_model.specs.declared.Parts.{Parts}
use Rattle.book_model.specs.declared.Refusal.TheVariants as refusal
use Rattle.book_model.specs.Book.{held, with_held}
use Rattle.book_model.specs.Outcome.{Outcome, no_parts, accept, refuse}
use Rattle.book_model.specs.Positions.{is_holder, present, share_of, change, less, given}

-- between two holders, the cedent in the book. "Today's unit-days are the assignee's": shares move now, and Advance counts today by the shares of today
unfoldable pub moved : Book → ℕ → ℕ → ℕ → Outcome Parts
moved b c a n =
    -- 11: "0 or more than the cedent holds"
    cond (eqb n 0 || ltb (share_of c (held b)) n) (refuse no_parts b refusal.Share)
    -- 12: "a 65th position"
    (cond (not (present a (held b)) && leb 64 b.count) (refuse no_parts b refusal.BookFull)
    -- "Answers the cedent's remaining share."
    (accept (record { 0 = share_of c (held b) - n }) (with_held b (given a n (change c (less n) (held b))))))

unfoldable pub transferred : Book → ℕ → ℕ → Parts → Outcome Parts
transferred b c a n =
    cond (not b.opened) (refuse no_parts b refusal.Unopened)
    -- 10: "number 0 or over 999,999,999, cedent .. not in the book, cedent = assignee"
    (cond (not (is_holder c) || (not (is_holder a) || (not (present c (held b)) || eqb c a))) (refuse no_parts b refusal.Holder)
    (moved b c a n.0))
