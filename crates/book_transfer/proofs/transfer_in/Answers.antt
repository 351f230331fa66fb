-- The places that `find` gives are the holders', and the cases of Transfer say what is left.
use Rattle.std.proofs.Common.{arith, ◌≡◌, sym, ap, ◌∙◌, not, ◌<◌}
use Rattle.std.proofs.lemmas.Grind.{common_steps}
use Rattle.book_model.specs.Book.{held}
use Rattle.book_model.specs.Positions.{found_in}
use Rattle.book_model.specs.Transfer.{moved, transferred}
use Rattle.book_model.proofs.Callers.{found_nothing, moved_none, moved-over, moved-last, moved-between, transfer-other}
use Rattle.book_transfer.proofs.Found.{Found, found, to_kept, sum_most}
use Rattle.book_transfer.proofs.transfer_in.Goals as goal
use Rattle.book_transfer.proofs.transfer_in.Goals.{In_ok-from, In-Some, then-eq-via-then-eq, then-eq-via-else-eq+then-lt}

-- the cedent in the book
from : (c : In_ok-from) → Found c.args.book.now c.args.cedent c.in_ok-from.from
from c = found c.requires c.if-not-book.false _ _ (sym c.in_ok-from.ensures.ok_part ∙ c.find.ensures ∙ ap (λ ps. found_in ps c.args.cedent) c.held-held.ensures.value)

-- between two holders
moves : (c : In_ok-from) → moved c.args.book.now c.args.cedent c.args.assignee c.args.parts.0 ≡ transferred c.args.book.now c.args.cedent c.args.assignee c.args.parts
moves c =
    transfer-other _ _ _ _ (ap not c.if-not-book.false) (ap not (sym c.is_holder.ensures ∙ c.if-not-is_holder.false))
    (ap not (sym c.is_holder-else-not-is_holder.ensures ∙ c.if-not-is_holder-2.false))
    (from c).there (λ e. omega (arith, c.if-cedent-assignee.false))

-- the assignee in the book
to : (c : In-Some) → Found c.args.book.now c.args.assignee c.in-Some.to
to c = found c.requires c.if-not-book.false _ _ (sym c.in-Some.is ∙ c.find-to.ensures ∙ ap (λ ps. found_in ps c.args.assignee) c.held-held.ensures.value)

pub returns-then-eq : goal.returns-then-eq
returns-then-eq c =
    let at = (goal.at.returns-then-eq c).In_ok-from in
    elim c.then-eq.branch [
      | then-eq-via-then-eq w ↦ moved_none (from at).cedent _ _ (grind (arith, common_steps)) ∙ moves at
      | then-eq-via-else-eq+then-lt w ↦
          moved-over (from at).cedent _ _ (λ none. grind (arith, common_steps)) (grind (arith, common_steps)) ∙ moves at
    ]

pub overflow_add-book : goal.overflow_add-book
overflow_add-book c =
    let at = goal.at.overflow_add-book c in
    omega (arith, sum_most (from at.In_ok-from) (to at.In-Some) (λ e. omega (arith, c.if-cedent-assignee.false)) c.args.parts.0 (grind (arith, common_steps)))

pub returns-in-Some : goal.returns-in-Some
returns-in-Some c =
    let at = goal.at.returns-in-Some c in
    let f = from at.In_ok-from in
    let t = to at.In-Some in
    let other : c.args.cedent ≡ c.args.assignee → ⊥ = λ e. omega (arith, c.if-cedent-assignee.false) in
    rw (to_kept f t other c.args.parts.0)
    (moved-between f.cedent _ _ (λ none. grind (arith, common_steps)) (grind (arith, common_steps)) _ other t.cedent.here t.cedent.below ∙ moves at.In_ok-from)

pub returns-in-None : goal.returns-in-None
returns-in-None c =
    let at = (goal.at.returns-in-None c).In_ok-from in
    let away = found_nothing (held c.args.book.now) c.args.assignee (sym c.in-None.is ∙ c.find-to.ensures ∙ ap (λ ps. found_in ps c.args.assignee) c.held-held.ensures.value) in
    let most = (c.requires.when_open c.if-not-book.false).positions-most in
    let free : c.args.book.now.count < 64 = grind arith in
    rw c.fresh.ensures (moved-last (from at).cedent _ _ (λ none. grind (arith, common_steps)) (grind (arith, common_steps)) away free ∙ moves at)
