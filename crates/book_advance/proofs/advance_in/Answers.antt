-- The counts of the first day and of the date fit, and the cases of Advance say what is left.
use Rattle.std.proofs.Common.{arith, rules, ◌≡◌, ◌+◌, ◌-◌, ◌≤◌, ◌<◌, sym, ap, ◌∙◌}
use Rattle.calendar.proofs.Callers.{Counted, day_tells}
use Rattle.calendar.specs.Calendar.{day_count}
use Rattle.book_model.specs.declared.Book.{Book}
use Rattle.account.proofs.Callers.{last_within}
use Rattle.book_model.specs.Advance.{advanced, advanced_to}
use Rattle.book_model.specs.Book.{with_account, with_today, settlements_of}
use Rattle.book_model.specs.Outcome.{accept}
use Rattle.book_advance.proofs.Passed.{first-counted, passes, accrues_last, book-after}
use Rattle.book_advance.proofs.advance_in.Goals as goal
use Rattle.book_advance.proofs.advance_in.Goals.{After-count_of-first, After-hold, then-count-today-via-then-count-today, then-count-today-via-else-count-today+then-first-book}

counted : (c : After-count_of-first) → Counted c.args.date c.in_ok-count.count
counted c = day_tells _ _ c.in_ok-count.ensures

first : (c : After-count_of-first) → (c.count_of-first.result ≡ day_count c.args.book.now.first) × (c.count_of-first.result < 73049)
first c = first-counted c.requires c.if-not-book.false _ c.count_of-first.ensures

pub overflow_add-today : goal.overflow_add-today
overflow_add-today c =
    let known = c.requires.when_open c.if-not-book.false in
    omega (arith, first (goal.at.overflow_add-today c).After-count_of-first, known.within-term, known.term-most)

pub overflow_add-first : goal.overflow_add-first
overflow_add-first c =
    omega (arith, first (goal.at.overflow_add-first c).After-count_of-first, (c.requires.when_open c.if-not-book.false).term-most)

pub returns-then-count-today : goal.returns-then-count-today
unfolding advanced advanced_to
returns-then-count-today c =
    let at = (goal.at.returns-then-count-today c).After-count_of-first in
    let told = counted at in
    let begins = first at in
    elim c.then-count-today.branch [
      | then-count-today-via-then-count-today w ↦ search rules
      | then-count-today-via-else-count-today+then-first-book w ↦ grind arith
    ]

pub returns-then-most-unit_days : goal.returns-then-most-unit_days
unfolding advanced advanced_to
returns-then-most-unit_days c =
    let at = (goal.at.returns-then-most-unit_days c).After-count_of-first in
    let told = counted at in
    let begins = first at in
    let known = c.requires.when_open c.if-not-book.false in
    let last = last_within 0 (settlements_of c.args.book.now) c.args.book.now.today.0 known.timely in
    grind arith

-- the last day is one of the first 6,000
few : (c : After-hold) → c.in_ok-count.count - (c.count_of-first.result + c.args.book.now.today.0) ≤ 6000
few c = omega (arith, c.if-first-book.false, (c.requires.when_open c.if-not-book.false).term-most)

pub unwrap-book-requires : goal.unwrap-book-requires
unwrap-book-requires c =
    let at = (goal.at.unwrap-book-requires c).After-hold in
    rw (c.accrue.ensures ∙ accrues_last c.requires c.if-not-book.false _ (few at)) (search rules)

pub returns : goal.returns
unfolding with_account with_today
returns c =
    let at = goal.at.returns c in
    let b = c.args.book.now in
    let n = c.in_ok-count.count - (c.count_of-first.result + b.today.0) in
    let e = sym c.unwrap-book.ensures ∙ c.accrue.ensures ∙ accrues_last c.requires c.if-not-book.false n (few at.After-hold) in
    ap (λ (g : Book). accept (record { 0 = n }) g) (book-after c.requires c.if-not-book.false n c.hold.new.held c.unwrap-book.result c.hold.ensures cc)
    ∙ passes c.requires c.if-not-book.false _ _ _ (counted at.After-count_of-first) (first at.After-count_of-first).0 c.if-count-today.false c.if-first-book.false
    (omega (arith, c.if-most-unit_days.false, c.unit_days_of-unit_days.ensures))
