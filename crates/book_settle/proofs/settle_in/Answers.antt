-- A settlement that is not refused: the account is one, the portions are the parts of the cents, and the book is the settled one.
use Rattle.std.proofs.Common.{arith, rules, false, Err, is_le, nat_cmp, ◌≡◌, ℕ, ◌≤◌, ◌<◌, ◌++◌, List, Result, ◌-◌, length, length-take-le, drop, ap, ◌∙◌, Ok, lt-ltb, le-ltb}
use Rattle.std.proofs.lemmas.Bool.{lt-leb}
use Rattle.std.specs.List.{sum}
use Rattle.account.specs.Invariant.{Fits}
use Rattle.account.specs.Accrual.{interest_of, paid_off, worth}
use Rattle.account.specs.Reckoning.{paid}
use Rattle.account.specs.declared.Account.{Account}
use Rattle.account.specs.declared.Unreckoned.{Unreckoned}
use Rattle.account.specs.declared.Cents.{Cents}
use Rattle.account.proofs.Callers.{fits, pays}
use Rattle.apportionment.specs.Apportionment.{part, padded, apportioned}
use Rattle.book_model.specs.declared.Book.{Book}
use Rattle.book_model.specs.declared.Position.{Position}
use Rattle.book_model.specs.declared.Taken.{Taken}
use Rattle.book_model.specs.Book.{held, with_account, with_settlement}
use Rattle.book_model.specs.Invariant.{OpenSound}
use Rattle.book_model.specs.Outcome.{Answer, Outcome, answered}
use Rattle.book_model.specs.Positions.{unit_days_column}
use Rattle.book_model.specs.Settle.{settled, taken_of}
use Rattle.book_model.proofs.Callers.{accepted, divided, parts-most, paid_by_parts, put-together, receipt_most}
use Rattle.general_laws.proofs.Choice.{by_order}
use Rattle.std.proofs.lemmas.Grind.{common_steps}
use Rattle.std.proofs.lemmas.Bool.Decides.{nat_tests}
use Rattle.book_model.specs.Advance.{last_settled}
use Rattle.book_settle.proofs.settle_in.Goals as goal
use Rattle.book_settle.proofs.settle_in.Goals.{Else-le, After-apportion}

after : (a b : ℕ) → false ≡ is_le (nat_cmp a b) → b < a
after a b e = grind arith

-- a day after the last settlement

module _ (c : Else-le) where
  known : OpenSound c.args.book.now
  known = c.requires.when_open c.if-not-book.false

  in_range : Fits c.args.book.now.account
  in_range = fits c.args.book.now.today.0 c.args.book.now.account (omega (arith, known)) known.bounded

  amount : c.args.cents.0 ≤ 100000000000
  amount = grind (arith, common_steps)

  many : length (held c.args.book.now) ≡ c.args.book.now.count
  many = length-take-le c.args.book.now.count c.args.book.now.positions (omega (arith, c.requires.room-positions, known.positions-most))

  some : 0 < length (held c.args.book.now)
  some = omega (arith, many, known.positions-some)

  few : length (held c.args.book.now) ≤ 64
  few = omega (arith, many, known.positions-most)

  since : last_settled c.args.book.now < c.args.book.now.today.0
  since = omega (arith, c.last_settled-last.ensures, after c.args.book.now.today.0 c.last_settled-last.result.0 c.if-le.ensures)

  days_some : 0 < sum (unit_days_column (held c.args.book.now))
  days_some = omega (arith, known.days-held, since)

  days_most : sum (unit_days_column (held c.args.book.now)) ≤ 92000000
  days_most = omega (arith, known.days-held, known.settlement_near)

  parts : apportioned c.args.cents.0 (unit_days_column (held c.args.book.now)) ≡ Ok (padded (length (unit_days_column (held c.args.book.now))) (part c.args.cents.0 (unit_days_column (held c.args.book.now))))
  parts = divided (held c.args.book.now) some few days_some days_most c.args.cents.0 amount

-- what is paid where the account is one

paid_where : (r : Result Account Unreckoned) (a : Account) (m : ℕ) → r ≡ paid a m → (x : Account) → r ≡ Ok x → (m ≤ worth a) × (x ≡ paid_off m a)
unfolding paid
paid_where r a m e x is = grind (arith, common_steps, nat_tests)

over_where : (r : Result Account Unreckoned) (a : Account) (m : ℕ) → Fits a → r ≡ paid a m → (u : Unreckoned) → r ≡ Err u → worth a < m
over_where r a m fit e u is = by_order (worth a) m (λ lt. lt) (λ le. absurd (let f = pays a m fit le in cc))

pub returns-in_err-after : goal.returns-in_err-after
unfolding settled
returns-in_err-after c =
    let past = (goal.at.returns-in_err-after c).Else-le in
    let b = c.args.book.now in
    let over = over_where c.pay.result b.account c.args.cents.0 (in_range past) c.pay.ensures _ c.in_err-after.was in
    rw (c.if-not-book.false, le-ltb 100000000000 c.args.cents.0 (amount past), lt-leb 240 b.settled c.if-book-ge-SETTLEMENTS.false, lt-leb b.today.0 (last_settled b) (since past), lt-ltb (worth b.account) c.args.cents.0 over) (search rules)

pub unwrap-portions-requires : goal.unwrap-portions-requires
unwrap-portions-requires c =
    let at = (goal.at.unwrap-portions-requires c).Else-le in
    rw (c.apportion.ensures, c.deref.ensures.0, c.weights_of-weights.ensures, parts at) (search rules)

pub pay_out-requires-clause-receipts : goal.pay_out-requires-clause-receipts
pay_out-requires-clause-receipts c = λ k. receipt_most c.args.book.now (known (goal.at.pay_out-requires-clause-receipts c).Else-le) k

-- what an answer holds is one value
one_value : {T E : Type 0} (r : Result T E) (x y : T) → r ≡ Ok x → r ≡ Ok y → y ≡ x
one_value r x y e f = cc

-- what the portions are

module _ (c : After-apportion) (portions : List ℕ) (told : c.apportion.result ≡ Ok portions) where
  are : portions ≡ padded (length (unit_days_column (held c.args.book.now))) (part c.args.cents.0 (unit_days_column (held c.args.book.now)))
  are =
      one_value c.apportion.result _ portions
      (c.apportion.ensures ∙ ap (apportioned c.args.cents.0) (c.deref.ensures.0 ∙ c.weights_of-weights.ensures) ∙ parts (goal.at-After-apportion c).Else-le) told

pub pay_out-requires-clause-portions_small : goal.pay_out-requires-clause-portions_small
pay_out-requires-clause-portions_small c =
    let at = goal.at.pay_out-requires-clause-portions_small c in
    let past = at.Else-le in
    parts-most (held c.args.book.now) (some past) (few past) (days_some past) (days_most past) c.args.cents.0 (amount past) c.unwrap-portions.result
    (are at.After-apportion c.unwrap-portions.result c.unwrap-portions.ensures)

-- an outcome is its answer and its book
made : (o : Outcome Taken) (a : Answer Taken) (b : Book) → a ≡ o.answer → b ≡ o.book → ◌≡◌ {A = Outcome Taken} (record { answer = a; book = b }) o
made o a b e f = rw (e, f)

-- what is taken, by the interest
taken : (b : Book) (m i : Cents) → i.0 ≡ interest_of m.0 b.account → answered {A = Taken} (record { interest = i; principal = record { 0 = m.0 - i.0 } }) ≡ answered (taken_of b m.0)
taken b m i e = rw e

pub returns : goal.returns
unfolding with_account with_settlement
returns c =
    let at = goal.at.returns c in
    let past = at.Else-le in
    let b = c.args.book.now in
    let m = c.args.cents in
    let is = paid_where c.pay.result b.account m.0 c.pay.ensures _ c.in_ok-after.was in
    let right = accepted b m c.if-not-book.false (amount past) c.if-book-ge-SETTLEMENTS.false (since past) is.0 in
    let paid = c.pay_out.ensures ∙ paid_by_parts (held b) (some past) (few past) (days_some past) (days_most past) m.0 (amount past) c.unwrap-portions.result (are at.After-apportion c.unwrap-portions.result c.unwrap-portions.ensures) in
    made (settled b m) _ _
    (taken b m _ c.interest_of-interest.ensures ∙ ap (λ (o : Outcome Taken). o.answer) right)
    (put-together b (omega (arith, c.requires.room-positions, (known past).positions-most)) m.0 _ c.in_ok-after.after (ap (λ (ps : List Position). ps ++ drop b.count b.positions) paid)
    is.1 ∙ ap (λ (o : Outcome Taken). o.book) right)
