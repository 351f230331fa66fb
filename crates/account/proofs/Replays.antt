-- The account evaluated from settlement to settlement is the account as a function of the day.
use Rattle.std.proofs.Common.{ℕ, ◌+◌, ◌-◌, ◌≤◌, ◌<◌, arith, ◌≡◌, refl, sym, ap, ◌∙◌, Bool, true, false, cond, not, List, [], ◌∷◌, ◌++◌, append-nil, ne_eqb, eqb-true, lt-ltb, le-ltb, le-leb, ltb, eqb, length, drop, get_or, drop_of_length-le}
use Rattle.std.proofs.Math.Option.{none}
use Rattle.std.proofs.Math.Seq.{append_snoc}
use Rattle.std.proofs.lemmas.Bool.{and_parts}
use Rattle.std.specs.Prelude.{Result, Ok, Err}
use Rattle.std.proofs.lemmas.List.{drop_more}
use Rattle.account.specs.declared.Account.{Account}
use Rattle.account.specs.declared.RateOrder.{RateOrder}
use Rattle.account.specs.declared.Settlement.{Settlement}
use Rattle.account.specs.declared.Unreckoned.{Unreckoned}
use Rattle.account.specs.declared.Unreckoned.TheVariants.{Overpaid, OutOfRange}
use Rattle.account.specs.declared.walking.Elapsed.{Elapsed}
use Rattle.account.specs.Accrual.{paid_off, worth}
use Rattle.account.specs.Opening.{opening, no_settlement}
use Rattle.account.specs.Invariant.{Timely}
use Rattle.account.specs.Ranges.{is_first, is_rising, is_schedule, is_timely}
use Rattle.account.specs.Schedule.{in_force, stored_on}
use Rattle.account.specs.Walk.{elapsed}
use Rattle.account.specs.Walked.{ahead, Went, replay_from, left_of}
use Rattle.account.specs.Reckoning.{standing}
use Rattle.account.specs.Standing.{settled_on, day_begins, account_at, is_over, some_of, overpaid}
use Rattle.account.proofs.AccountSteps.{begins-same, account-elapsed, account_paid_off}
use Rattle.account.proofs.RangeTests.{timely_says}
use Rattle.account.proofs.Segments.{elapsed_same}
use Rattle.account.proofs.SettledDays.{none_yet, settled-first, settled-other}

-- before the first of the settlements to come there is none
none_before : (s : Settlement) (ss : List Settlement) (today t : ℕ) → Timely s.day.0 ss today → t < s.day.0 → settled_on (s ∷ ss) t ≡ none
unfolding settled_on
none_before s ss today t timely lt = rw (ne_eqb s.day.0 t (λ e. omega arith)) (none_yet s.day.0 ss today t timely (omega arith))

module _ (cents : ℕ) (daily : ℕ → ℕ) where
  -- between settlements
  elapsed_to : (done : List Settlement) (from day : ℕ) → ((t : ℕ) → from < t → settled_on done t ≡ none) → from ≤ day
      → elapsed daily from (day - from) (account_at cents daily done from) ≡ account_at cents daily done day
  elapsed_to done from day quiet le =
      let e : from + (day - from) ≡ day = omega arith in
      sym (account-elapsed cents daily done from (day - from) quiet) ∙ ap (account_at cents daily done) e

  -- as the next settlement's day begins
  begins-next : (done : List Settlement) (s : Settlement) (ss : List Settlement) (today : ℕ) → settled_on done s.day.0 ≡ none
      → Timely s.day.0 ss today
      → account_at cents daily done s.day.0 ≡ day_begins cents daily (settled_on (done ++ s ∷ ss)) s.day.0
  unfolding account_at
  begins-next done s ss today h timely =
      rw h
      (begins-same cents daily daily (settled_on done) (settled_on (done ++ s ∷ ss)) s.day.0 (λ t lt. refl)
      (λ t lt. sym (settled-first done (s ∷ ss) t (none_before s ss today t timely lt))))

  replay-from : (done ss : List Settlement) (from today : ℕ) → ((t : ℕ) → from < t → settled_on done t ≡ none) → Timely from ss today
      → replay_from daily (account_at cents daily done from) from ss today
      ≡ cond (some_of (is_over cents daily (done ++ ss)) ss) (Err Overpaid) (Ok (account_at cents daily (done ++ ss) today))
  unfolding replay_from
  replay-from done [] from today quiet timely = rw (append-nil done, elapsed_to done from today quiet timely)
  replay-from done (s ∷ ss) from today quiet timely =
      let here = quiet s.day.0 timely.0 in
      let ahead : elapsed daily from (s.day.0 - from) (account_at cents daily done from) ≡ account_at cents daily done s.day.0 =
      elapsed_to done from s.day.0 quiet (omega (arith, timely.0)) in
      let begins = begins-next done s ss today here timely.1 in
      let after : (t : ℕ) → s.day.0 < t → settled_on (done ++ (s ∷ [])) t ≡ none =
      λ t lt. settled-other done s t (λ e. omega arith) ∙ quiet t (omega (arith, timely.0)) in
      let ih = rw (append_snoc done s ss, account_paid_off cents daily done s here, begins) at (replay-from (done ++ (s ∷ [])) ss s.day.0 today after timely.1) in
      rw (ahead, begins) (grind arith)

  -- the whole replay
  pub replay-whole : (ss : List Settlement) (today : ℕ) → Timely 0 ss today → replay_from daily (opening cents) 0 ss today ≡ standing cents daily ss today
  unfolding standing overpaid account_at day_begins settled_on
  replay-whole ss today timely = replay-from [] ss 0 today (λ t lt. refl) timely

-- The whole of a replay, and what is left of it behind a settlement

-- rates that are the same from the day on
replay_same : (daily daily' : ℕ → ℕ) (ss : List Settlement) (today : ℕ) (a : Account) (from : ℕ) → Timely from ss today
    → ((t : ℕ) → from ≤ t → daily t ≡ daily' t) → replay_from daily a from ss today ≡ replay_from daily' a from ss today
unfolding replay_from
replay_same daily daily' [] today a from timely same = rw (elapsed_same daily daily' from (today - from) a same)
replay_same daily daily' (s ∷ ss) today a from timely same =
    rw (elapsed_same daily daily' from (s.day.0 - from) a same)
    (ap (cond (ltb (worth (elapsed daily' from (s.day.0 - from) a)) s.cents.0) (Err Overpaid))
    (replay_same daily daily' ss today (paid_off s.cents.0 (elapsed daily' from (s.day.0 - from) a)) s.day.0 timely.1 (λ t le. same t (omega (arith, timely.0)))))

-- an answer behind two tests
abbrev pub tested : Bool → Bool → Result Account Unreckoned → Result Account Unreckoned
tested rising timely r = cond (not rising) (Err OutOfRange) (cond (not timely) (Err OutOfRange) r)

tested_same : (rising timely : Bool) (r r' : Result Account Unreckoned) → (rising ≡ true → timely ≡ true → r ≡ r')
    → tested rising timely r ≡ tested rising timely r'
tested_same false timely r r' e = refl
tested_same true false r r' e = refl
tested_same true true r r' e = e refl refl

-- the orders, or the settlement at hand, are out of order
pub unordered : (over : Bool) (w : Elapsed) (ss : List Settlement) (today : ℕ) → is_rising w.order.now.first.0 w.later.now ≡ false
    → left_of over w ss today ≡ Err OutOfRange
unfolding left_of
unordered over w ss today e = rw e

pub untimely : (over : Bool) (w : Elapsed) (ss : List Settlement) (i today : ℕ) → i < length ss
    → is_timely w.day.0 (get_or ss i no_settlement ∷ drop (i + 1) ss) today ≡ false → left_of over w (drop i ss) today ≡ Err OutOfRange
unfolding left_of
untimely over w ss i today lt e = rw (drop_more ss i no_settlement lt, e) (grind arith)

module _ (over : Bool) {before w : Elapsed} (g : Went before w) (ss : List Settlement) (i today : ℕ) where
  module _ (lt : i < length ss) (day : w.day.0 ≡ (get_or ss i no_settlement).day.0) (later : before.day.0 < (get_or ss i no_settlement).day.0) where
    turned : is_rising before.order.now.first.0 before.later.now ≡ true
        → replay_from (ahead before) before.account before.day.0 (get_or ss i no_settlement ∷ drop (i + 1) ss) today
        ≡ cond (ltb (worth w.account) (get_or ss i no_settlement).cents.0) (Err Overpaid)
        (replay_from (ahead before) (paid_off (get_or ss i no_settlement).cents.0 w.account) (get_or ss i no_settlement).day.0 (drop (i + 1) ss) today)
    unfolding replay_from
    turned r = rw (rw day at (g.is-elapsed r))

    -- a settlement that is over
    pub turn_over : worth w.account < (get_or ss i no_settlement).cents.0 → left_of over before (drop i ss) today ≡ left_of true w (drop (i + 1) ss) today
    unfolding left_of is_timely
    turn_over h =
        rw (drop_more ss i no_settlement lt, ← g.left, day, lt-ltb before.day.0 (get_or ss i no_settlement).day.0 later)
        (tested_same (is_rising before.order.now.first.0 before.later.now) (is_timely (get_or ss i no_settlement).day.0 (drop (i + 1) ss) today) _ _
        (λ r t. rw (turned r, lt-ltb (worth w.account) (get_or ss i no_settlement).cents.0 h) (grind arith)))

    -- one that is not
    pub turn_paid : (get_or ss i no_settlement).cents.0 ≤ worth w.account → (after : Elapsed) → after.order ≡ w.order → after.later ≡ w.later
        → after.day ≡ w.day → after.account ≡ paid_off (get_or ss i no_settlement).cents.0 w.account
        → left_of over before (drop i ss) today ≡ left_of over after (drop (i + 1) ss) today
    unfolding left_of is_timely
    turn_paid h after order orders same e =
        simp (order, orders, same, e)
        (rw (drop_more ss i no_settlement lt, ← g.left, day, lt-ltb before.day.0 (get_or ss i no_settlement).day.0 later)
        (tested_same (is_rising before.order.now.first.0 before.later.now) (is_timely (get_or ss i no_settlement).day.0 (drop (i + 1) ss) today) _ _
        (λ r t. rw (turned r, le-ltb (worth w.account) (get_or ss i no_settlement).cents.0 h)
        (ap (cond over (Err Overpaid))
        (replay_same (ahead before) (ahead after) (drop (i + 1) ss) today (paid_off (get_or ss i no_settlement).cents.0 w.account) (get_or ss i no_settlement).day.0
        (timely_says (get_or ss i no_settlement).day.0 (drop (i + 1) ss) today t) (λ t le. rw (order, orders) (g.same-rates r t (omega arith))))))))

  -- behind the last settlement
  pub ended : length ss ≤ i → w.day.0 ≡ today → is_rising w.order.now.first.0 w.later.now ≡ true
      → left_of over before (drop i ss) today ≡ cond over (Err Overpaid) (Ok w.account)
  unfolding left_of is_timely replay_from
  ended le day right =
      let rising = g.left ∙ right in
      rw (drop_of_length-le ss le, rising, le-leb before.day.0 today (omega (arith, g.since)), rw day at (g.is-elapsed rising))

-- what is left at the start is all
pub left_all : (cents today : ℕ) (w : Elapsed) (ss : List Settlement) (rates : List RateOrder) → rates ≡ w.order.now ∷ w.later.now
    → w.account ≡ opening cents → w.day.0 ≡ 0 → is_first w.order.now ≡ true
    → left_of false w ss today ≡ tested (is_schedule rates) (is_timely 0 ss today) (standing cents (stored_on rates) ss today)
unfolding left_of is_schedule in_force
left_all cents today w ss rates e account day first =
    simp (e, account, day, first)
    (tested_same (is_rising w.order.now.first.0 w.later.now) (is_timely 0 ss today) _ _
    (λ r t.
    let timely = timely_says 0 ss today t in
    replay_same (ahead w) (stored_on (w.order.now ∷ w.later.now)) ss today (opening cents) 0 timely
    (λ t le. rw (le-leb w.order.now.first.0 t (omega (arith, begun))))
    ∙ replay-whole cents (stored_on (w.order.now ∷ w.later.now)) ss today timely))
  where
    begun : w.order.now.first.0 ≡ 0
    begun = eqb-true _ _ (and_parts (eqb w.order.now.first.0 0) _ first).0
