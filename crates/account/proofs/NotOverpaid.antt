-- Where no settlement is over due plus outstanding, the principal is whole on every day; and one settlement more that is not over.
use Rattle.std.proofs.Common.{ℕ, zero, suc, ◌+◌, ◌≤◌, ◌<◌, arith, ◌≡◌, refl, ap, ◌∙◌, Bool, false, List, [], ◌∷◌, ◌++◌, ltb-false, le-ltb, eqb-true, ltb}
use Rattle.std.proofs.Math.Option.{Option, none, some}
use Rattle.std.proofs.lemmas.Bool.{or_parts}
use Rattle.account.specs.declared.Account.{Account}
use Rattle.account.specs.declared.Settlement.{Settlement}
use Rattle.account.specs.Accrual.{accrued_day, worth}
use Rattle.account.specs.Opening.{opening}
use Rattle.account.specs.Invariant.{Timely}
use Rattle.account.specs.Schedule.{last_day}
use Rattle.account.specs.Standing.{settled_on, paying_off, day_begins, account_at, is_over, some_of, overpaid}
use Rattle.account.proofs.AccountSteps.{account-begins, begins-joined}
use Rattle.account.proofs.Bounds.{paid_principal_kept}
use Rattle.account.proofs.SettledDays.{last_least}

abbrev principal : Account → ℕ
principal a = a.outstanding.0 + a.principal_paid.0

-- The principal is whole

-- where none of a list is over a limit of its day, the settlement of a day is within that day's
none_over : (limit : ℕ → ℕ) (ss : List Settlement) (t m : ℕ)
    → some_of (λ (s : Settlement). ltb (limit s.day.0) s.cents.0) ss ≡ false → settled_on ss t ≡ some m → m ≤ limit t
unfolding settled_on
none_over limit [] t m e h = cc
none_over limit (s ∷ ss) t m e h = grind (arith, none_over limit ss t m, eqb-true s.day.0 t, ltb-false (limit s.day.0) s.cents.0)

paid-whole : (p : Option ℕ) (a : Account) → ((m : ℕ) → p ≡ some m → m ≤ worth a) → principal (paying_off p a) ≡ principal a
paid-whole none a h = refl
paid-whole (some m) a h = paid_principal_kept m a (h m refl)

module _ (cents : ℕ) (daily : ℕ → ℕ) (paid : ℕ → Option ℕ)
    (within : (t m : ℕ) → paid t ≡ some m → m ≤ worth (day_begins cents daily paid t)) where
  begins-whole : (day : ℕ) → principal (day_begins cents daily paid day) ≡ cents
  unfolding day_begins opening accrued_day
  begins-whole zero = omega arith
  begins-whole (suc day) = paid-whole (paid day) (day_begins cents daily paid day) (within day) ∙ begins-whole day

module _ (cents : ℕ) (daily : ℕ → ℕ) (ss : List Settlement) where
  -- each settlement is within due plus outstanding at its moment
  pub within-worth : overpaid cents daily ss ≡ false → (t m : ℕ) → settled_on ss t ≡ some m
      → m ≤ worth (day_begins cents daily (settled_on ss) t)
  unfolding overpaid
  within-worth e t m h = none_over (λ (t : ℕ). worth (day_begins cents daily (settled_on ss) t)) ss t m e h

  pub principal-whole : overpaid cents daily ss ≡ false → (day : ℕ)
      → (account_at cents daily ss day).outstanding.0 + (account_at cents daily ss day).principal_paid.0 ≡ cents
  unfolding account_at
  principal-whole e day =
      paid-whole (settled_on ss day) (day_begins cents daily (settled_on ss) day) (within-worth e day)
      ∙ begins-whole cents daily (settled_on ss) (within-worth e) day

-- One settlement more

some-joined : (test : Settlement → Bool) (ss : List Settlement) (s : Settlement) → some_of test ss ≡ false → test s ≡ false
    → some_of test (ss ++ (s ∷ [])) ≡ false
some-joined test [] s e f = rw f
some-joined test (x ∷ ss) s e f =
    let both = or_parts (test x) (some_of test ss) e in rw both.0 (some-joined test ss s both.1 f)

-- tests that are the same up to a day, of settlements before it
some_same : (f g : Settlement → Bool) (day : ℕ) → ((s : Settlement) → s.day.0 < day → f s ≡ g s)
    → (from : ℕ) (ss : List Settlement) (today : ℕ) → Timely from ss today → last_day from ss < day → some_of f ss ≡ some_of g ss
unfolding last_day
some_same f g day same from [] today h lt = refl
some_same f g day same from (s ∷ ss) today h lt =
    let least = last_least s.day.0 ss today h.1 in
    rw (same s (omega arith), some_same f g day same s.day.0 ss today h.1 lt)

module _ (cents : ℕ) (daily : ℕ → ℕ) (ss : List Settlement) (s : Settlement) where
  pub not_over_joined : (today : ℕ) → Timely 0 ss today → last_day 0 ss < s.day.0 → settled_on ss s.day.0 ≡ none
      → s.cents.0 ≤ worth (account_at cents daily ss s.day.0) → overpaid cents daily ss ≡ false
      → overpaid cents daily (ss ++ (s ∷ [])) ≡ false
  unfolding overpaid
  not_over_joined today timely later quiet le e =
      let test = is_over cents daily (ss ++ (s ∷ [])) in
      let before : (x : Settlement) → x.day.0 < s.day.0 → test x ≡ is_over cents daily ss x =
      λ x lt. ap (λ (a : Account). ltb (worth a) x.cents.0) (begins-joined cents daily ss s x.day.0 (omega arith)) in
      let here : test s ≡ false =
      rw (begins-joined cents daily ss s s.day.0 (omega arith), ← account-begins cents daily ss s.day.0 quiet)
      (le-ltb _ _ le) in
      some-joined test ss s (some_same test (is_over cents daily ss) s.day.0 before 0 ss today timely later ∙ e) here
