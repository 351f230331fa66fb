-- Days passed one by one are days passed at once.
use Rattle.std.proofs.Common.{ℕ, zero, suc, ◌+◌, ◌*◌, arith, ◌≡◌, refl, sym, ap, ap₂, ◌∙◌, List, [], ◌∷◌, map, length}
use Rattle.std.proofs.lemmas.List.{length-map}
use Rattle.account.specs.declared.Account.{Account}
use Rattle.book_model.specs.declared.Book.{Book}
use Rattle.book_model.specs.declared.Position.{Position}
use Rattle.account.specs.Accrual.{accrued_day}
use Rattle.book_model.specs.Advance.{day_passed, days_passed}
use Rattle.book_model.specs.Book.{held, rates_of, with_held, with_account, with_today}
use Rattle.book_model.specs.Positions.{day_held}
use Rattle.book_model.specs.Schedule.{daily_on}
use Rattle.book_model.specs.Closed.{days_held}
use Rattle.account.specs.Walk.{elapsed}
use Rattle.book_model.proofs.ChangedBook.{Roomy, held-with_held, with_held-held, with_held-twice}

-- Positions

abbrev with_unit_days : Position → ℕ → Position
with_unit_days p u = record { holder = p.holder; share = p.share; unit_days = u; received = p.received }

no_days_held : (ps : List Position) → map (days_held 0) ps ≡ ps
no_days_held [] = refl
no_days_held (p ∷ ps) =
    let same : p.unit_days + p.share.0 * 0 ≡ p.unit_days = omega arith in
    ap₂ (λ (u : ℕ) (qs : List Position). with_unit_days p u ∷ qs) same (no_days_held ps)

day_more_held : (n : ℕ) (ps : List Position) → map day_held (map (days_held n) ps) ≡ map (days_held (suc n)) ps
day_more_held n [] = refl
day_more_held n (p ∷ ps) =
    let same : p.unit_days + p.share.0 * n + p.share.0 ≡ p.unit_days + p.share.0 * suc n = omega arith in
    ap₂ (λ (u : ℕ) (qs : List Position). with_unit_days p u ∷ qs) same (day_more_held n ps)

-- The whole book

-- the book with other positions in use, another account and another day
abbrev moved : Book → List Position → Account → ℕ → Book
moved b ps a day = with_today (with_account (with_held b ps) a) day

module _ (b : Book) (ps : List Position) (a : Account) (day : ℕ) where
  moved_twice : (qs : List Position) (a' : Account) (day' : ℕ) → length ps ≡ length qs → moved (moved b ps a day) qs a' day' ≡ moved b qs a' day'
  unfolding with_held with_account with_today
  moved_twice qs a' day' e = ap (λ (c : Book). with_today (with_account c a') day') (with_held-twice b ps qs e)

  held_moved : held (moved b ps a day) ≡ ps
  unfolding with_account with_today
  held_moved = held-with_held b ps

  day-passed : day_passed (moved b ps a day) ≡ moved b (map day_held ps) (accrued_day (daily_on (rates_of b) day) a) (day + 1)
  unfolding day_passed with_held with_account with_today
  day-passed =
      ap (λ (qs : List Position). moved (moved b ps a day) (map day_held qs) (accrued_day (daily_on (rates_of b) day) a) (day + 1)) held_moved
      ∙ moved_twice (map day_held ps) (accrued_day (daily_on (rates_of b) day) a) (day + 1) (sym (length-map ps day_held))

abbrev pub passed_at_once : ℕ → Book → Book
passed_at_once n b =
    moved b (map (days_held n) (held b)) (elapsed (daily_on (rates_of b)) b.today.0 n b.account) (b.today.0 + n)

module _ (b : Book) (room : Roomy b) where
  none_passed : passed_at_once 0 b ≡ b
  unfolding elapsed with_today with_account
  none_passed =
      let same : b.today.0 + 0 ≡ b.today.0 = omega arith in
      rw (no_days_held (held b), with_held-held b room, same)

  day_more_passed : (n : ℕ) → day_passed (passed_at_once n b) ≡ passed_at_once (suc n) b
  unfolding elapsed
  day_more_passed n =
      let next : b.today.0 + n + 1 ≡ b.today.0 + suc n = omega arith in
      day-passed b (map (days_held n) (held b)) (elapsed (daily_on (rates_of b)) b.today.0 n b.account) (b.today.0 + n)
      ∙ rw (day_more_held n (held b), next)

  pub days_at_once : (n : ℕ) → days_passed n b ≡ passed_at_once n b
  unfolding days_passed
  days_at_once zero = sym none_passed
  days_at_once (suc n) = ap day_passed (days_at_once n) ∙ day_more_passed n
