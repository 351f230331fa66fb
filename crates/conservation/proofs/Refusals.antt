-- What a refusal gives back, by each call's cases and each reader's tests.
use Rattle.std.proofs.Common.{◌||◌, refl, not, leb}
use Rattle.general_laws.proofs.Choice.{choice}
use Rattle.account.specs.Opening.{opening}
use Rattle.book_model.specs.Book.{held}
use Rattle.book_model.specs.Positions.{is_holder, present}
use Rattle.book_model.specs.Read.{position_of, position_at, totals_of}
use Rattle.book_model.proofs.Callers.{open_cases, advance_cases, rate_cases, transfer_cases, settle_cases}
use Rattle.conservation.specs.Refusals.{Refuses, Declines, Refusals}

pub refusals : Refusals
unfolding opening position_of position_at totals_of
refusals =
    record {
      of_open = λ b o.
          open_cases b o.first (record { 0 = o.term }) o.annual (record { 0 = o.cents }) o.holders o.shares (Refuses _ b) (λ _ _. refl)
          (λ _ n. absurd (n refl));
      of_advance = λ b date. advance_cases b date (Refuses _ b) (λ _ _. refl) (λ _ n. absurd (n refl));
      of_rate = λ b date annual. rate_cases b date annual (Refuses _ b) (λ _ _. refl) (λ _ n. absurd (n refl));
      of_transfer = λ b c a n. transfer_cases b c a n (Refuses _ b) (λ _ _. refl) (λ _ n. absurd (n refl));
      of_settle = λ b m. settle_cases b m (Refuses _ b) (λ _ _. refl) (λ _ n. absurd (n refl));
      of_position = λ b h.
          choice (Declines _) (not b.opened) (λ _ _. refl)
          (λ _. choice (Declines _) (not (is_holder h) || not (present h (held b))) (λ _ _. refl) (λ _ n. absurd (n refl)));
      of_place = λ b k.
          choice (Declines _) (not b.opened) (λ _ _. refl) (λ _. choice (Declines _) (leb b.count k) (λ _ _. refl) (λ _ n. absurd (n refl)));
      of_totals = λ b. choice (Declines _) (not b.opened) (λ _ _. refl) (λ _ n. absurd (n refl));
    }
