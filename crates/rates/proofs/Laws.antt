-- The laws of daily rates, together.
use Rattle.std.proofs.Common.{◌≡◌, refl, sym, ℕ, ◌≤◌, le_trans, le_of_eq}
use Rattle.rates.specs.Rate.{within, daily_of, greatest_daily}
use Rattle.rates.specs.Laws.{Laws}
use Rattle.rates.proofs.Rule.{none_at_0, meets, most, only, grows}
use Rattle.rates.proofs.Nearest.{nearest, no_tie}
use Rattle.rates.proofs.RoundedDown.{down_or_up}
use Rattle.rates.proofs.Rising.{rises}

last : daily_of 4000 ≡ greatest_daily
unfolding within
last = sym (only 4000 greatest_daily refl refl)

pub greatest : (i : ℕ) → i ≤ 4000 → daily_of i ≤ greatest_daily
greatest i h = le_trans (grows i 4000 h) (le_of_eq last)

pub laws : Laws
laws =
    record {
      meets = meets;
      largest = most;
      only = only;
      nearest = nearest;
      no_tie = no_tie;
      down_or_up = down_or_up;
      none_at_0 = none_at_0;
      grows = grows;
      rises = rises;
      last = last;
      greatest = greatest;
    }
