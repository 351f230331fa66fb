-- The tally (document 01, "The tally"), from the paper's text alone. It shares with the book's side the calls' arguments, dates, daily
-- rates, the split, and sums and membership of any list, and nothing else.
use Rattle.std.specs.Prelude.{ℕ, zero, suc, ◌+◌, ◌-◌, ◌*◌, ◌/◌, min, Bool, true, false, cond, List, [], ◌∷◌, ◌++◌, map, leb, eqb}
use Rattle.std.proofs.Math.Option.{Option, none, some}
use Rattle.general_laws.specs.Members.{among}
use Rattle.general_laws.specs.Sums.{sum_below}
use Rattle.apportionment.specs.Apportionment.{part}
use Rattle.calendar.specs.Calendar.{day_count}
use Rattle.rates.specs.Rate.{daily_of}
use Rattle.book_model.specs.Call.{Opening, Call, Advance, Rate, Transfer, Settle}

-- "The tally is fed Open's arguments, then each call's and whether it was accepted, and reads nothing else."

pub record Fed : Type 0 where
  pub call : Call
  pub accepted : Bool

-- "It keeps today, the holders in order of first appearance and, for every day, rate, shares and settlement, if any."
pub record Tally : Type 0 where
  pub today : ℕ
  pub holders : List ℕ
  pub rate : (day : ℕ) → ℕ
  pub share : (holder day : ℕ) → ℕ
  pub paid : (day : ℕ) → Option ℕ

-- a holder's share in Open's lists
abbrev pub listed : List ℕ → List ℕ → ℕ → ℕ
listed [] ss h = 0
listed (x ∷ hs) [] h = 0
listed (x ∷ hs) (s ∷ ss) h = cond (eqb x h) s (listed hs ss h)

-- "Open sets today to 0, its rate and shares for all days"
unfoldable pub start : Opening → Tally
start o =
    record {
      today = 0;
      holders = o.holders;
      rate = λ day. o.annual;
      share = λ h day. listed o.holders o.shares h;
      paid = λ day. none;
    }

-- the day of a date, counted from the first day
abbrev pub day_of_date : Opening → ℕ → ℕ
day_of_date o date = day_count date - day_count o.first

-- "Advance sets today to its date"
unfoldable pub advance : Tally → ℕ → Tally
advance t day = record { today = day; holders = t.holders; rate = t.rate; share = t.share; paid = t.paid }

-- "Rate sets its rate from its date on"
unfoldable pub revise : Tally → ℕ → ℕ → Tally
revise t day annual =
    record {
      today = t.today;
      holders = t.holders;
      rate = λ d. cond (leb day d) annual (t.rate d);
      share = t.share;
      paid = t.paid;
    }

-- a share after parts moved from the cedent to the assignee
abbrev pub moved_share : ℕ → ℕ → ℕ → ℕ → ℕ → ℕ
moved_share c a n h share = cond (eqb h c) (share - n) (cond (eqb h a) (share + n) share)

abbrev pub with_holder : ℕ → List ℕ → List ℕ
with_holder h hs = cond (among h hs) hs (hs ++ (h ∷ []))

-- "Transfer moves parts today and later"
unfoldable pub transfer : Tally → ℕ → ℕ → ℕ → Tally
transfer t c a n =
    record {
      today = t.today;
      holders = with_holder a t.holders;
      rate = t.rate;
      share = λ h d. cond (leb t.today d) (moved_share c a n h (t.share h d)) (t.share h d);
      paid = t.paid;
    }

-- "Settle puts M down today"
unfoldable pub settle : Tally → ℕ → Tally
settle t m =
    record {
      today = t.today;
      holders = t.holders;
      rate = t.rate;
      share = t.share;
      paid = λ d. cond (eqb d t.today) (some m) (t.paid d);
    }

abbrev pub entered : Opening → Tally → Call → Tally
entered o t (Advance date) = advance t (day_of_date o date)
entered o t (Rate date annual) = revise t (day_of_date o date) annual
entered o t (Transfer c a n) = transfer t c a n
entered o t (Settle m) = settle t m

-- "A refused call changes nothing."
unfoldable pub fed_with : Opening → Tally → List Fed → Tally
fed_with o t [] = t
fed_with o t (x ∷ xs) = fed_with o (cond x.accepted (entered o t x.call) t) xs

-- The money. "From accrued, interest paid and principal paid 0, it goes through day 0 to today."

pub record Sums : Type 0 where
  pub accrued : ℕ
  pub paid_interest : ℕ
  pub paid_principal : ℕ

abbrev pub no_sums : Sums
no_sums = record { accrued = 0; paid_interest = 0; paid_principal = 0 }

-- "Due is accrued / 10^10, rounded down, less interest paid"
abbrev pub due_of : Sums → ℕ
due_of s = s.accrued / 10000000000 - s.paid_interest

-- "the day's M pays the lesser of M and due as interest, the rest as principal"
abbrev pub paying : Option ℕ → Sums → Sums
paying none s = s
paying (some m) s =
    record {
      accrued = s.accrued;
      paid_interest = s.paid_interest + min m (due_of s);
      paid_principal = s.paid_principal + (m - min m (due_of s));
    }

-- "The day's outstanding is the recognised cents less principal paid"
abbrev pub outstanding_of : ℕ → Sums → ℕ
outstanding_of cents s = cents - s.paid_principal

-- "on an elapsed day (before today) accrued grows by it times that day's d"
abbrev pub elapsing : ℕ → ℕ → Sums → Sums
elapsing cents d s =
    record {
      accrued = s.accrued + outstanding_of cents s * d;
      paid_interest = s.paid_interest;
      paid_principal = s.paid_principal;
    }

-- every day before this one gone through
unfoldable pub before : ℕ → (ℕ → ℕ) → (ℕ → Option ℕ) → ℕ → Sums
before cents daily paid zero = no_sums
before cents daily paid (suc day) = elapsing cents (daily day) (paying (paid day) (before cents daily paid day))

-- a day's settlement too
unfoldable pub through : ℕ → (ℕ → ℕ) → (ℕ → Option ℕ) → ℕ → Sums
through cents daily paid day = paying (paid day) (before cents daily paid day)

-- that day's d
abbrev pub daily_of_day : Tally → ℕ → ℕ
daily_of_day t day = daily_of (t.rate day)

unfoldable pub sums_on : Opening → Tally → ℕ → Sums
sums_on o t day = through o.cents (daily_of_day t) t.paid day

abbrev pub sums_today : Opening → Tally → Sums
sums_today o t = sums_on o t t.today

-- the outstanding of a day, its settlement made
unfoldable pub outstanding_on : Opening → Tally → ℕ → ℕ
outstanding_on o t day = outstanding_of o.cents (sums_on o t day)

-- The holders

abbrev pub share_today : Tally → ℕ → ℕ
share_today t h = t.share h t.today

-- a holder's shares, summed from one day to the day before another
unfoldable pub share_days : Tally → ℕ → ℕ → ℕ → ℕ
share_days t h from to = sum_below to (λ d. cond (leb from d) (t.share h d) 0)

abbrev pub is_settled : Option ℕ → Bool
is_settled none = false
is_settled (some m) = true

-- "the previous settlement's day (or day 0)"
unfoldable pub last_before : (ℕ → Option ℕ) → ℕ → ℕ
last_before paid zero = 0
last_before paid (suc d) = cond (is_settled (paid d)) d (last_before paid d)

-- "A settlement's w sums a holder's share from the previous settlement's day (or day 0) to the day before its own"
unfoldable pub weight : Tally → ℕ → ℕ → ℕ
weight t day h = share_days t h (last_before t.paid day) day

-- how many holders stand before one
abbrev pub place : ℕ → List ℕ → ℕ
place h [] = 0
place h (x ∷ hs) = cond (eqb x h) 0 (suc (place h hs))

-- "portions are as under Settle, in the holders' order"; 0 on a day without a settlement
abbrev pub portion_of : Option ℕ → List ℕ → ℕ → ℕ
portion_of none ws k = 0
portion_of (some m) ws k = part m ws k

unfoldable pub portion_on : Tally → ℕ → ℕ → ℕ
portion_on t h day = portion_of (t.paid day) (map (weight t day) t.holders) (place h t.holders)

-- what a holder has received: its portions of the settlements of day 0 to today
unfoldable pub received : Tally → ℕ → ℕ
received t h = sum_below (suc t.today) (portion_on t h)

-- "For each day left behind, every position gains its share in unit-days" and, at a settlement, "Unit-days become 0.": a holder's shares from
-- the last settlement's day (or day 0) to the day before today, a settlement of today included
unfoldable pub unit_days_of : Tally → ℕ → ℕ
unit_days_of t h = share_days t h (last_before t.paid (suc t.today)) t.today
