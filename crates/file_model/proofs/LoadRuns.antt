-- An accepted file's book is the run of its lines' calls, and loads go on from reached books to reached books.
use Rattle.std.proofs.Common.{ℕ, ◌+◌, ◌<◌, arith, ◌≡◌, refl, sym, ap, subst, true, List, [], ◌∷◌, ◌++◌, map, eq-eqb}
use Rattle.book_model.specs.declared.Book.{Book}
use Rattle.book_model.specs.Book.{empty_book}
use Rattle.book_model.specs.Call.{Opening, Call}
use Rattle.book_model.specs.Calls.{opened_with, book_after, run}
use Rattle.book_model.specs.Reached.{Reached, opens}
use Rattle.book_model.proofs.Callers.{call-reached}
use Rattle.conservation.specs.Conservation.{opening_of, feed_of, Conserved, History}
use Rattle.conservation.specs.Tally.{start, fed_with}
use Rattle.conservation.proofs.Callers.{conserved as calls-conserved, reached-conserved}
use Rattle.lines.specs.Lines.{lines}
use Rattle.file_model.specs.Order.{Order, Open, Finance, Later, End, order_in}
use Rattle.file_model.specs.Load.{Outcome, Waiting, None, Waits, opening_with, with_holder, load_from, load_of}
use Rattle.file_model.specs.Loads.{orders_in, collected, later_calls, holder_in, share_in, opening_from, opening_in, all_accepted}
use Rattle.file_model.specs.Loads.{call_lines, financing_lines, FromOpen, FromEmpty}
use Rattle.file_model.proofs.LoadCases.{none_left_lem, end_missing, next_cases, waits_cases}
use Rattle.file_model.proofs.OpeningHolders.{with_holders, with_no_holder, with_holder_first}
use Rattle.file_model.proofs.OpenBooks.{stays_open, opening-refused, call_on_empty, opening-opens}

-- Lines on an open book

-- what an accepted load from a book on did: its lines' calls and an E line, and no F line
record Ran (b : Book) (os : List Order) (r : Outcome) : Type 0 where
  every-line : os ≡ call_lines (later_calls os) r.count
  calls-accepted : all_accepted b (later_calls os) ≡ true
  is-run : r.book ≡ run b (later_calls os)
  no_holders : collected holder_in os ≡ []
  no_shares : collected share_in os ≡ []

module _ (before : Book) where
  -- no opening is accepted
  waits_refused : (ls : List (List ℕ)) (b : Book) (line : ℕ) (o : Opening) (n : ℕ)
      → b.opened ≡ true → (load_from before b (Waits line o) n ls).number ≡ 0 → ⊥
  waits_refused [] b line o n is_open = end_missing before (λ r. r.number ≡ 0 → ⊥) (λ _ _ refused. refused) b (Waits line o) n
  waits_refused (l ∷ ls) b line o n is_open =
      waits_cases before (λ _ r. r.number ≡ 0 → ⊥) (λ _ _ _ refused. refused) b line o n l ls
      (λ h s. waits_refused ls b line (with_holder o h s) (n + 1) is_open)
      (λ zero. absurd {0} (opening-refused b is_open o zero))

  runs : (ls : List (List ℕ)) (b : Book) (n : ℕ) → b.opened ≡ true
      → (load_from before b None n ls).number ≡ 0 → Ran b (map order_in ls) (load_from before b None n ls)
  unfolding collected all_accepted run
  runs [] b n is_open = end_missing before (λ r. r.number ≡ 0 → Ran b [] r) (λ _ _ refused e. absurd (refused e)) b None n
  runs (l ∷ ls) b n is_open =
      next_cases before (λ order r. r.number ≡ 0 → Ran b (order ∷ map order_in ls) r) (λ _ _ _ refused e. absurd (refused e)) b n l ls
      (λ first term annual cents e. absurd (waits_refused ls b (n + 1) (opening_with first term annual cents [] []) (n + 1) is_open e))
      (λ k number e.
      let rest = runs ls (book_after b k) (n + 1) (stays_open b is_open k) e in
      record {
        every-line = ap (λ (os : List Order). Later k ∷ os) rest.every-line;
        calls-accepted = rw (eq-eqb _ _ number) rest.calls-accepted;
        is-run = rest.is-run;
        no_holders = rest.no_holders;
        no_shares = rest.no_shares;
      })
      (λ count right last _.
      rw (none_left_lem ls last)
      (record {
        every-line = ap (λ (n : ℕ). End n ∷ []) right;
        calls-accepted = refl;
        is-run = refl;
        no_holders = refl;
        no_shares = refl;
      }))

-- Lines on the empty book

-- what an accepted load did by an opening and calls: its lines are those in front, the calls and an E line
record Founded (o : Opening) (ks : List Call) (front os : List Order) (r : Outcome) : Type 0 where
  every-line : os ≡ front ++ call_lines ks r.count
  opening-accepted : (opening_of o).answer.number ≡ 0
  calls-accepted : all_accepted (opening_of o).book ks ≡ true
  is-run : r.book ≡ run (opening_of o).book ks

-- a line more in front
founded-behind : (order : Order) (o : Opening) (ks : List Call) (front os : List Order) (r : Outcome)
    → Founded o ks front os r → Founded o ks (order ∷ front) (order ∷ os) r
founded-behind order o ks front os r made =
    record {
      every-line = ap (λ (rest : List Order). order ∷ rest) made.every-line;
      opening-accepted = made.opening-accepted;
      calls-accepted = made.calls-accepted;
      is-run = made.is-run;
    }

-- the F lines among lines
abbrev financing_in : List Order → List Order
financing_in os = financing_lines (collected holder_in os) (collected share_in os)

-- an opening with the holders and shares of the lines behind it
abbrev completed : Opening → List Order → Opening
completed o os = with_holders o (collected holder_in os) (collected share_in os)

completed_by_none : (o : Opening) (os : List Order) → collected holder_in os ≡ [] → collected share_in os ≡ [] → completed o os ≡ o
completed_by_none o os hs ss = rw (hs, ss) (with_no_holder o)

completed_by_one : (o : Opening) (h s : ℕ) (os : List Order) → completed (with_holder o h s) os ≡ completed o (Finance h s ∷ os)
unfolding collected
completed_by_one o h s os = with_holder_first o h s (collected holder_in os) (collected share_in os)

-- in front are the O line and the F lines of the opening
abbrev FoundedBy : Opening → List Order → Outcome → Type 0
FoundedBy o os r =
    Founded o (later_calls os) (Open o.first o.term o.annual o.cents ∷ financing_lines o.holders o.shares) os r

-- the opening waited, and in front are the F lines behind it
abbrev FoundedBehind : Opening → List Order → Outcome → Type 0
FoundedBehind o os r = Founded (completed o os) (later_calls os) (financing_in os) os r

module _ (before : Book) where
  founds : (ls : List (List ℕ)) (line : ℕ) (o : Opening) (n : ℕ) → (load_from before empty_book (Waits line o) n ls).number ≡ 0
      → FoundedBehind o (map order_in ls) (load_from before empty_book (Waits line o) n ls)
  unfolding collected
  founds [] line o n =
      end_missing before (λ r. r.number ≡ 0 → FoundedBehind o [] r) (λ _ _ refused e. absurd (refused e)) empty_book (Waits line o) n
  founds (l ∷ ls) line o n =
      waits_cases before (λ order r. r.number ≡ 0 → FoundedBehind o (order ∷ map order_in ls) r)
      (λ _ _ _ refused e. absurd (refused e)) empty_book line o n l ls
      (λ h s e.
      let os = map order_in ls in
      let r = load_from before empty_book (Waits line (with_holder o h s)) (n + 1) ls in
      founded-behind (Finance h s) (completed o (Finance h s ∷ os)) (later_calls os) (financing_in os) os r
      (subst (λ p. Founded p (later_calls os) (financing_in os) os r) (completed_by_one o h s os) (founds ls line (with_holder o h s) (n + 1) e)))
      (λ number e.
      let os = map order_in (l ∷ ls) in
      let rest = runs before (l ∷ ls) (opening_of o).book n (opening-opens o number) e in
      subst (λ p. Founded p (later_calls os) (financing_in os) os (load_from before (opening_of o).book None n (l ∷ ls)))
      (sym (completed_by_none o os rest.no_holders rest.no_shares))
      (record {
        every-line = rw rest.no_holders rest.every-line;
        opening-accepted = number;
        calls-accepted = rest.calls-accepted;
        is-run = rest.is-run;
      }))

  -- the first line opens, or is E alone
  founds-first : (ls : List (List ℕ)) → (load_from before empty_book None 0 ls).number ≡ 0 → 0 < (load_from before empty_book None 0 ls).count
      → FoundedBy (opening_in (map order_in ls)) (map order_in ls) (load_from before empty_book None 0 ls)
  unfolding collected
  founds-first [] =
      end_missing before (λ r. r.number ≡ 0 → 0 < r.count → FoundedBy (opening_in []) [] r)
      (λ _ _ refused e _. absurd (refused e)) empty_book None 0
  founds-first (l ∷ ls) =
      next_cases before (λ order r. r.number ≡ 0 → 0 < r.count → FoundedBy (opening_from order (map order_in ls)) (order ∷ map order_in ls) r)
      (λ _ _ _ refused e _. absurd (refused e)) empty_book 0 l ls
      (λ first term annual cents e _.
      let os = map order_in ls in
      let o = opening_with first term annual cents [] [] in
      founded-behind (Open first term annual cents) (completed o os) (later_calls os) (financing_in os) os
      (load_from before empty_book (Waits 1 o) 1 ls) (founds ls 1 o 1 e))
      (λ k number _ _. absurd (call_on_empty k number))
      (λ count _ last _ some. absurd (omega arith))

-- Reached books

module _ (before : Book) (was : Reached before) where
  abbrev Keeps : List (List ℕ) → Type 0
  Keeps ls = (waiting : Waiting) (b : Book) (n : ℕ) → Reached b → Reached (load_from before b waiting n ls).book

  reached-next : (l : List ℕ) (ls : List (List ℕ)) → Keeps ls → (b : Book) (n : ℕ) → Reached b → Reached (load_from before b None n (l ∷ ls)).book
  reached-next l ls rest b n r =
      next_cases before (λ _ o. Reached o.book) (λ _ _ _ _. was) b n l ls
      (λ first term annual cents. rest (Waits (n + 1) (opening_with first term annual cents [] [])) b (n + 1) r)
      (λ k _. rest None (book_after b k) (n + 1) (call-reached b r k))
      (λ _ _ _. r)

  reached-from : (ls : List (List ℕ)) → Keeps ls
  reached-from [] waiting b n r = end_missing before (λ o. Reached o.book) (λ _ _ _. was) b waiting n
  reached-from (l ∷ ls) None b n r = reached-next l ls (reached-from ls) b n r
  reached-from (l ∷ ls) (Waits line o) b n r =
      waits_cases before (λ _ o. Reached o.book) (λ _ _ _ _. was) b line o n l ls
      (λ h s. reached-from ls (Waits line (with_holder o h s)) b (n + 1) r)
      (λ _.
      reached-next l ls (reached-from ls) (opened_with b o).book n
      (opens r o.first (record { 0 = o.term }) o.annual (record { 0 = o.cents }) o.holders o.shares))

-- The theorems

pub from_open : (b : Book) (s : List ℕ) → b.opened ≡ true → (load_of b s).number ≡ 0 → FromOpen b s
unfolding load_of
from_open b [] is_open e = absurd (omega arith)
from_open b (x ∷ s) is_open e =
    let ran = runs b (lines (x ∷ s)) b 0 is_open e in
    record { every-line = ran.every-line; calls-accepted = ran.calls-accepted; is-run = ran.is-run }

pub from_empty : (s : List ℕ) → (load_of empty_book s).number ≡ 0 → 0 < (load_of empty_book s).count
    → FromEmpty s (opening_in (orders_in s)) (later_calls (orders_in s))
unfolding load_of
from_empty [] e some = absurd (omega arith)
from_empty (x ∷ s) e some =
    let o = opening_in (orders_in (x ∷ s)) in
    let ks = later_calls (orders_in (x ∷ s)) in
    let made = founds-first empty_book (lines (x ∷ s)) e some in
    record {
      every-line = made.every-line;
      opening-accepted = made.opening-accepted;
      calls-accepted = made.calls-accepted;
      is-run = made.is-run;
      conserved =
          subst (λ b. Conserved o b (fed_with o (start o) (feed_of (opening_of o).book ks)) (feed_of (opening_of o).book ks)) (sym made.is-run)
          (calls-conserved o ks made.opening-accepted);
    }

pub reached-kept : (b : Book) (s : List ℕ) → Reached b → Reached (load_of b s).book
unfolding load_of
reached-kept b [] r = r
reached-kept b (x ∷ s) r = reached-from b r (lines (x ∷ s)) None b 0 r

pub conserved : (b : Book) (s : List ℕ) → Reached b → (load_of b s).book.opened ≡ true → History (load_of b s).book
conserved b s r is_open = reached-conserved (load_of b s).book (reached-kept b s r) is_open
