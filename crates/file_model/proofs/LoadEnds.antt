-- The empty part at a file's end is named for 22 without an E line, and for no other refusal of a file with a byte.
use Rattle.std.proofs.Common.{ℕ, zero, suc, ◌+◌, ◌≤◌, ◌<◌, arith, ◌≡◌, refl, sym, ◌∙◌, not, List, [], ◌∷◌, eqb, length, get_or}
use Rattle.book_model.specs.declared.Book.{Book}
use Rattle.book_model.specs.Call.{Opening}
use Rattle.book_model.specs.Calls.{opened_with, book_after}
use Rattle.general_laws.proofs.Choice.{choice}
use Rattle.line.specs.Line.{line_of}
use Rattle.lines.specs.Lines.{lines}
use Rattle.file_model.specs.Order.{Order, End, order_in}
use Rattle.file_model.specs.Load.{Outcome, Waiting, None, Waits, refused_by, ended, load_from, load_of}
use Rattle.file_model.specs.Load.{after_open, none_left}
use Rattle.file_model.proofs.LoadCases.{Stops, end_waits, both_next, both_waits}

-- Lines that stand behind n others

abbrev NoEnd : List (List ℕ) → Type 0
NoEnd ls = (i count : ℕ) → order_in (get_or ls i []) ≡ End count → ⊥

-- the line that an outcome names: none or one of the lines, with an E line among them if the number is 22; or the one behind them
data Named (n : ℕ) (ls : List (List ℕ)) (r : Outcome) : Type 0 where
  among : r.line ≤ n + length ls → (r.number ≡ 22 → NoEnd ls → ⊥) → Named n ls r
  behind : r.number ≡ 22 → r.line ≡ suc (n + length ls) → NoEnd ls → Named n ls r

-- an O line that waits is one of the lines before
abbrev Earlier : Waiting → ℕ → Type 0
Earlier None n = Unit {0}
Earlier (Waits line o) n = line ≤ n

refuses : (before : Book) (n line number : ℕ) (ls : List (List ℕ)) → line ≤ n + length ls → number < 22 → Named n ls (refused_by before line number)
refuses before n line number ls within low = among within (λ e. absurd (omega arith))

-- the file's end
end-named : (before : Book) (n : ℕ) → Named n [] (refused_by before (n + 1) 22)
unfolding order_in line_of
end-named before n = behind refl (omega arith) (λ i count e. cc)

-- a line, where the lines behind it are known
module _ (before : Book) (l : List ℕ) (ls : List (List ℕ))
    (rest : (b : Book) (waiting : Waiting) (n : ℕ) → Earlier waiting n → Named n ls (load_from before b waiting n ls)) (n : ℕ) where
  -- an outcome of the lines behind one that is no E line
  later : (order : Order) → order_in l ≡ order → ((count : ℕ) → order ≡ End count → ⊥) → (r : Outcome) → Named (n + 1) ls r → Named n (l ∷ ls) r
  later order is other r (among within some) = among (omega arith) (λ e none. some e (λ i. none (suc i)))
  later order is other r (behind number line none) = behind number (omega arith) last
    where
      last : NoEnd (l ∷ ls)
      last zero count e = other count (sym is ∙ e)
      last (suc i) count e = none i count e

  -- at an E line: its own, the one behind it if there is one, or none
  at-end : (b : Book) (count : ℕ) → order_in l ≡ End count → Named n (l ∷ ls) (ended before b n count (none_left ls))
  at-end b count is = among (by-rest ls) (λ _ none. none 0 count is)
    where
      by-rest : (xs : List (List ℕ)) → (ended before b n count (none_left xs)).line ≤ n + length (l ∷ xs)
      by-rest [] = choice (λ (r : Outcome). r.line ≤ n + length (l ∷ [])) (not (eqb count n)) (λ _. omega arith) (λ _. omega arith)
      by-rest (x ∷ xs) = choice (λ (r : Outcome). r.line ≤ n + length (l ∷ x ∷ xs)) (not (eqb count n)) (λ _. omega arith) (λ _. omega arith)

  -- what is said of the lines, by what this one orders
  abbrev NamedBy : Order → Outcome → Outcome → Type 0
  NamedBy order r _ = order_in l ≡ order → Named n (l ∷ ls) r

  stops : (order : Order) (line : ℕ) → line ≤ n + 1 → Stops before (NamedBy order) line
  stops order line within number _ low _ = refuses before n line number (l ∷ ls) (omega arith) low

  next-named : (b : Book) → Named n (l ∷ ls) (load_from before b None n (l ∷ ls))
  next-named b =
      both_next before n l ls ls NamedBy (λ order. stops order (n + 1) (omega arith)) b
      (λ first term annual cents is. later _ is (λ count e. cc) _ (rest b (Waits (n + 1) _) (n + 1) (omega arith)))
      (λ k _ is. later _ is (λ count e. cc) _ (rest (book_after b k) None (n + 1) tt))
      (λ count is. at-end b count is) refl

  waits-named : (b : Book) (line : ℕ) (o : Opening) → line ≤ n → Named n (l ∷ ls) (load_from before b (Waits line o) n (l ∷ ls))
  waits-named b line o earlier =
      both_waits before n l ls ls NamedBy (λ order. stops order (n + 1) (omega arith)) b line o
      (λ h s is. later _ is (λ count e. cc) _ (rest b (Waits line _) (n + 1) (omega arith)))
      (stops _ line (omega arith)) (λ _ _. next-named (opened_with b o).book) refl

-- All lines

names : (before b : Book) (waiting : Waiting) (n : ℕ) (ls : List (List ℕ)) → Earlier waiting n → Named n ls (load_from before b waiting n ls)
unfolding load_from after_open
names before b None n [] earlier = end-named before n
names before b (Waits line o) n [] earlier =
    end_waits before (λ r _. Named n [] r) b line o n (λ number _ low. refuses before n line number [] (omega arith) low) (end-named before n)
names before b None n (l ∷ ls) earlier = next-named before l ls (λ b waiting n. names before b waiting n ls) n b
names before b (Waits line o) n (l ∷ ls) earlier = waits-named before l ls (λ b waiting n. names before b waiting n ls) n b line o earlier

-- The theorems

pub end_missing : (b : Book) (s : List ℕ) → (load_of b s).number ≡ 22 → ((n count : ℕ) → order_in (get_or (lines s) n []) ≡ End count → ⊥)
    → (load_of b s).line ≡ suc (length (lines s))
unfolding load_of
end_missing b [] e none = absurd (omega arith)
end_missing b (x ∷ s) e none = by_name (names b b None 0 (lines (x ∷ s)) tt)
  where
    by_name : Named 0 (lines (x ∷ s)) (load_from b b None 0 (lines (x ∷ s))) → (load_from b b None 0 (lines (x ∷ s))).line ≡ suc (length (lines (x ∷ s)))
    by_name (among within some) = absurd (some e none)
    by_name (behind number line _) = omega arith

pub empty-part : (b : Book) (s : List ℕ) → 0 < length s → (load_of b s).line ≡ suc (length (lines s))
    → ((load_of b s).number ≡ 22) × ((n count : ℕ) → order_in (get_or (lines s) n []) ≡ End count → ⊥)
unfolding load_of
empty-part b [] some e = absurd (omega arith)
empty-part b (x ∷ s) some e = by_name (names b b None 0 (lines (x ∷ s)) tt)
  where
    by_name : Named 0 (lines (x ∷ s)) (load_from b b None 0 (lines (x ∷ s)))
        → ((load_from b b None 0 (lines (x ∷ s))).number ≡ 22) × NoEnd (lines (x ∷ s))
    by_name (among within _) = absurd (omega arith)
    by_name (behind number line none) = (number, none)
