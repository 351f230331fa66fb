-- What the next line of a load can do: stop it with a refusal, end it, or go on. It is said of two loads at once, whose lines differ behind it.
use Rattle.std.proofs.Common.{ℕ, ◌+◌, ◌≤◌, ◌<◌, arith, ◌≡◌, refl, Bool, true, false, cond, not, List, [], ◌∷◌, eqb-true, leb, eqb, length}
use Rattle.std.proofs.lemmas.Bool.{eqb-false, not-false}
use Rattle.book_model.specs.declared.Book.{Book}
use Rattle.book_model.specs.Call.{Opening, Call}
use Rattle.book_model.specs.Calls.{opened_with, book_after, number_of}
use Rattle.book_model.proofs.Callers.{refusal_within, open_cases}
use Rattle.conservation.proofs.Callers.{call_cases}
use Rattle.general_laws.proofs.Choice.{choice}
use Rattle.file_model.specs.Order.{Order, Open, Finance, Later, End, Malformed, order_in}
use Rattle.file_model.specs.Load.{Outcome, Waiting, None, Waits, accepted, refused_by, opening_with, with_holder, load_from}
use Rattle.file_model.specs.Load.{after_call, after_open, financed, after_financing, ended, after_line, none_left, begins_with_f}

pub none_left_lem : (ls : List (List ℕ)) → none_left ls ≡ true → ls ≡ []
none_left_lem [] e = refl
none_left_lem (l ∷ ls) e = cc

-- The book refuses with no number over 14

call-most : (b : Book) (k : Call) → number_of b k ≤ 14
call-most b k = call_cases b k (λ n _. n ≤ 14) (λ r. (refusal_within r).1) (λ _. omega arith)

opening-most : (b : Book) (o : Opening) → (opened_with b o).answer.number ≤ 14
opening-most b o =
    open_cases b o.first (record { 0 = o.term }) o.annual (record { 0 = o.cents }) o.holders o.shares (λ r. r.answer.number ≤ 14)
    (λ r. (refusal_within r).1) (λ _. omega arith)

-- Two loads

pub by_both : (Q : Outcome → Outcome → Type 0) (t : Bool) {r r' q q' : Outcome} → (t ≡ true → Q r r') → (t ≡ false → Q q q')
    → Q (cond t r q) (cond t r' q')
by_both Q true f g = f refl
by_both Q false f g = g refl

module _ (before : Book) where
  -- a refusal of both at a line, for another reason than the file's end
  abbrev pub Stops : (Outcome → Outcome → Type 0) → (line : ℕ) → Type 0
  Stops Q line = (number : ℕ) → 0 < number → number < 22 → Q (refused_by before line number) (refused_by before line number)

  called : (Q : Outcome → Outcome → Type 0) (line number : ℕ) (b : Book) (rest rest' : Book → Outcome) → number ≤ 14 → Stops Q line
      → (number ≡ 0 → Q (rest b) (rest' b)) → Q (after_call before line number b rest) (after_call before line number b rest')
  called Q line number b rest rest' most stops goes =
      by_both Q (eqb number 0) (λ e. goes (eqb-true _ _ e)) (λ e. let some = eqb-false _ _ e in stops number (omega arith) (omega arith))

  -- what waits is opened first, whatever comes behind it
  pub after_open_lem : (Q : Outcome → Outcome → Type 0) (b : Book) (waiting : Waiting) (rest rest' : Book → Outcome)
      → ((line : ℕ) (o : Opening) → waiting ≡ Waits line o → Stops Q line) → ((opened : Book) → Q (rest opened) (rest' opened))
      → Q (after_open before b waiting rest) (after_open before b waiting rest')
  unfolding after_open
  after_open_lem Q b None rest rest' stops goes = goes b
  after_open_lem Q b (Waits line o) rest rest' stops goes =
      called Q line (opened_with b o).answer.number (opened_with b o).book rest rest' (opening-most b o) (stops line o refl)
      (λ _. goes (opened_with b o).book)

  -- the file's end, where an opening waits
  pub end_waits : (Q : Outcome → Outcome → Type 0) (b : Book) (line : ℕ) (o : Opening) (n : ℕ) → Stops Q line
      → Q (refused_by before (n + 1) 22) (refused_by before (n + 1) 22)
      → Q (load_from before b (Waits line o) n []) (load_from before b (Waits line o) n [])
  unfolding load_from after_open
  end_waits Q b line o n stops missing =
      called Q line (opened_with b o).answer.number (opened_with b o).book (λ _. refused_by before (n + 1) 22) (λ _. refused_by before (n + 1) 22)
      (opening-most b o) stops (λ _. missing)

  -- a line that doesn't begin with F, where no opening waits, whatever comes behind it
  module _ (n : ℕ) (Q : Order → Outcome → Outcome → Type 0) (stops : (order : Order) → Stops (Q order) (n + 1)) (b : Book) (last last' : Bool)
      (rest rest' : Book → Waiting → Outcome)
      (opens : (first term annual cents : ℕ)
      → Q (Open first term annual cents) (rest b (Waits (n + 1) (opening_with first term annual cents [] [])))
      (rest' b (Waits (n + 1) (opening_with first term annual cents [] []))))
      (calls : (k : Call) → number_of b k ≡ 0 → Q (Later k) (rest (book_after b k) None) (rest' (book_after b k) None))
      (ends : (count : ℕ) → Q (End count) (ended before b n count last) (ended before b n count last')) where
    pub after_line_lem : (order : Order) → Q order (after_line before b n order last rest) (after_line before b n order last' rest')
    unfolding after_line
    after_line_lem (Open first term annual cents) = opens first term annual cents
    after_line_lem (Finance h s) = stops (Finance h s) 21 (omega arith) (omega arith)
    after_line_lem (Later k) =
        called (Q (Later k)) (n + 1) (number_of b k) (book_after b k) (λ after. rest after None) (λ after. rest' after None) (call-most b k)
        (stops (Later k)) (calls k)
    after_line_lem (End count) = ends count
    after_line_lem Malformed = stops Malformed 21 (omega arith) (omega arith)

  -- the next line
  module _ (n : ℕ) (l : List ℕ) (ls ls' : List (List ℕ)) (Q : Order → Outcome → Outcome → Type 0) (stops : (order : Order) → Stops (Q order) (n + 1)) where
    -- where no opening waits
    module _ (b : Book)
        (opens : (first term annual cents : ℕ)
        → Q (Open first term annual cents) (load_from before b (Waits (n + 1) (opening_with first term annual cents [] [])) (n + 1) ls)
        (load_from before b (Waits (n + 1) (opening_with first term annual cents [] [])) (n + 1) ls'))
        (calls : (k : Call) → number_of b k ≡ 0
        → Q (Later k) (load_from before (book_after b k) None (n + 1) ls) (load_from before (book_after b k) None (n + 1) ls'))
        (ends : (count : ℕ) → Q (End count) (ended before b n count (none_left ls)) (ended before b n count (none_left ls'))) where
      pub both_next : Q (order_in l) (load_from before b None n (l ∷ ls)) (load_from before b None n (l ∷ ls'))
      unfolding load_from after_financing after_open
      both_next =
          by_both (Q (order_in l)) (begins_with_f l) (λ _. stops (order_in l) 21 (omega arith) (omega arith))
          (λ _.
          after_line_lem n Q stops b (none_left ls) (none_left ls') (λ after next. load_from before after next (n + 1) ls)
          (λ after next. load_from before after next (n + 1) ls') opens calls ends (order_in l))

    -- where one waits: an F line adds to it, and before another it is called
    module _ (b : Book) (line : ℕ) (o : Opening)
        (finances : (h s : ℕ)
        → Q (Finance h s) (load_from before b (Waits line (with_holder o h s)) (n + 1) ls) (load_from before b (Waits line (with_holder o h s)) (n + 1) ls'))
        (open_stops : Stops (Q (order_in l)) line)
        (opens : (opened_with b o).answer.number ≡ 0
        → Q (order_in l) (load_from before (opened_with b o).book None n (l ∷ ls)) (load_from before (opened_with b o).book None n (l ∷ ls'))) where
      by-financing : (order : Order)
          → Q order (financed before (n + 1) line o order (λ next. load_from before b next (n + 1) ls))
          (financed before (n + 1) line o order (λ next. load_from before b next (n + 1) ls'))
      by-financing (Finance h s) =
          by_both (Q (Finance h s)) (leb 64 (length o.holders)) (λ _. stops (Finance h s) 7 (omega arith) (omega arith)) (λ _. finances h s)
      by-financing (Open first term annual cents) = stops (Open first term annual cents) 21 (omega arith) (omega arith)
      by-financing (Later k) = stops (Later k) 21 (omega arith) (omega arith)
      by-financing (End count) = stops (End count) 21 (omega arith) (omega arith)
      by-financing Malformed = stops Malformed 21 (omega arith) (omega arith)

      pub both_waits : Q (order_in l) (load_from before b (Waits line o) n (l ∷ ls)) (load_from before b (Waits line o) n (l ∷ ls'))
      unfolding load_from after_financing after_open
      both_waits =
          by_both (Q (order_in l)) (begins_with_f l) (λ _. by-financing (order_in l))
          (λ other.
          called (Q (order_in l)) line (opened_with b o).answer.number (opened_with b o).book
          (λ opened. after_line before opened n (order_in l) (none_left ls) (λ after next. load_from before after next (n + 1) ls))
          (λ opened. after_line before opened n (order_in l) (none_left ls') (λ after next. load_from before after next (n + 1) ls'))
          (opening-most b o) open_stops (λ zero. rw other at (opens zero)))

-- One load, where P holds of every refusal, which leaves the book that came in

module _ (before : Book) (P : Outcome → Type 0) (refuses : (line number : ℕ) → (number ≡ 0 → ⊥) → P (refused_by before line number)) where
  -- at the file's end
  pub end_missing : (b : Book) (waiting : Waiting) (n : ℕ) → P (load_from before b waiting n [])
  unfolding load_from after_open
  end_missing b None n = refuses (n + 1) 22 (λ e. omega arith)
  end_missing b (Waits line o) n =
      end_waits before (λ r _. P r) b line o n (λ number some _. refuses line number (λ e. omega arith)) (refuses (n + 1) 22 (λ e. omega arith))

  end_cases : (b : Book) (n count : ℕ) (last : Bool) → (count ≡ n → last ≡ true → P (accepted n b)) → P (ended before b n count last)
  end_cases b n count last ends =
      choice P (not (eqb count n)) (λ _. refuses (n + 1) 22 (λ e. omega arith)) λ right.
      choice P (not last) (λ _. refuses (n + 2) 22 (λ e. omega arith)) λ e.
      ends (eqb-true _ _ (not-false _ right)) (not-false _ e)

module _ (before : Book) (P : Order → Outcome → Type 0)
    (refuses : (order : Order) (line number : ℕ) → (number ≡ 0 → ⊥) → P order (refused_by before line number)) where
  stopped : (order : Order) (line : ℕ) → Stops before (λ r _. P order r) line
  stopped order line number some _ = refuses order line number (λ e. omega arith)

  -- a line that doesn't begin with F, where no opening waits
  line_cases : (b : Book) (n : ℕ) (last : Bool) (rest : Book → Waiting → Outcome)
      → ((first term annual cents : ℕ) → P (Open first term annual cents) (rest b (Waits (n + 1) (opening_with first term annual cents [] []))))
      → ((k : Call) → number_of b k ≡ 0 → P (Later k) (rest (book_after b k) None))
      → ((count : ℕ) → count ≡ n → last ≡ true → P (End count) (accepted n b))
      → (order : Order) → P order (after_line before b n order last rest)
  line_cases b n last rest opens calls ends =
      after_line_lem before n (λ order r _. P order r) (λ order. stopped order (n + 1)) b last last rest rest opens calls
      (λ count. end_cases before (P (End count)) (refuses (End count)) b n count last (ends count))

  -- the next line, where no opening waits
  pub next_cases : (b : Book) (n : ℕ) (l : List ℕ) (ls : List (List ℕ))
      → ((first term annual cents : ℕ)
      → P (Open first term annual cents) (load_from before b (Waits (n + 1) (opening_with first term annual cents [] [])) (n + 1) ls))
      → ((k : Call) → number_of b k ≡ 0 → P (Later k) (load_from before (book_after b k) None (n + 1) ls))
      → ((count : ℕ) → count ≡ n → none_left ls ≡ true → P (End count) (accepted n b))
      → P (order_in l) (load_from before b None n (l ∷ ls))
  next_cases b n l ls opens calls ends =
      both_next before n l ls ls (λ order r _. P order r) (λ order. stopped order (n + 1)) b opens calls
      (λ count. end_cases before (P (End count)) (refuses (End count)) b n count (none_left ls) (ends count))

  -- the next line, where an opening waits
  pub waits_cases : (b : Book) (line : ℕ) (o : Opening) (n : ℕ) (l : List ℕ) (ls : List (List ℕ))
      → ((h s : ℕ) → P (Finance h s) (load_from before b (Waits line (with_holder o h s)) (n + 1) ls))
      → ((opened_with b o).answer.number ≡ 0 → P (order_in l) (load_from before (opened_with b o).book None n (l ∷ ls)))
      → P (order_in l) (load_from before b (Waits line o) n (l ∷ ls))
  waits_cases b line o n l ls finances opens =
      both_waits before n l ls ls (λ order r _. P order r) (λ order. stopped order (n + 1)) b line o finances (stopped (order_in l) line) opens
