-- What a load answers of a file: an accepted one ends in its own E line, a refused one leaves the book and names a line.
use Rattle.std.proofs.Common.{◌≡◌, refl, sym, ap, subst, ◌∙◌, Bool, true, false, cond, not, ◌&&◌, List, [], ◌∷◌, ◌++◌, ℕ, zero, suc, ◌+◌, ◌-◌, ◌≤◌, ◌<◌, arith, eqb, length, get_or, take, drop, length-append, length-drop, take-append-drop, get_or-append-add, eqb-true}
use Rattle.std.proofs.Math.ListN.{get_or-append}
use Rattle.std.proofs.lemmas.Bool.{not-false}
use Rattle.book_model.specs.declared.Book.{Book}
use Rattle.book_model.specs.Calls.{opened_with, book_after}
use Rattle.line.specs.Field.{field_at, padded, justified}
use Rattle.line.specs.Line.{uses_of, assembled_of, columns_of, line_of, malformed_number, no_fields}
use Rattle.line.specs.Write.{field_bytes, bytes_under, line_bytes}
use Rattle.lines.specs.Lines.{lines}
use Rattle.lines.specs.LineParts.{concatenated}
use Rattle.lines.proofs.Callers.{parts, lines-append, lines-some}
use Rattle.file_model.specs.declared.LoadRefusal.TheVariants as refusal
use Rattle.book_model.specs.Call.{Opening}
use Rattle.file_model.specs.Load.{Outcome, Waiting, None, Waits, accepted, refused, refused_by, ended, after_open, after_line, none_left, load_from, load_of}
use Rattle.file_model.specs.Loads.{end_alone_file}
use Rattle.file_model.proofs.LoadCases.{Stops, by_both, end_waits, both_next, both_waits}
use Rattle.file_model.specs.Order.{Order, End, Malformed, order_of, order_in}

-- What is said of the outcome of lines that stand behind n others

-- accepted: the last line, which has k before it, is E with the count of all lines before it, and a line more would be refused
record Taken (before : Book) (n : ℕ) (ls : List (List ℕ)) (k : ℕ) (r longer : Outcome) : Type 0 where
  number-zero : r.number ≡ 0
  line-zero : r.line ≡ 0
  counted : r.count ≡ n + k
  is_last : length ls ≡ suc k
  is-end : order_in (get_or ls k []) ≡ End (n + k)
  longer_refused : longer ≡ refused before (n + k + 2) refusal.Unfinished

-- refused: the book is the one that came in, and the line is one of the file's, or the one behind them
record Turned (before : Book) (n : ℕ) (ls : List (List ℕ)) (r : Outcome) : Type 0 where
  numbered : r.number ≡ 0 → ⊥
  left : r.book ≡ before
  uncounted : r.count ≡ 0
  first_or_later : 1 ≤ r.line
  last_or_earlier : r.line ≤ n + length ls + 1

data Result (before : Book) (n : ℕ) (ls : List (List ℕ)) (r longer : Outcome) : Type 0 where
  taken : (k : ℕ) → Taken before n ls k r longer → Result before n ls r longer
  turned : Turned before n ls r → Result before n ls r longer

-- an O line that waits is one of the lines before
abbrev Named : Waiting → ℕ → Type 0
Named None n = Unit {0}
Named (Waits line o) n = (1 ≤ line) × (line ≤ n)

turned_at : (before : Book) (n line number : ℕ) (ls : List (List ℕ)) → 0 < number → 1 ≤ line → line ≤ n + length ls + 1
    → Turned before n ls (refused_by before line number)
turned_at before n line number ls some first last =
    record { numbered = λ e. omega arith; left = refl; uncounted = refl; first_or_later = first; last_or_earlier = last }

-- A line, where the lines behind it are known, and with a line more behind those

module _ (before : Book) (l : List ℕ) (ls : List (List ℕ)) (m : List ℕ) (ms : List (List ℕ))
    (rest : (b : Book) (waiting : Waiting) (n : ℕ) → Named waiting n
    → Result before n ls (load_from before b waiting n ls) (load_from before b waiting n (ls ++ m ∷ ms)))
    (n : ℕ) where
  behind : (r longer : Outcome) → Result before (n + 1) ls r longer → Result before n (l ∷ ls) r longer
  behind r longer (taken k t) =
      taken (suc k)
      (record {
        number-zero = t.number-zero;
        line-zero = t.line-zero;
        counted = omega (arith, t.counted);
        is_last = omega (arith, t.is_last);
        is-end = t.is-end ∙ ap End (omega arith);
        longer_refused = t.longer_refused ∙ ap (λ (line : ℕ). refused before line refusal.Unfinished) (omega arith);
      })
  behind r longer (turned t) =
      turned
      (record {
        numbered = t.numbered;
        left = t.left;
        uncounted = t.uncounted;
        first_or_later = t.first_or_later;
        last_or_earlier = omega (arith, t.last_or_earlier);
      })

  -- what is said of the lines, by what this one orders
  abbrev ResultBy : Order → Outcome → Outcome → Type 0
  ResultBy order r longer = order_in l ≡ order → Result before n (l ∷ ls) r longer

  stops : (order : Order) (line : ℕ) → 1 ≤ line → line ≤ n + 1 → Stops before (ResultBy order) line
  stops order line first last number some _ _ = turned (turned_at before n line number (l ∷ ls) some first (omega arith))

  -- E as the last line is accepted, if its count is right; with a line more behind it, that line is at fault
  at-end : (b : Book) (count : ℕ) → ResultBy (End count) (ended before b n count (none_left ls)) (ended before b n count (none_left (ls ++ m ∷ ms)))
  at-end b count e =
      by_both (Result before n (l ∷ ls)) (not (eqb count n))
      (λ _. turned (turned_at before n (n + 1) 22 (l ∷ ls) (omega arith) (omega arith) (omega arith)))
      (λ t. last_or_not ls (eqb-true count n (not-false _ t)))
    where
      last_or_not : (xs : List (List ℕ)) → count ≡ n
          → Result before n (l ∷ xs)
          (cond (not (none_left xs)) (refused before (n + 2) refusal.Unfinished) (accepted n b))
          (cond (not (none_left (xs ++ m ∷ ms))) (refused before (n + 2) refusal.Unfinished) (accepted n b))
      last_or_not [] c =
          taken 0
          (record {
            number-zero = refl;
            line-zero = refl;
            counted = omega arith;
            is_last = refl;
            is-end = e ∙ ap End (omega arith);
            longer_refused = ap (λ (line : ℕ). refused before line refusal.Unfinished) (omega arith);
          })
      last_or_not (x ∷ xs) c = turned (turned_at before n (n + 2) 22 (l ∷ x ∷ xs) (omega arith) (omega arith) (omega arith))

  next-result : (b : Book) → Result before n (l ∷ ls) (load_from before b None n (l ∷ ls)) (load_from before b None n (l ∷ ls ++ m ∷ ms))
  next-result b =
      both_next before n l ls (ls ++ m ∷ ms) ResultBy (λ order. stops order (n + 1) (omega arith) (omega arith)) b
      (λ first term annual cents _. behind _ _ (rest b (Waits (n + 1) _) (n + 1) (omega arith)))
      (λ k _ _. behind _ _ (rest (book_after b k) None (n + 1) tt))
      (at-end b) refl

  waits-result : (b : Book) (line : ℕ) (o : Opening) → Named (Waits line o) n
      → Result before n (l ∷ ls) (load_from before b (Waits line o) n (l ∷ ls)) (load_from before b (Waits line o) n (l ∷ ls ++ m ∷ ms))
  waits-result b line o named =
      both_waits before n l ls (ls ++ m ∷ ms) ResultBy (λ order. stops order (n + 1) (omega arith) (omega arith)) b line o
      (λ h s _. behind _ _ (rest b (Waits line _) (n + 1) (omega arith)))
      (stops _ line named.0 (omega arith)) (λ _ _. next-result (opened_with b o).book) refl

-- All lines

missing : (before : Book) (n : ℕ) → Turned before n [] (refused_by before (n + 1) 22)
missing before n = turned_at before n (n + 1) 22 [] (omega arith) (omega arith) (omega arith)

results : (before b : Book) (waiting : Waiting) (n : ℕ) (ls : List (List ℕ)) (m : List ℕ) (ms : List (List ℕ)) → Named waiting n
    → Result before n ls (load_from before b waiting n ls) (load_from before b waiting n (ls ++ m ∷ ms))
unfolding load_from after_open
results before b None n [] m ms named = turned (missing before n)
results before b (Waits line o) n [] m ms named =
    turned
    (end_waits before (λ r _. Turned before n [] r) b line o n (λ number some _. turned_at before n line number [] some named.0 (omega arith)) (missing before n))
results before b None n (l ∷ ls) m ms named = next-result before l ls m ms (λ b waiting n. results before b waiting n ls m ms) n b
results before b (Waits line o) n (l ∷ ls) m ms named = waits-result before l ls m ms (λ b waiting n. results before b waiting n ls m ms) n b line o named

-- The whole file

of_file : (b : Book) (s : List ℕ) (m : List ℕ) (ms : List (List ℕ)) → Result b 0 (lines s) (load_of b s) (load_from b b None 0 (lines s ++ m ∷ ms))
unfolding load_of lines
of_file b [] m ms = turned (turned_at b 0 1 20 [] (omega arith) (omega arith) (omega arith))
of_file b (x ∷ s) m ms = results b b None 0 (lines (x ∷ s)) m ms tt

-- an accepted file's last line, which has `count` before it
record Accepted (b : Book) (s : List ℕ) : Type 0 where
  line-zero : (load_of b s).line ≡ 0
  is_last : length (lines s) ≡ suc (load_of b s).count
  is-end : order_in (get_or (lines s) (load_of b s).count []) ≡ End (load_of b s).count

if_accepted : (b : Book) (s : List ℕ) → (load_of b s).number ≡ 0 → Accepted b s
if_accepted b s h = by_result (of_file b s [] [])
  where
    by_result : Result b 0 (lines s) (load_of b s) (load_from b b None 0 (lines s ++ [] ∷ [])) → Accepted b s
    by_result (taken k t) =
        let c : (load_of b s).count ≡ k = omega (arith, t.counted) in
        record {
          line-zero = t.line-zero;
          is_last = omega (arith, t.is_last);
          is-end = rw c (t.is-end ∙ ap End (omega arith));
        }
    by_result (turned t) = absurd (t.numbered h)

if_refused : (b : Book) (s : List ℕ) → ((load_of b s).number ≡ 0 → ⊥) → Turned b 0 (lines s) (load_of b s)
if_refused b s h = by_result (of_file b s [] [])
  where
    by_result : Result b 0 (lines s) (load_of b s) (load_from b b None 0 (lines s ++ [] ∷ [])) → Turned b 0 (lines s) (load_of b s)
    by_result (taken k t) = absurd (h t.number-zero)
    by_result (turned t) = t

pub count_of_lines : (b : Book) (s : List ℕ) → (load_of b s).number ≡ 0 → length (lines s) ≡ suc (load_of b s).count
count_of_lines b s h = (if_accepted b s h).is_last

pub count_of_end : (b : Book) (s : List ℕ) → (load_of b s).number ≡ 0 → order_in (get_or (lines s) (load_of b s).count []) ≡ End (load_of b s).count
count_of_end b s h = (if_accepted b s h).is-end

pub refused_leaves : (b : Book) (s : List ℕ) → ((load_of b s).number ≡ 0 → ⊥) → ((load_of b s).book ≡ b) × ((load_of b s).count ≡ 0)
refused_leaves b s h = ((if_refused b s h).left, (if_refused b s h).uncounted)

pub refused-names : (b : Book) (s : List ℕ) → ((load_of b s).number ≡ 0 → ⊥) → (1 ≤ (load_of b s).line) × ((load_of b s).line ≤ length (lines s) + 1)
refused-names b s h = ((if_refused b s h).first_or_later, omega (arith, (if_refused b s h).last_or_earlier))

pub accepted_names_none : (b : Book) (s : List ℕ) → (load_of b s).number ≡ 0 → (load_of b s).line ≡ 0
accepted_names_none b s h = (if_accepted b s h).line-zero

pub empty-refused : (b : Book) → load_of b [] ≡ refused b 1 refusal.Empty
unfolding load_of
empty-refused b = refl

-- An accepted file ends in a line feed, so that bytes behind it are lines of their own

-- as every line that is well-formed
record Fed (l : List ℕ) : Type 0 where
  whole : length l ≡ 43
  fed : get_or l 42 0 ≡ 10

end-fed : (l : List ℕ) (count : ℕ) → order_in l ≡ End count → Fed l
unfolding order_in line_of
end-fed l count h = by_form (eqb (length l) 43) (eqb (get_or l 42 0) 10) refl refl h
  where
    by_form : (t u : Bool) → eqb (length l) 43 ≡ t → eqb (get_or l 42 0) 10 ≡ u
        → cond (eqb (cond (t && u) (columns_of l) (malformed_number, no_fields)).0 0) (order_of (cond (t && u) (columns_of l) (malformed_number, no_fields)).1) Malformed
        ≡ End count → Fed l
    by_form true true p q e = record { whole = eqb-true _ _ p; fed = eqb-true _ _ q }
    by_form true false p q e = cc
    by_form false u p q e = cc

last-fed : (ls : List (List ℕ)) (k : ℕ) → length ls ≡ suc k → Fed (get_or ls k [])
    → (0 < length (concatenated ls)) × (get_or (concatenated ls) (length (concatenated ls) - 1) 0 ≡ 10)
last-fed [] k h f = absurd (omega arith)
last-fed (l ∷ []) zero h f =
    let n : length (l ++ []) ≡ 43 = omega (arith, length-append l [], f.whole) in
    (omega arith, ap (λ (i : ℕ). get_or (l ++ []) (i - 1) 0) n ∙ get_or-append l [] 0 42 (omega (arith, f.whole)) ∙ f.fed)
last-fed (l ∷ m ∷ ms) zero h f = absurd (omega arith)
last-fed (l ∷ ms) (suc k) h f =
    let r = last-fed ms k (omega arith) f in
    let n : length (l ++ concatenated ms) - 1 ≡ length l + (length (concatenated ms) - 1) =
    omega (arith, length-append l (concatenated ms), r.0) in (
      omega (arith, length-append l (concatenated ms), r.0),
      ap (λ (i : ℕ). get_or (l ++ concatenated ms) i 0) n ∙ get_or-append-add l (concatenated ms) (length (concatenated ms) - 1) 0 ∙ r.1,
    )

file-fed : (b : Book) (s : List ℕ) → (load_of b s).number ≡ 0 → get_or s (length s - 1) 0 ≡ 10
file-fed b s h =
    subst (λ (r : List ℕ). get_or r (length r - 1) 0 ≡ 10) (parts.lines-together s)
    (last-fed (lines s) (load_of b s).count (count_of_lines b s h) (end-fed _ _ (count_of_end b s h))).1

more-lines : (b : Book) (s : List ℕ) (ms : List (List ℕ)) → (load_of b s).number ≡ 0 → 0 < length ms
    → load_from b b None 0 (lines s ++ ms) ≡ refused b ((load_of b s).count + 2) refusal.Unfinished
more-lines b s [] h g = absurd (omega arith)
more-lines b s (m ∷ ms) h g = by_result (of_file b s m ms)
  where
    by_result : Result b 0 (lines s) (load_of b s) (load_from b b None 0 (lines s ++ m ∷ ms))
        → load_from b b None 0 (lines s ++ m ∷ ms) ≡ refused b ((load_of b s).count + 2) refusal.Unfinished
    by_result (taken k t) = t.longer_refused ∙ ap (λ (line : ℕ). refused b line refusal.Unfinished) (omega (arith, t.counted))
    by_result (turned t) = absurd (t.numbered h)

pub more-refused : (b : Book) (s t : List ℕ) → (load_of b s).number ≡ 0 → 0 < length t
    → load_of b (s ++ t) ≡ refused b ((load_of b s).count + 2) refusal.Unfinished
unfolding load_of
more-refused b [] t h g = absurd (omega arith)
more-refused b (x ∷ s) t h g =
    ap (load_from b b None 0) (lines-append (x ∷ s) t (λ _. file-fed b (x ∷ s) h)) ∙ more-lines b (x ∷ s) (lines t) h (lines-some t g)

pub cut-refused : (b : Book) (s : List ℕ) (k : ℕ) → (load_of b s).number ≡ 0 → k < length s → (load_of b (take k s)).number ≡ 0 → ⊥
cut-refused b s k h g e =
    let z : (load_of b s).number ≡ 22 =
    ap (λ (r : List ℕ). (load_of b r).number) (sym (take-append-drop k s))
    ∙ ap (λ (r : Outcome). r.number) (more-refused b (take k s) (drop k s) e (omega (arith, length-drop k s))) in
    omega arith

pub end_alone : (b : Book) → load_of b end_alone_file ≡ accepted 0 b
unfolding load_of load_from after_open after_line lines order_in order_of line_of columns_of assembled_of uses_of field_at
    line_bytes bytes_under field_bytes justified padded
end_alone b = refl
