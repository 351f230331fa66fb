-- Lines whose calls are accepted in turn, and an E line with their count, are accepted; the first call that is refused decides.
use Rattle.std.proofs.Common.{ℕ, suc, ◌+◌, ◌≤◌, ◌<◌, arith, ◌≡◌, refl, sym, ap, subst, ◌∙◌, true, false, List, [], ◌∷◌, ◌++◌, map, eqb-true, eq-eqb, ne_eqb, length, length-append}
use Rattle.book_model.specs.declared.Book.{Book}
use Rattle.book_model.specs.Book.{empty_book}
use Rattle.book_model.specs.Call.{Opening, Call}
use Rattle.book_model.specs.Calls.{opened_with, book_after, number_of, accepts, run}
use Rattle.std.proofs.lemmas.Bool.{and_parts, lt-leb}
use Rattle.book_model.proofs.Callers.{Financed}
use Rattle.conservation.specs.Conservation.{opening_of}
use Rattle.conservation.proofs.Callers.{opening-is}
use Rattle.lines.specs.Lines.{lines}
use Rattle.file_model.specs.Order.{Order, Open, Finance, Later, End, order_in}
use Rattle.file_model.specs.Load.{Outcome, None, Waits, accepted, refused_by, opening_with, with_holder, load_from, load_of}
use Rattle.file_model.specs.Load.{after_open, after_financing, after_line, begins_with_f}
use Rattle.file_model.specs.Loads.{orders_in, all_accepted, call_lines, financing_lines, opening_before, opening_lines}
use Rattle.file_model.proofs.LineOrders.{order-begins}
use Rattle.file_model.proofs.OpeningHolders.{with_holders, with_no_holder, with_holder_first}

-- One line

module _ (before b : Book) (n : ℕ) (l : List ℕ) (ls : List (List ℕ)) where
  -- a call that is accepted, and one that is refused
  call_line : (k : Call) → order_in l ≡ Later k → number_of b k ≡ 0
      → load_from before b None n (l ∷ ls) ≡ load_from before (book_after b k) None (n + 1) ls
  unfolding load_from after_open after_line
  call_line k is zero = rw (rw is at (order-begins l), is, eq-eqb _ _ zero)

  refused-line : (k : Call) → order_in l ≡ Later k → (number_of b k ≡ 0 → ⊥)
      → load_from before b None n (l ∷ ls) ≡ refused_by before (n + 1) (number_of b k)
  unfolding load_from after_open after_line
  refused-line k is other = rw (rw is at (order-begins l), is, ne_eqb _ _ other)

  -- an O line, an F line behind it, and the opening's call before another line
  opening-line : (first term annual cents : ℕ) → order_in l ≡ Open first term annual cents
      → load_from before b None n (l ∷ ls) ≡ load_from before b (Waits (n + 1) (opening_with first term annual cents [] [])) (n + 1) ls
  unfolding load_from after_open after_line
  opening-line first term annual cents is = rw (rw is at (order-begins l), is)

  module _ (line : ℕ) (o : Opening) where
    financing-line : (h s : ℕ) → order_in l ≡ Finance h s → length o.holders < 64
        → load_from before b (Waits line o) n (l ∷ ls) ≡ load_from before b (Waits line (with_holder o h s)) (n + 1) ls
    unfolding load_from after_financing
    financing-line h s is few = rw (rw is at (order-begins l), is, lt-leb 64 (length o.holders) few)

    opened-line : begins_with_f l ≡ false → (opened_with b o).answer.number ≡ 0
        → load_from before b (Waits line o) n (l ∷ ls) ≡ load_from before (opened_with b o).book None n (l ∷ ls)
    unfolding load_from after_open
    opened-line other zero = rw (other, eq-eqb _ _ zero)

-- an E line, the last
end_line : (before b : Book) (n count : ℕ) (ls : List (List ℕ)) → count ≡ n → map order_in ls ≡ End count ∷ []
    → load_from before b None n ls ≡ accepted count b
unfolding load_from after_open after_line
end_line before b n count [] right e = cc
end_line before b n count (l ∷ []) right e =
    let is : order_in l ≡ End count = cc in
    rw (rw is at (order-begins l), is, eq-eqb count n right) (ap (λ (k : ℕ). accepted k b) (sym right))
end_line before b n count (l ∷ m ∷ ls) right e = cc

-- Lines in turn, where the lines `os` behind them come to the outcome `r`

module _ (before : Book) (os : List Order) (r : Outcome) where
  calls_pass : (ks : List Call) (ls : List (List ℕ)) (b : Book) (n : ℕ) → map order_in ls ≡ map Later ks ++ os → all_accepted b ks ≡ true
      → ((m : ℕ) (rest : List (List ℕ)) → m ≡ n + length ks → map order_in rest ≡ os → load_from before (run b ks) None m rest ≡ r)
      → load_from before b None n ls ≡ r
  unfolding all_accepted run
  calls_pass [] ls b n e all goes = goes n ls (omega arith) e
  calls_pass (k ∷ ks) [] b n e all goes = cc
  calls_pass (k ∷ ks) (l ∷ ls) b n e all goes =
      let both = and_parts (accepts b k) (all_accepted (book_after b k) ks) all in
      call_line before b n l ls k (cc) (eqb-true _ _ both.0)
      ∙ calls_pass ks ls (book_after b k) (n + 1) (cc) both.1 (λ m rest at. goes m rest (omega arith))

  -- the F lines of an opening
  financing_pass : (hs ss : List ℕ) (ls : List (List ℕ)) (b : Book) (line : ℕ) (o : Opening) (n : ℕ)
      → map order_in ls ≡ financing_lines hs ss ++ os → length hs ≡ length ss → length o.holders + length hs ≤ 64
      → ((m : ℕ) (rest : List (List ℕ)) → m ≡ n + length hs → map order_in rest ≡ os → load_from before b (Waits line (with_holders o hs ss)) m rest ≡ r)
      → load_from before b (Waits line o) n ls ≡ r
  financing_pass [] [] ls b line o n e same few goes =
      subst (λ p. load_from before b (Waits line p) n ls ≡ r) (with_no_holder o) (goes n ls (omega arith) e)
  financing_pass [] (s ∷ ss) ls b line o n e same few goes = absurd (omega arith)
  financing_pass (h ∷ hs) [] ls b line o n e same few goes = absurd (omega arith)
  financing_pass (h ∷ hs) (s ∷ ss) [] b line o n e same few goes = cc
  financing_pass (h ∷ hs) (s ∷ ss) (l ∷ ls) b line o n e same few goes =
      financing-line before b n l ls line o h s (cc) (omega arith)
      ∙ financing_pass hs ss ls b line (with_holder o h s) (n + 1) (cc) (omega arith) (omega (arith, length-append o.holders (h ∷ [])))
      (λ m rest at e. ap (λ p. load_from before b (Waits line p) m rest) (with_holder_first o h s hs ss) ∙ goes m rest (omega arith) e)

-- an order that no line gives which begins with F
data Plain : Order → Type 0 where
  a-call : (k : Call) → Plain (Later k)
  an-end : (count : ℕ) → Plain (End count)

plain_begins : (l : List ℕ) (order : Order) → order_in l ≡ order → Plain order → begins_with_f l ≡ false
plain_begins l order is (a-call k) = rw is at (order-begins l)
plain_begins l order is (an-end count) = rw is at (order-begins l)

-- before calls and such an order a waiting opening is called
opening-runs : (before b : Book) (n line : ℕ) (o : Opening) (ks : List Call) (order : Order) (os : List Order) (ls : List (List ℕ)) → Plain order
    → map order_in ls ≡ map Later ks ++ (order ∷ os)
    → (opened_with b o).answer.number ≡ 0 → load_from before b (Waits line o) n ls ≡ load_from before (opened_with b o).book None n ls
opening-runs before b n line o [] order os [] p e zero = cc
opening-runs before b n line o (k ∷ ks) order os [] p e zero = cc
opening-runs before b n line o [] order os (l ∷ ls) p e zero = opened-line before b n l ls line o (plain_begins l order (cc) p) zero
opening-runs before b n line o (k ∷ ks) order os (l ∷ ls) p e zero = opened-line before b n l ls line o (plain_begins l (Later k) (cc) (a-call k)) zero

-- an accepted opening has as many shares as holders, and no more than 64
opening-financed : (o : Opening) → (opening_of o).answer.number ≡ 0 → Financed o.holders o.shares
opening-financed o = opening-is o (λ _. Financed o.holders o.shares) (λ right. right)

-- The theorems

load-lines : (b : Book) (s : List ℕ) → 0 < length (orders_in s) → load_of b s ≡ load_from b b None 0 (lines s)
unfolding load_of lines
load-lines b [] some = absurd (omega arith)
load-lines b (x ∷ s) some = refl

pub calls-accepted : (b : Book) (s : List ℕ) (ks : List Call) → orders_in s ≡ call_lines ks (length ks) → all_accepted b ks ≡ true
    → load_of b s ≡ accepted (length ks) (run b ks)
calls-accepted b s ks e all =
    load-lines b s (rw (e, length-append (map Later ks) (End (length ks) ∷ [])) (omega arith))
    ∙ calls_pass b (End (length ks) ∷ []) (accepted (length ks) (run b ks)) ks (lines s) b 0 e all
    (λ m rest at. end_line b (run b ks) m (length ks) rest (omega arith))

-- a call that is refused stops the load
refuses : (before b : Book) (k : Call) (os : List Order) → (number_of b k ≡ 0 → ⊥) → (count n : ℕ) (rest : List (List ℕ)) → n ≡ count
    → map order_in rest ≡ Later k ∷ os → load_from before b None n rest ≡ refused_by before (count + 1) (number_of b k)
refuses before b k os other count n [] at e = cc
refuses before b k os other count n (l ∷ ls) at e =
    refused-line before b n l ls k (cc) other ∙ ap (λ (line : ℕ). refused_by before line (number_of b k)) (omega arith)

pub call-refused : (b : Book) (s : List ℕ) (ks : List Call) (k : Call) (os : List Order) → orders_in s ≡ map Later ks ++ (Later k ∷ os)
    → all_accepted b ks ≡ true → (number_of (run b ks) k ≡ 0 → ⊥) → load_of b s ≡ refused_by b (length ks + 1) (number_of (run b ks) k)
call-refused b s ks k os e all other =
    load-lines b s (rw (e, length-append (map Later ks) (Later k ∷ os)) (omega arith))
    ∙ calls_pass b (Later k ∷ os) (refused_by b (length ks + 1) (number_of (run b ks) k)) ks (lines s) b 0 e all
    (λ n rest at. refuses b (run b ks) k os other (length ks) n rest (omega arith))

-- behind an accepted opening: calls that are accepted, and an order that comes to an outcome whatever stands before it
module _ (s : List ℕ) (o : Opening) (ks : List Call) (order : Order) (os : List Order) (plain : Plain order) (r : Outcome)
    (e : orders_in s ≡ opening_before o (map Later ks ++ (order ∷ os)))
    (zero : (opening_of o).answer.number ≡ 0) (all : all_accepted (opening_of o).book ks ≡ true)
    (goes : (n : ℕ) (rest : List (List ℕ)) → n ≡ suc (length o.holders + length ks) → map order_in rest ≡ order ∷ os
    → load_from empty_book (run (opening_of o).book ks) None n rest ≡ r) where
  right : Financed o.holders o.shares
  right = opening-financed o zero

  -- behind the F lines
  calls : (n : ℕ) (rest : List (List ℕ)) → n ≡ 1 + length o.holders → map order_in rest ≡ map Later ks ++ (order ∷ os)
      → load_from empty_book empty_book (Waits 1 o) n rest ≡ r
  calls n rest at e =
      opening-runs empty_book empty_book n 1 o ks order os rest plain e zero
      ∙ calls_pass empty_book (order ∷ os) r ks rest (opening_of o).book n e all (λ m last until. goes m last (omega arith))

  opens : (ls : List (List ℕ)) → map order_in ls ≡ opening_before o (map Later ks ++ (order ∷ os)) → load_from empty_book empty_book None 0 ls ≡ r
  opens [] e = cc
  opens (l ∷ ls) e =
      opening-line empty_book empty_book 0 l ls o.first o.term o.annual o.cents (cc)
      ∙ financing_pass empty_book (map Later ks ++ (order ∷ os)) r o.holders o.shares ls empty_book 1
      (opening_with o.first o.term o.annual o.cents [] []) 1 (cc) right.one_length (omega (arith, right.few)) calls

  behind_opening : load_of empty_book s ≡ r
  behind_opening = load-lines empty_book s (rw e (omega arith)) ∙ opens (lines s) e

pub opening-accepted : (s : List ℕ) (o : Opening) (ks : List Call) → orders_in s ≡ opening_lines o ks (suc (length o.holders + length ks))
    → (opening_of o).answer.number ≡ 0 → all_accepted (opening_of o).book ks ≡ true
    → load_of empty_book s ≡ accepted (suc (length o.holders + length ks)) (run (opening_of o).book ks)
opening-accepted s o ks e zero all =
    let count = suc (length o.holders + length ks) in
    behind_opening s o ks (End count) [] (an-end count) (accepted count (run (opening_of o).book ks)) e zero all
    (λ n rest at. end_line empty_book (run (opening_of o).book ks) n count rest (omega arith))

pub call_refused_behind_opening : (s : List ℕ) (o : Opening) (ks : List Call) (k : Call) (os : List Order)
    → orders_in s ≡ opening_before o (map Later ks ++ (Later k ∷ os))
    → (opening_of o).answer.number ≡ 0 → all_accepted (opening_of o).book ks ≡ true → (number_of (run (opening_of o).book ks) k ≡ 0 → ⊥)
    → load_of empty_book s ≡ refused_by empty_book (suc (length o.holders + length ks) + 1) (number_of (run (opening_of o).book ks) k)
call_refused_behind_opening s o ks k os e zero all other =
    behind_opening s o ks (Later k) os (a-call k) _ e zero all
    (λ n rest at. refuses empty_book (run (opening_of o).book ks) k os other (suc (length o.holders + length ks)) n rest (omega arith))
