-- The load after a line that makes a call, by the case of its answer.
use Rattle.std.proofs.Common.{arith, ℕ, ◌≡◌, ◌+◌, ◌-◌, ◌<◌, refl, sym, ap, ◌∙◌, ◌≢◌, Result, Ok, Err, cond, Bool, [], ap₂}
use Rattle.account.specs.declared.Day.{Day}
use Rattle.book_model.specs.declared.Book.{Book}
use Rattle.book_model.specs.declared.Parts.{Parts}
use Rattle.book_model.specs.declared.Refusal.{Refusal}
use Rattle.book_model.specs.declared.Revised.{Revised}
use Rattle.book_model.specs.declared.Taken.{Taken}
use Rattle.book_model.specs.Call.{Call, Advance, Rate, Transfer, Settle}
use Rattle.book_model.specs.Calls.{opened_with, book_after, number_of}
use Rattle.book_model.specs.Advance.{advanced}
use Rattle.book_model.specs.Rate.{rated}
use Rattle.book_model.specs.Transfer.{transferred}
use Rattle.book_model.specs.Settle.{settled}
use Rattle.book_model.specs.Outcome as book-outcome
use Rattle.book_model.specs.Outcome.{nothing, no_days, no_parts, no_changes, nothing_taken}
use Rattle.line.specs.declared.Fields.{Fields}
use Rattle.file_model.specs.declared.LoadFault.{LoadFault}
use Rattle.file_model.specs.declared.LoadRefusal.TheVariants as refusal
use Rattle.file_model.specs.Order.{Later, order_of}
use Rattle.file_model.specs.Load.{Outcome, None, Waits, refused, opening_with, after_call, after_open, after_line}
use Rattle.file_model.proofs.Callers.{refusal_not_zero}
use Rattle.file.specs.declared.reading.Lines.{Lines}
use Rattle.file.specs.declared.financing.Financing.{Financing}
use Rattle.file.specs.Turns.{by_line, left, goes_on, Gathers, Opens, Obeys}
use Rattle.file.proofs.LineTurns.{order-opening, order_unplaced}

answered-call : {A : Type 0} (zeros : A) (before : Book) (line : ℕ) (rest : Book → Outcome) (answer : Result A Refusal) (b : Book)
    → after_call before line (book-outcome.case_of zeros answer).number b rest ≡ goes_on before rest b (by_line line answer)
answered-call zeros before line rest (Ok value) b = refl
answered-call zeros before line rest (Err r) b =
    ap (λ t. cond t (rest b) (refused before line (refusal.Call r))) (refusal_not_zero (refusal.Call r))

-- the load after a call, from its answer and the book after it
pub call-kept : {A : Type 0} (zeros : A) (before : Book) (line : ℕ) (rest : Book → Outcome) (answer : Result A Refusal) (after : Book)
    {o : book-outcome.Outcome A} → book-outcome.outcome zeros answer after ≡ o → (told : Result (Unit {0}) LoadFault) → told ≡ by_line line answer
    → after_call before line o.answer.number o.book rest ≡ goes_on before rest after told
call-kept zeros before line rest answer after e told is =
    ap (λ (x : book-outcome.Outcome _). after_call before line x.answer.number x.book rest) (sym e)
    ∙ answered-call zeros before line rest answer after
    ∙ ap (goes_on before rest after) (sym is)

-- by letter
module _ (f : Fields) (l : Lines) (some : 0 < l.read) (b : Book) where
  call : (k : Call) → order_of f ≡ Later k → (before : Book) (last : Bool)
      → after_line before b (l.read - 1) (order_of f) last (λ opened next. left before opened next l)
      ≡ after_call before l.read (number_of b k) (book_after b k) (λ opened. left before opened None l)
  unfolding after_line
  call k is before last =
      let n : l.read - 1 + 1 ≡ l.read = omega (arith, some) in
      ap (λ o. after_line before b (l.read - 1) o last (λ opened next. left before opened next l)) is ∙ rw n refl

  -- what a call answered, by the line that made it, is what the line's order does
  abbrev Kept : {A : Type 0} → Result A Refusal → Book → Type 0
  Kept answer after = (told : Result (Unit {0}) LoadFault) → told ≡ by_line l.read answer → Obeys f l l b after told

  -- by the call's own outcome
  kept : {A : Type 0} (zeros : A) (k : Call) (o : book-outcome.Outcome A) → number_of b k ≡ o.answer.number → book_after b k ≡ o.book → order_of f ≡ Later k
      → (answer : Result A Refusal) (after : Book) → book-outcome.outcome zeros answer after ≡ o → Kept answer after
  kept zeros k o number book is answer after e told same =
      record {
        same = λ before last.
            call k is before last
            ∙ ap₂ (λ (n : ℕ) (b : Book). after_call before l.read n b (λ opened. left before opened None l)) number book
            ∙ call-kept zeros before l.read (λ opened. left before opened None l) answer after e told same;
      }

  pub obeys-advance : f.letter ≡ 68 → (answer : Result Day Refusal) (after : Book) → book-outcome.outcome no_days answer after ≡ advanced b f.date → Kept answer after
  unfolding order_of
  obeys-advance is = kept no_days (Advance f.date) (advanced b f.date) refl refl (simp is)

  pub obeys-rate : f.letter ≡ 82 → (answer : Result Revised Refusal) (after : Book) → book-outcome.outcome no_changes answer after ≡ rated b f.date f.third → Kept answer after
  unfolding order_of
  obeys-rate is = kept no_changes (Rate f.date f.third) (rated b f.date f.third) refl refl (simp is)

  pub obeys-transfer : f.letter ≡ 84 → (answer : Result Parts Refusal) (after : Book) → book-outcome.outcome no_parts answer after ≡ transferred b f.first f.second (record { 0 = f.third }) → Kept answer after
  unfolding order_of
  obeys-transfer is = kept no_parts (Transfer f.first f.second f.third) (transferred b f.first f.second (record { 0 = f.third })) refl refl (simp is)

  pub obeys-settle : f.letter ≡ 83 → (answer : Result Taken Refusal) (after : Book) → book-outcome.outcome nothing_taken answer after ≡ settled b (record { 0 = f.third }) → Kept answer after
  unfolding order_of
  obeys-settle is = kept nothing_taken (Settle f.third) (settled b (record { 0 = f.third })) refl refl (simp is)

  pub obeys-opening : f.letter ≡ 79 → {new : Lines} {after : Book} {answer : Result (Unit {0}) LoadFault}
      → Opens f.date f.first f.second f.third l new b after answer → Obeys f l new b after answer
  obeys-opening is opens = record {
    same = λ before last.
        let n : l.read - 1 + 1 ≡ l.read = omega (arith, some) in
        order-opening before b (l.read - 1) f last _ is
        ∙ ap (λ (x : ℕ). left before b (Waits x (opening_with f.date f.first f.second f.third [] [])) l) n
        ∙ opens.same before;
  }

  pub obeys_unplaced : f.letter ≢ 79 → f.letter ≢ 68 → f.letter ≢ 82 → f.letter ≢ 84 → f.letter ≢ 83 → f.letter ≢ 69
      → (fault : LoadFault) → (fault.refusal ≡ refusal.Line) × (fault.line ≡ l.read) → Obeys f l l b b (Err fault)
  obeys_unplaced not-o not-d not-r not_t not-s not-e fault is = record {
    same = λ before last.
        let n : l.read - 1 + 1 ≡ fault.line = omega (arith, some, is.1) in
        order_unplaced before b (l.read - 1) f last _ not-o not-d not-r not_t not-s not-e
        ∙ ap (λ (x : ℕ). refused before x refusal.Line) n
        ∙ ap (refused before fault.line) (sym is.0);
  }

-- an opening with the holders and shares that were gathered
pub opens-gathered : {old new : Lines} {g : Financing} (first term annual cents : ℕ) (b : Book) → Gathers old new (Ok g)
    → (answer : Result (Unit {0}) Refusal) (after : Book)
    → book-outcome.outcome nothing answer after ≡ opened_with b (opening_with first term annual cents g.holders.items g.shares.items)
    → (told : Result (Unit {0}) LoadFault) → told ≡ by_line old.read answer → Opens first term annual cents old new b after told
unfolding after_open
opens-gathered {old = old} {new = new} first term annual cents b gathers answer after e told same = record {
  same = λ before.
      gathers.same before b old.read first term annual cents
      ∙ call-kept nothing before old.read (λ opened. left before opened None new) answer after e told same;
}

-- the lines of `obey`, and an opening's
pub ruleset obeys = (obeys-advance, obeys-rate, obeys-transfer, obeys-settle, obeys-opening, obeys_unplaced)

pub ruleset opens = (opens-gathered)
