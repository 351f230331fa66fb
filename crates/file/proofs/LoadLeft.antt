-- What is left of a file at each turn of the load gives what the whole file gives.
use Rattle.std.proofs.Common.{arith, ℕ, ◌≡◌, ◌≢◌, ◌+◌, ◌-◌, refl, sym, ap, ◌∙◌, List, [], ◌∷◌, Result, Ok, Err, length, drop, eqb}
use Rattle.book_model.specs.declared.Book.{Book}
use Rattle.line.specs.declared.Fields.{Fields}
use Rattle.line.specs.Line.{read_stated, line_of}
use Rattle.lines.specs.Lines.{lines, line_at}
use Rattle.lines.proofs.Callers.{end-past}
use Rattle.file_model.specs.declared.LoadFault.{LoadFault}
use Rattle.file_model.specs.declared.LoadRefusal.TheVariants as refusal
use Rattle.file_model.specs.Order.{order_of}
use Rattle.file_model.specs.Load.{None, refused, after_line, ended, load_from, load_of}
use Rattle.file.specs.declared.reading.Lines.{Lines}
use Rattle.file.specs.Reading.{ReadAs}
use Rattle.file.specs.Turns.{left, goes_on, stopped, Ends, Moves, Obeys}
use Rattle.file.proofs.LinesLeft.{Read}
use Rattle.file.proofs.LineTurns.{line-malformed, line-ordered, order-end}
use Rattle.file.proofs.LoadSteps.{load-end}

load_empty : (b : Book) (s : List ℕ) → length s ≡ 0 → refused b 1 refusal.Empty ≡ load_of b s
unfolding load_of
load_empty b [] e = refl
load_empty b (x ∷ s) e = absurd (omega arith)

-- an empty file
pub left-empty : (b : Book) (s : List ℕ) → length s ≡ 0 → (fault : LoadFault) → fault.refusal ≡ refusal.Empty → fault.line ≡ 1
    → refused b fault.line fault.refusal ≡ load_of b s
left-empty b s none fault why line = ap (λ r. refused b fault.line r) why ∙ ap (λ (n : ℕ). refused b n refusal.Empty) line ∙ load_empty b s none

load_some : (b : Book) (s : List ℕ) → length s ≢ 0 → load_from b b None 0 (lines s) ≡ load_of b s
unfolding load_of
load_some b [] some = absurd (some refl)
load_some b (x ∷ s) some = refl

pub record Left (s : List ℕ) (before b : Book) (l : Lines) : Type 0 where
  pub same-file : l.reader.file.now ≡ s
  pub same : left before b None l ≡ load_of before s

pub left-begins : (s : List ℕ) (b : Book) (l : Lines) → l.reader.file.now ≡ s → l.reader.at ≡ 0 → l.read ≡ 0 → length s ≢ 0 → Left s b b l
left-begins s b l f at n some =
    record {
      same-file = f;
      same =
          ap (λ (x : ℕ). load_from b b None x (lines (drop l.reader.at l.reader.file.now))) n
          ∙ ap (λ (x : ℕ). load_from b b None 0 (lines (drop x l.reader.file.now))) at
          ∙ ap (λ x. load_from b b None 0 (lines x)) f
          ∙ load_some b s some;
    }

module _ {s : List ℕ} {before b : Book} {old : Lines} (so_far : Left s before b old) where
  -- no line is left
  pub left-unfinished : old.reader.at ≡ length old.reader.file.now → (fault : LoadFault) → fault.refusal ≡ refusal.Unfinished → fault.line ≡ old.read + 1
      → refused before fault.line fault.refusal ≡ load_of before s
  left-unfinished end fault why line =
      ap (λ r. refused before fault.line r) why
      ∙ ap (λ (x : ℕ). refused before x refusal.Unfinished) line
      ∙ sym (load-end old.reader.file.now old.reader.at old.read before b (omega (arith, end)))
      ∙ so_far.same

  module _ {read : Lines} (r : Read old read) where
    pub left-malformed : {fault : LoadFault} → ReadAs read.read (line_at old.reader.file.now old.reader.at) (Err fault)
        → (answer : Result ℕ LoadFault) → answer ≡ Err fault → stopped before answer b ≡ load_of before s
    left-malformed told answer is =
        ap (λ x. stopped before x b) is
        ∙ ap (λ (x : LoadFault). refused before x.line x.refusal) told.1
        ∙ sym (line-malformed r before b told.0)
        ∙ so_far.same

    module _ (f : Fields) (e : read_stated (Ok f) ≡ line_of (line_at old.reader.file.now old.reader.at)) where
      behind : old.read ≡ read.read - 1
      behind = omega (arith, r.counted)

      pub left-ended : f.letter ≡ 69 → {answer : Result ℕ LoadFault} → Ends (read.read - 1) f.third (eqb read.reader.at (length read.reader.file.now)) answer
          → stopped before answer b ≡ load_of before s
      left-ended is ends =
          ends.same before b
          ∙ ap (λ (x : ℕ). ended before b x f.third (eqb read.reader.at (length read.reader.file.now))) (sym behind)
          ∙ sym (order-end before b old.read f _ _ is)
          ∙ sym (line-ordered r before b f e)
          ∙ so_far.same

      module _ {new : Lines} {after : Book} {answer : Result (Unit {0}) LoadFault} (obeys : Obeys f read new b after answer) where
        obeyed : load_of before s ≡ goes_on before (λ opened. left before opened None new) after answer
        obeyed =
            sym so_far.same
            ∙ line-ordered r before b f e
            ∙ ap (λ (x : ℕ). after_line before b x (order_of f) (eqb read.reader.at (length read.reader.file.now)) (λ opened next. left before opened next read)) behind
            ∙ obeys.same before _

        pub left_goes_on : Moves read new → (x : Unit {0}) → answer ≡ Ok x → Left s before after new
        left_goes_on moves x is =
            record {
              same-file = ap (λ f. f.now) moves.same-file ∙ ap (λ f. f.now) r.moved.0 ∙ so_far.same-file;
              same = sym (obeyed ∙ ap (goes_on before (λ opened. left before opened None new) after) is);
            }

        pub left-stops : {fault : LoadFault} → answer ≡ Err fault → (result : Result ℕ LoadFault) → result ≡ Err fault → stopped before result after ≡ load_of before s
        left-stops at result is =
            ap (λ x. stopped before x after) is ∙ sym (obeyed ∙ ap (goes_on before (λ opened. left before opened None new) after) at)

-- the turns of the load
pub ruleset load_steps = (left-empty, left-begins, left-unfinished, left-ended, left_goes_on, left-stops, end-past)
