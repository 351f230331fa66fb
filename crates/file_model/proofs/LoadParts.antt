-- The part that a load's own answer shows.
use Rattle.std.proofs.Common.{◌≡◌, refl, ap, ◌∙◌, Bool, true, false, cond, List, [], ℕ, suc, ◌+◌, ◌-◌, ◌≤◌, arith, eqb, ne_eqb, length, get_or}
use Rattle.std.specs.Prelude.{◌≢◌, Result, Ok, Err}
use Rattle.book_model.specs.declared.Book.{Book}
use Rattle.lines.specs.Lines.{lines, line_start, line_end}
use Rattle.lines.proofs.Callers.{parts}
use Rattle.file_model.specs.declared.LoadFault.{LoadFault}
use Rattle.file_model.specs.Load.{Outcome, answered, load_of, number_told, line_named, part_start, part_end}
use Rattle.file_model.specs.Loads.{PartShown, EmptyAtEnd, part_shown}
use Rattle.file_model.proofs.LoadFaults.{refused-names}

-- of a file's line, or the empty part behind them
module _ (s : List ℕ) (number line : ℕ) where
  accepted_part : number ≡ 0 → EmptyAtEnd s number line
  unfolding part_start part_end
  accepted_part e = rw e (refl, refl)

  -- the refused line's number from 1
  line_part : (n : ℕ) → line ≡ suc n → number ≢ 0 → part_shown s number line ≡ get_or (lines s) n []
  unfolding part_start part_end
  line_part n e h = rw (e, ne_eqb number 0 h) (parts.line_is_part s n)

  -- behind the last line's number
  beyond_part : line ≡ length (lines s) + 1 → EmptyAtEnd s number line
  unfolding part_start part_end
  beyond_part e =
      let b = parts.beyond_is_end s (length (lines s)) (omega arith) in
      let n : line ≡ suc (length (lines s)) = omega arith in
      by_number (eqb number 0) (rw n b)
    where
      by_number : (t : Bool) → (line_start s line ≡ length s) × (line_end s line ≡ length s)
          → (cond t (length s) (line_start s line) ≡ length s) × (cond t (length s) (line_end s line) ≡ length s)
      by_number true b = (refl, refl)
      by_number false b = b

-- the part stands in the file
pub part_within : (s : List ℕ) (number line : ℕ) → (part_start s number line ≤ part_end s number line) × (part_end s number line ≤ length s)
unfolding part_start part_end
part_within s number line = by_number (eqb number 0)
  where
    by_number : (t : Bool) → (cond t (length s) (line_start s line) ≤ cond t (length s) (line_end s line)) × (cond t (length s) (line_end s line) ≤ length s)
    by_number true = (omega arith, omega arith)
    by_number false = parts.part_within s line

pub part-shown : (b after : Book) (s : List ℕ) (answer : Result ℕ LoadFault) → answered answer after ≡ load_of b s → PartShown s (number_told answer) (line_named answer)
part-shown b after s answer e =
    let number : number_told answer ≡ (load_of b s).number = told answer ∙ ap (λ (r : Outcome). r.number) e in
    let line : line_named answer ≡ (load_of b s).line = named answer ∙ ap (λ (r : Outcome). r.line) e in
    record {
      of_acceptance = accepted_part s (number_told answer) (line_named answer);
      of_refusal = λ h.
          let first : 1 ≤ line_named answer = omega (arith, (refused-names b s (λ z. h (number ∙ z))).0) in
          let n : line_named answer ≡ suc (line_named answer - 1) = omega arith in
          line_part s (number_told answer) (line_named answer) (line_named answer - 1) n h;
      behind_lines = beyond_part s (number_told answer) (line_named answer);
    }
  where
    told : (answer : Result ℕ LoadFault) → number_told answer ≡ (answered answer after).number
    told (Ok count) = refl
    told (Err fault) = refl

    named : (answer : Result ℕ LoadFault) → line_named answer ≡ (answered answer after).line
    named (Ok count) = refl
    named (Err fault) = refl
