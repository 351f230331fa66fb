-- What the line at a reader does where no opening waits, by what reading it gave.
use Rattle.std.proofs.Common.{arith, ℕ, ◌≡◌, ◌≢◌, ◌+◌, sym, ap, ◌∙◌, Bool, List, [], Ok, Err, length, get_or, drop, eqb}
use Rattle.std.proofs.lemmas.Bool.Decides.{nat_tests}
use Rattle.book_model.specs.declared.Book.{Book}
use Rattle.line.specs.declared.Fields.{Fields}
use Rattle.line.specs.Line.{read_stated, line_of}
use Rattle.lines.specs.Lines.{lines, line_at}
use Rattle.lines.proofs.Callers.{first_byte}
use Rattle.file_model.specs.declared.LoadRefusal.TheVariants as refusal
use Rattle.file_model.specs.Order.{Order, Open, End, Malformed, order_of, order_in}
use Rattle.file_model.specs.Load.{Outcome, Waiting, None, Waits, refused, opening_with, ended, after_line, load_from}
use Rattle.file_model.proofs.Callers.{order-read, order-malformed, letter-first}
use Rattle.file.specs.declared.reading.Lines.{Lines}
use Rattle.file.specs.Turns.{left}
use Rattle.file.proofs.LinesLeft.{Read}
use Rattle.file.proofs.LoadSteps.{load_line, load_unplaced}

-- by what was read

module _ {old new : Lines} (r : Read old new) (before b : Book) where
  abbrev s : List ℕ
  s = old.reader.file.now

  abbrev at : ℕ
  at = old.reader.at

  -- the load from a line on, by its order and by where the next one is
  abbrev does_at : List ℕ → (at n : ℕ) → Order → Outcome
  does_at s at n o = after_line before b old.read o (eqb at (length s)) (λ after next. load_from before after next n (lines (drop at s)))

  abbrev does : Order → Outcome
  does o = does_at new.reader.file.now new.reader.at new.read o

  by_bytes : (get_or s at 0 ≡ 70 → ⊥) → (o : Order) → order_in (line_at s at) ≡ o → left before b None old ≡ does o
  by_bytes other o e =
      load_line s at old.read before b r.more other
      ∙ ap (λ (x : ℕ). does_at s x (old.read + 1) (order_in (line_at s at))) (sym r.moved.1)
      ∙ ap (λ f. does_at f.now new.reader.at (old.read + 1) (order_in (line_at s at))) (sym r.moved.0)
      ∙ ap (λ (x : ℕ). does_at new.reader.file.now new.reader.at x (order_in (line_at s at))) (sym r.counted)
      ∙ ap does e

  pub line-malformed : read_stated (Err (record {})) ≡ line_of (line_at s at) → left before b None old ≡ refused before new.read refusal.Line
  unfolding after_line
  line-malformed e =
      let placed : (get_or s at 0 ≡ 70 → ⊥) → left before b None old ≡ does Malformed = λ other. by_bytes other Malformed (order-malformed (line_at s at) e) in
      grind (arith, nat_tests, placed, load_unplaced s at old.read before b r.more, r.counted)

  -- the letter is the byte at the reader
  pub line-ordered : (f : Fields) → read_stated (Ok f) ≡ line_of (line_at s at) → left before b None old ≡ does (order_of f)
  unfolding order_of after_line
  line-ordered f e =
      grind (
        arith,
        nat_tests,
        load_unplaced s at old.read before b r.more,
        by_bytes,
        order-read f (line_at s at) e,
        letter-first f (line_at s at) e,
        first_byte s at r.more,
        r.counted,
      )

-- by letter

module _ (before b : Book) (n : ℕ) (f : Fields) (last : Bool) (rest : Book → Waiting → Outcome) where
  abbrev line : Order → Outcome
  line o = after_line before b n o last rest

  pub order-opening : f.letter ≡ 79 → line (order_of f) ≡ rest b (Waits (n + 1) (opening_with f.date f.first f.second f.third [] []))
  unfolding order_of after_line
  order-opening is =
      let o : order_of f ≡ Open f.date f.first f.second f.third = simp is in
      ap line o

  pub order-end : f.letter ≡ 69 → line (order_of f) ≡ ended before b n f.third last
  unfolding order_of after_line
  order-end is =
      let o : order_of f ≡ End f.third = simp is in
      ap line o

  -- an F line, or none of the letters
  abbrev Unplaced : Order → Type 0
  Unplaced o = line o ≡ refused before (n + 1) refusal.Line

  pub order_unplaced : f.letter ≢ 79 → f.letter ≢ 68 → f.letter ≢ 82 → f.letter ≢ 84 → f.letter ≢ 83 → f.letter ≢ 69 → Unplaced (order_of f)
  unfolding order_of after_line
  order_unplaced not-o not-d not-r not_t not-s not-e = grind (arith, nat_tests)
