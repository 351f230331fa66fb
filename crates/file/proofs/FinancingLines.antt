-- The F lines of an opening: what each does to the load, and what holds of the lists gathered so far.
use Rattle.std.proofs.Common.{arith, ℕ, ◌≡◌, ◌+◌, ◌≤◌, ◌<◌, refl, sym, ap, ◌∙◌, List, [], ◌∷◌, ◌++◌, Result, Ok, Err, length, get_or, drop, ap₂, length-append, le-leb}
use Rattle.std.proofs.Math.ListN.{get_or-eq_default}
use Rattle.std.proofs.lemmas.Bool.{lt-leb}
use Rattle.general_laws.proofs.Choice.{by_order}
use Rattle.book_model.specs.declared.Book.{Book}
use Rattle.book_model.specs.declared.Refusal.TheVariants as book-refusal
use Rattle.line.specs.declared.Fields.{Fields}
use Rattle.line.specs.Line.{read_stated, line_of}
use Rattle.lines.specs.Lines.{lines, line_at, end_of}
use Rattle.lines.proofs.Callers.{first_byte, end-past}
use Rattle.file_model.specs.declared.LoadFault.{LoadFault}
use Rattle.file_model.specs.declared.LoadRefusal.TheVariants as refusal
use Rattle.file_model.specs.Order.{Finance, order_of, order_in}
use Rattle.file_model.specs.Load.{Outcome, Waits, refused, opening_with}
use Rattle.file_model.proofs.Callers.{order-read, order-malformed, letter-first}
use Rattle.file.specs.declared.reading.Lines.{Lines}
use Rattle.file.specs.declared.financing.Financing.{Financing}
use Rattle.file.specs.Reading.{ReadAs}
use Rattle.file.specs.Turns.{saturated, left, gathered, Gathers, Moves}
use Rattle.file.proofs.LinesLeft.{Read, read-moves, left_behind, moves_on}
use Rattle.file.proofs.LoadSteps.{load-financing, load-opens}
use Rattle.file.proofs.Saturation.{alike_last, load_alike}

-- what a reader has left where an opening waits
abbrev pub waiting_left : (before b : Book) (line first term annual cents : ℕ) (hs ss : List ℕ) → Lines → Outcome
waiting_left before b line first term annual cents hs ss l = left before b (Waits line (opening_with first term annual cents hs ss)) l

-- One line

module _ {old new : Lines} (r : Read old new) (is_f : get_or old.reader.file.now old.reader.at 0 ≡ 70) (before b : Book) (line first term annual cents : ℕ) (hs ss : List ℕ) where
  abbrev s : List ℕ
  s = old.reader.file.now

  abbrev at : ℕ
  at = old.reader.at

  pub financing-malformed : read_stated (Err (record {})) ≡ line_of (line_at s at)
      → waiting_left before b line first term annual cents hs ss old ≡ refused before new.read refusal.Line
  financing-malformed e =
      load-financing s at old.read before b line _ r.more is_f ∙ rw (order-malformed (line_at s at) e, r.counted) refl

  module _ (f : Fields) (e : read_stated (Ok f) ≡ line_of (line_at s at)) where
    -- a well-formed line that begins with F orders a holder
    order-financing : order_in (line_at s at) ≡ Finance f.first f.third
    unfolding order_of
    order-financing =
        let letter : f.letter ≡ 70 = letter-first f (line_at s at) e ∙ first_byte s at r.more ∙ is_f in
        order-read f (line_at s at) e ∙ rw letter

    pub financing-full : 64 ≤ length hs
        → waiting_left before b line first term annual cents hs ss old ≡ refused before new.read (refusal.Call book-refusal.Financing)
    financing-full full =
        load-financing s at old.read before b line _ r.more is_f ∙ rw (order-financing, le-leb 64 (length hs) full, r.counted) refl

    pub financing-read : length hs < 64
        → waiting_left before b line first term annual cents hs ss old
        ≡ waiting_left before b line first term annual cents (hs ++ (f.first ∷ [])) (ss ++ (saturated f.third ∷ [])) new
    financing-read room =
        load-financing s at old.read before b line _ r.more is_f
        ∙ rw (order-financing, lt-leb 64 (length hs) room)
        (load_alike b first term annual cents before line (hs ++ (f.first ∷ [])) _ _ (alike_last ss f.third) (old.read + 1) (lines (drop (end_of s at) s)))
        ∙ left_behind r before b _

-- The lists so far: with them, what is left is what was asked

pub record Gathering (first now : Lines) (g : Financing) : Type 0 where
  pub same : (before b : Book) (line first-day term annual cents : ℕ)
      → waiting_left before b line first-day term annual cents [] [] first
      ≡ waiting_left before b line first-day term annual cents g.holders.items g.shares.items now
  pub moves : Moves first now
  pub few : length g.holders.items ≤ 64
  pub even : length g.shares.items ≡ length g.holders.items

-- nothing but F begins with that byte, and it is there
pub byte_there : (s : List ℕ) (at : ℕ) → get_or s at 0 ≡ 70 → at < length s
byte_there s at e = by_order at (length s) (λ h. h) (λ h. absurd (omega (arith, get_or-eq_default s 0 h)))

-- one holder more
pub gathering_goes_on : {first old new : Lines} {g h : Financing} → Gathering first old g → Read old new → get_or old.reader.file.now old.reader.at 0 ≡ 70
    → (f : Fields) → read_stated (Ok f) ≡ line_of (line_at old.reader.file.now old.reader.at) → length g.holders.items < 64
    → h.holders.items ≡ g.holders.items ++ (f.first ∷ []) → h.shares.items ≡ g.shares.items ++ (saturated f.third ∷ []) → Gathering first new h
gathering_goes_on {new = new} {g = g} {h = h} so_far r is_f f e room holders shares =
    record {
      same = λ before b line first-day term annual cents.
          so_far.same before b line first-day term annual cents
          ∙ financing-read r is_f before b line first-day term annual cents g.holders.items g.shares.items f e room
          ∙ ap₂ (λ (hs ss : List ℕ). waiting_left before b line first-day term annual cents hs ss new) (sym holders) (sym shares);
      moves = moves_on so_far.moves (read-moves r);
      few = rw (holders, length-append) (omega (arith, room));
      even = rw (holders, shares, length-append, length-append) (omega (arith, so_far.even));
    }

module _ {first old : Lines} {g : Financing} (so_far : Gathering first old g) where
  module _ {new : Lines} (r : Read old new) (is_f : get_or old.reader.file.now old.reader.at 0 ≡ 70) where
    pub gathering-malformed : {fault : LoadFault} → ReadAs new.read (line_at old.reader.file.now old.reader.at) (Err fault)
        → (answer : Result Financing LoadFault) → answer ≡ Err fault → Gathers first new answer
    gathering-malformed read answer is =
        record {
          same = λ before b line first-day term annual cents.
              so_far.same before b line first-day term annual cents
              ∙ financing-malformed r is_f before b line first-day term annual cents _ _ read.0
              ∙ ap (λ (x : LoadFault). refused before x.line x.refusal) (sym read.1)
              ∙ ap (gathered before b line first-day term annual cents new) (sym is);
        }

    pub gathering-full : (f : Fields) → read_stated (Ok f) ≡ line_of (line_at old.reader.file.now old.reader.at) → length g.holders.items ≡ 64
        → (fault : LoadFault) → (fault.refusal ≡ refusal.Call book-refusal.Financing) × (fault.line ≡ new.read) → Gathers first new (Err fault)
    gathering-full f e full fault is =
        record {
          same = λ before b line first-day term annual cents.
              so_far.same before b line first-day term annual cents
              ∙ financing-full r is_f before b line first-day term annual cents _ _ f e (omega (arith, full))
              ∙ ap (λ (x : ℕ). refused before x (refusal.Call book-refusal.Financing)) (sym is.1)
              ∙ ap (refused before fault.line) (sym is.0);
        }

  pub gathering-ends : (get_or old.reader.file.now old.reader.at 0 ≡ 70 → ⊥) → Gathers first old (Ok g)
  gathering-ends other =
      record {
        same = λ before b line first-day term annual cents.
            so_far.same before b line first-day term annual cents
            ∙ load-opens old.reader.file.now old.reader.at old.read before b _ (λ _. other);
      }

-- where a line that begins with F ends
pub ruleset line_of_f = (byte_there, end-past)
