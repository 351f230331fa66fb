-- What a line orders, by the answer of reading it.
use Rattle.std.proofs.Common.{ℕ, arith, ◌≡◌, refl, sym, ap, ◌∙◌, Bool, true, false, ◌&&◌, List, eqb-true, ne_eqb, eqb, length, get_or}
use Rattle.general_laws.proofs.Choice.{choice}
use Rattle.line.specs.declared.Fields.{Fields}
use Rattle.std.specs.Prelude.{Ok, Err}
use Rattle.line.specs.Field.{field_at}
use Rattle.line.specs.Line.{uses_of, formed, read_stated, assembled_of, columns_of, line_of}
use Rattle.file_model.specs.Load.{begins_with_f}
use Rattle.file_model.specs.Order.{Order, Open, Finance, Later, End, Malformed, order_of, order_in}

pub order-read : (f : Fields) (l : List ℕ) → read_stated (Ok f) ≡ line_of l → order_in l ≡ order_of f
unfolding order_in
order-read f l e = rw (sym e)

pub order-malformed : (l : List ℕ) → read_stated (Err (record {})) ≡ line_of l → order_in l ≡ Malformed
unfolding order_in
order-malformed l e = rw (sym e)

-- the letter of a well-formed line is its first byte
abbrev FirstByte : List ℕ → ℕ × Fields → Type 0
FirstByte l r = r.0 ≡ 0 → r.1.letter ≡ get_or l 0 0

letter_well_formed : (l : List ℕ) → FirstByte l (line_of l)
unfolding line_of columns_of assembled_of
letter_well_formed l =
    choice (FirstByte l) (eqb (length l) 43 && eqb (get_or l 42 0) 10)
    (λ _.
    choice (FirstByte l) (formed (uses_of (get_or l 0 0)) (field_at l 1 8) (field_at l 9 9) (field_at l 18 9) (field_at l 27 15))
    (λ _ _. refl)
    (λ _ refused. absurd (omega arith)))
    (λ _ refused. absurd (omega arith))

pub letter-first : (f : Fields) (l : List ℕ) → read_stated (Ok f) ≡ line_of l → f.letter ≡ get_or l 0 0
letter-first f l e =
    ap (λ (r : ℕ × Fields). r.1.letter) e ∙ letter_well_formed l (sym (ap (λ (r : ℕ × Fields). r.0) e))

-- whether a line begins with F, by what it orders: one that orders nothing may or may not
abbrev pub Begins : Bool → Order → Type 0
Begins f (Open first term annual cents) = f ≡ false
Begins f (Finance h s) = f ≡ true
Begins f (Later k) = f ≡ false
Begins f (End count) = f ≡ false
Begins f Malformed = Unit {0}

letter-begins : (f : Fields) → Begins (eqb f.letter 70) (order_of f)
unfolding order_of
letter-begins f =
    let P = Begins (eqb f.letter 70) in
    choice P (eqb f.letter 79) (λ e. ne_eqb f.letter 70 (omega (arith, eqb-true f.letter 79 e))) λ _.
    choice P (eqb f.letter 70) (λ is. is) λ other.
    choice P (eqb f.letter 68) (λ _. other) λ _.
    choice P (eqb f.letter 82) (λ _. other) λ _.
    choice P (eqb f.letter 84) (λ _. other) λ _.
    choice P (eqb f.letter 83) (λ _. other) λ _.
    choice P (eqb f.letter 69) (λ _. other) (λ _. tt)

pub order-begins : (l : List ℕ) → Begins (begins_with_f l) (order_in l)
unfolding order_in
order-begins l =
    choice (Begins (begins_with_f l)) (eqb (line_of l).0 0)
    (λ formed. rw (letter_well_formed l (eqb-true _ _ formed)) at (letter-begins (line_of l).1))
    (λ _. tt)
