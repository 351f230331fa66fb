-- The stores that make a line, and the buffer after them.
use Rattle.std.proofs.Common.{◌≡◌, refl, sym, ap, ◌∙◌, Bool, true, false, cond, ◌&&◌, List, ◌++◌, ℕ, ◌+◌, ◌≤◌, arith, length, set, take, drop, length-append, length-drop, length-set, length-take-le, leb}
use Rattle.std.proofs.Math.Seq.{length-sets}
use Rattle.std.proofs.lemmas.List.Edits.{sets, sets-eq}
use borrow.Rule.Slice.PartMut.{put_mid}
use Rattle.std.proofs.lemmas.Bool.Decides.{nat_tests}
use Rattle.general_laws.proofs.Stores.{sets_append_at}
use Rattle.line.specs.declared.Fields.{Fields}
use Rattle.line.specs.declared.line.Uses.{Uses}
use Rattle.line.specs.Line.{malformed_number, uses_of}
use Rattle.line.specs.Write.{fits_all, writable, field_bytes, bytes_under, used_in, line_bytes, written_of}
use Rattle.line.proofs.NumberStores.{length-padded, length-justified, part_stored}

pub length_field : (u : Bool) (w n : ℕ) → length (field_bytes u w n) ≡ w
unfolding field_bytes
length_field true w n = length-justified w n
length_field false w n = length-padded w 0

-- the stores, one after the other
pub line_sets : (b : List ℕ) (u : Uses) (f : Fields)
    → set
    (sets
    (sets
    (sets (sets (set b 0 f.letter) 1 (field_bytes u.date 8 f.date)) 9 (field_bytes u.first 9 f.first))
    18
    (field_bytes u.second 9 f.second))
    27
    (field_bytes u.third 15 f.third))
    42
    10
    ≡ sets b 0 (bytes_under u f)
unfolding bytes_under
line_sets b u f =
    sym (sets_append_at (field_bytes u.date 8 f.date) _ _ 1 8 (length_field u.date 8 f.date)
    ∙ sets_append_at (field_bytes u.first 9 f.first) _ _ 9 9 (length_field u.first 9 f.first)
    ∙ sets_append_at (field_bytes u.second 9 f.second) _ _ 18 9 (length_field u.second 9 f.second)
    ∙ sets_append_at (field_bytes u.third 15 f.third) _ _ 27 15 (length_field u.third 15 f.third))

pub length-bytes : (u : Uses) (f : Fields) → length (bytes_under u f) ≡ 43
unfolding bytes_under
length-bytes u f =
    simp (
      length-append,
      length_field u.date 8 f.date,
      length_field u.first 9 f.first,
      length_field u.second 9 f.second,
      length_field u.third 15 f.third,
    )

pub length-line : (f : Fields) → length (line_bytes f) ≡ 43
unfolding line_bytes
length-line f = length-bytes (used_in (uses_of f.letter)) f

-- a line stored at the front leaves the rest
stored_in_front : (f : Fields) (b : List ℕ) → 43 ≤ length b → sets b 0 (line_bytes f) ≡ line_bytes f ++ drop 43 b
stored_in_front f b h =
    let l = length-line f in
    sets-eq (line_bytes f) b 0 (omega (arith, l)) ∙ rw l refl

-- a field written as a part of what held b
pub field_stored : (u : Bool) (b x ys : List ℕ) (at w n : ℕ) → x ≡ b → at + w ≤ length b → ys ≡ field_bytes u (length (take w (drop at x))) n
    → put_mid at w x ys ≡ sets b at (field_bytes u w n)
field_stored u b x ys at w n same h e =
    let l : length (take w (drop at b)) ≡ w = length-take-le w (drop at b) (rw length-drop (omega arith)) in
    let y : ys ≡ field_bytes u w n = e ∙ ap (λ (x : List ℕ). field_bytes u (length (take w (drop at x))) n) same ∙ ap (λ (k : ℕ). field_bytes u k n) l in
    rw (same, y) (part_stored b (field_bytes u w n) at w (length_field u w n) h)

-- the fields written as parts, one after the other
pub line_stored : (b : List ℕ) (u : Uses) (f : Fields) (date first second third : List ℕ) → 43 ≤ length b
    → date ≡ field_bytes u.date (length (take 8 (drop 1 (set b 0 f.letter)))) f.date
    → first ≡ field_bytes u.first (length (take 9 (drop 9 (put_mid 1 8 (set b 0 f.letter) date)))) f.first
    → second ≡ field_bytes u.second (length (take 9 (drop 18 (put_mid 9 9 (put_mid 1 8 (set b 0 f.letter) date) first)))) f.second
    → third ≡ field_bytes u.third (length (take 15 (drop 27 (put_mid 18 9 (put_mid 9 9 (put_mid 1 8 (set b 0 f.letter) date) first) second)))) f.third
    → sets b 0 (bytes_under u f)
    ≡ set (put_mid 27 15 (put_mid 18 9 (put_mid 9 9 (put_mid 1 8 (set b 0 f.letter) date) first) second) third) 42 10
line_stored b u f date first second third long d e g h =
    let i = field_stored u.date _ _ _ 1 8 f.date refl (simp length-set (omega arith)) d in
    let j = field_stored u.first _ _ _ 9 9 f.first i (simp (length-sets, length-set) (omega arith)) e in
    let k = field_stored u.second _ _ _ 18 9 f.second j (simp (length-sets, length-set) (omega arith)) g in
    let l = field_stored u.third _ _ _ 27 15 f.third k (simp (length-sets, length-set) (omega arith)) h in
    sym (ap (λ (b : List ℕ). set b 42 10) l ∙ line_sets b u f)

-- what the writer gives, by the letter's uses
pub written_by : (f : Fields) (b : List ℕ)
    → written_of f b ≡ cond (leb 43 (length b) && fits_all (uses_of f.letter) f) (0, sets b 0 (bytes_under (used_in (uses_of f.letter)) f)) (malformed_number, b)
unfolding written_of writable line_bytes
written_by f b = grind (arith, nat_tests, stored_in_front)
