-- The lines of a book's positions, put one by one.
use Rattle.std.proofs.Common.{ℕ, ◌+◌, ◌-◌, ◌*◌, ◌<◌, ◌≤◌, ◌≡◌, refl, sym, ap, ◌∙◌, List, [], ◌∷◌, ◌++◌, append-nil, append_assoc, zero-add, add-one, arith, length, get_or, take, drop, drop_of_length-le, length-drop, drop-drop, length-take-le, take_all, take-suc}
use Rattle.std.proofs.Math.Seq.{length-sets}
use Rattle.std.proofs.lemmas.List.Edits.{sets, sets-eq}
use Rattle.std.proofs.lemmas.List.{length-take}
use borrow.Rule.Slice.PartMut.{put_mid}
use Rattle.book_model.specs.declared.Position.{Position}
use Rattle.book_model.specs.Outcome.{no_position}
use Rattle.general_laws.proofs.Stores.{sets_append_at}
use Rattle.report.specs.Statement.{position_line, position_lines}
use Rattle.report.proofs.StatementLengths.{position-length, positions-length}

lines-append : (ps qs : List Position) → position_lines (ps ++ qs) ≡ position_lines ps ++ position_lines qs
unfolding position_lines
lines-append [] qs = refl
lines-append (p ∷ ps) qs = rw (lines-append ps qs, append_assoc)

one_line : (p : Position) → position_lines (p ∷ []) ≡ position_line p
unfolding position_lines
one_line p = append-nil (position_line p)

-- one line more behind those of the first `place` positions
one_more : (before : List ℕ) (ps : List Position) (place : ℕ) → place < length ps
    → sets before 81 (position_lines (take (place + 1) ps))
    ≡ sets (sets before 81 (position_lines (take place ps))) (81 + place * 47) (position_line (get_or ps place no_position))
one_more before ps place more =
    rw (
      add-one place,
      take-suc ps place no_position more,
      lines-append,
      one_line,
      sets_append_at
          (position_lines (take place ps))
          _
          before
          81
          (place * 47)
          (positions-length (take place ps) ∙ ap (λ n. n * 47) (length-take-le place ps (omega arith))),
    )

-- bytes put into a part at its front
stored_behind : (l ys xs : List ℕ) (at : ℕ) → at + length xs ≤ length l → ys ≡ sets (take (length l - at) (drop at l)) 0 xs
    → put_mid at (length l - at) l ys ≡ sets l at xs
stored_behind l ys xs at h e =
    let nothing : drop (length l - at) (drop at l) ≡ [] = drop_of_length-le (drop at l) {i = length l - at} (rw length-drop (omega arith)) in
    let all : take (length l - at) (drop at l) ≡ drop at l = take_all (length l - at) (drop at l) (rw length-drop (omega arith)) in
    let front : sets (drop at l) 0 xs ≡ xs ++ drop (at + length xs) l =
    sets-eq xs (drop at l) 0 (rw length-drop (omega arith))
    ∙ ap (λ (k : ℕ). xs ++ drop k (drop at l)) (zero-add (length xs))
    ∙ ap (λ (r : List ℕ). xs ++ r) (drop-drop (length xs) at l) in
    rw (e, all, nothing, front, append-nil, sets-eq xs l at h) (sym (append_assoc (take at l) xs (drop (at + length xs) l)))

pub one_more_put : (before now ys : List ℕ) (ps : List Position) (place : ℕ) → place < length ps → length ps ≤ 64 → 3089 ≤ length before
    → now ≡ sets before 81 (position_lines (take place ps))
    → ys ≡ sets (take (length now - (81 + place * 47)) (drop (81 + place * 47) now)) 0 (position_line (get_or ps place no_position))
    → sets before 81 (position_lines (take (place + 1) ps)) ≡ put_mid (81 + place * 47) (length now - (81 + place * 47)) now ys
one_more_put before now ys ps place more few room same e =
    let p : Position = get_or ps place no_position in
    let l : length now ≡ length before = ap length same ∙ length-sets before 81 (position_lines (take place ps)) in
    one_more before ps place more
    ∙ ap (λ (l : List ℕ). sets l (81 + place * 47) (position_line p)) (sym same)
    ∙ sym (stored_behind now ys (position_line p) (81 + place * 47) (omega (arith, l, position-length p)) e)

-- those, and what is left at the end
pub ruleset lines_put = (one_more_put, positions-length, take_all, length-sets)
