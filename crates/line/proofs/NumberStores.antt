-- The columns of a number, stored from the right to the left.
use Rattle.std.proofs.Common.{◌≡◌, refl, sym, ap, ◌∙◌, List, [], ◌∷◌, ◌++◌, append_assoc, ℕ, zero, suc, ◌+◌, ◌/◌, ◌%◌, ◌≤◌, ◌<◌, arith, length, set, take, drop, drop_of_length-le, replicate, length-append, drop-drop, add-one}
use Rattle.std.proofs.lemmas.List.Edits.{sets, sets-eq}
use borrow.Rule.Slice.PartMut.{put_mid}
use Rattle.std.proofs.lemmas.List.{drop-set, replicate_more}
use Rattle.line.specs.Field.{symbol_of, padded, justified}

pub length-padded : (w m : ℕ) → length (padded w m) ≡ w
unfolding padded
length-padded zero m = refl
length-padded (suc w) m = simp (length-append, length-padded w (m / 10)) (omega arith)

pub length-justified : (w n : ℕ) → length (justified w n) ≡ w
unfolding justified
length-justified zero n = refl
length-justified (suc w) n = simp (length-append, length-padded w (n / 10)) (omega arith)

-- a column stored before those that stand
pub padded_back : (l : List ℕ) (i m : ℕ) → i < length l → padded i (m / 10) ++ drop i (set l i (symbol_of m)) ≡ padded (i + 1) m ++ drop (i + 1) l
unfolding padded
padded_back l i m h =
    let p : padded (i + 1) m ≡ padded i (m / 10) ++ (symbol_of m ∷ []) = rw add-one refl in
    rw (drop-set l i (symbol_of m) h, p) (sym (append_assoc (padded i (m / 10)) (symbol_of m ∷ []) (drop (i + 1) l)))

-- the last column stored, before any other
pub last_back : (l : List ℕ) (w n : ℕ) → length l ≡ w + 1 → padded w (n / 10) ++ drop w (set l w (48 + n % 10)) ≡ justified (w + 1) n
unfolding justified
last_back l w n e =
    let p : justified (w + 1) n ≡ padded w (n / 10) ++ ((48 + n % 10) ∷ []) = rw add-one refl in
    let d : drop (w + 1) l ≡ [] = drop_of_length-le l {i = w + 1} (omega (arith, e)) in
    rw (drop-set l w (48 + n % 10) (omega (arith, e)), d, p) refl

pub spaces : (w : ℕ) → replicate w 32 ≡ padded w 0
unfolding padded
spaces zero = refl
spaces (suc w) = sym (rw add-one at (replicate_more {X = ℕ} w 32)) ∙ ap (λ (l : List ℕ). l ++ (32 ∷ [])) (spaces w)

-- a part written, as stores
pub part_stored : (l ys : List ℕ) (at w : ℕ) → length ys ≡ w → at + w ≤ length l → put_mid at w l ys ≡ sets l at ys
part_stored l ys at w e h =
    rw (sets-eq ys l at (omega (arith, e)), e, ← drop-drop w at l) (sym (append_assoc (take at l) ys (drop w (drop at l))))
