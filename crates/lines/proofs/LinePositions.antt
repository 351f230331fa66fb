-- Positions and lines: where the line at a position ends, and what the lines from there on are.
use Rattle.std.proofs.Common.{◌≡◌, refl, ap, ◌∙◌, true, false, List, [], ◌∷◌, ◌++◌, ℕ, zero, suc, ◌+◌, ◌-◌, ◌≤◌, ◌<◌, add-zero, add-suc, add-one, arith, eqb, length, get_or, take, drop, length-drop, drop_of_length-le, drop-drop, get_or-take, get_or-drop, eq-eqb}
use Rattle.std.proofs.Math.Numerals.{unary_clauses}
use Rattle.std.proofs.lemmas.Bool.{false_from_ne_true}
use Rattle.std.proofs.lemmas.Bool.Decides.{nat_tests}
use Rattle.std.specs.Prelude.{Option, Some, None, position}
use Rattle.std.specs.List.{position_or_len}
use Rattle.std.proofs.lemmas.Grind.{common_steps}
use Rattle.std.proofs.lemmas.List.Quantifiers.{position-Some}
use Rattle.std.proofs.lemmas.List.Sums.{position_or_len_is, fails_before_first}
use Rattle.memchr.specs.Find.{IsFirstByte, is_byte}
use Rattle.lines.specs.Lines.{lines, line_length, line_at, end_of, start_of, part_of}

-- The first line's length

pub line_length_within : (s : List ℕ) → line_length s ≤ length s
unfolding line_length
line_length_within [] = omega arith
line_length_within (x ∷ s) = grind (arith, nat_tests, line_length_within s)

pub line_length_some : (s : List ℕ) → 0 < length s → 0 < line_length s
unfolding line_length
line_length_some [] h = absurd (omega arith)
line_length_some (x ∷ s) h = grind (arith, nat_tests)

-- what a search for the byte finds is the position of the first line feed
pub first_feed : (s : List ℕ) (r : Option ℕ) → IsFirstByte (is_byte 10) s r → r ≡ position (λ x. eqb x 10) s
first_feed s None h =
    let e = position_or_len_is (λ (x : ℕ). eqb x 10) s (length s) 0 (omega arith) (λ i l. false_from_ne_true _ (h i (omega arith) l)) (λ l. absurd (omega arith)) in
    grind (arith, common_steps)
first_feed s (Some k) h =
    let inside = h.0.high in
    let e = position_or_len_is (λ (x : ℕ). eqb x 10) s k 0 (omega arith) (λ i l. false_from_ne_true _ (h.0.before i (omega arith) l)) (λ _. h.1) in
    grind (arith, common_steps)

-- up to the first line feed, or the whole where there is none
pub length_to_feed : (s : List ℕ) (k : ℕ) → position (λ x. eqb x 10) s ≡ Some k → line_length s ≡ k + 1
unfolding line_length
length_to_feed s k e =
    let p = position-Some (λ (x : ℕ). eqb x 10) s k 0 e in
    go s k p.0 p.1 p.2
  where
    go : (s : List ℕ) (k : ℕ) → k < length s → eqb (get_or s k 0) 10 ≡ true → ((i : ℕ) → i < k → eqb (get_or s i 0) 10 ≡ false) → line_length s ≡ k + 1
    go [] k h e n = absurd (omega arith)
    go (x ∷ s) zero h e n = rw e refl
    go (x ∷ s) (suc k) h e n =
        rw (n 0 (omega arith)) (omega (arith, go s k (omega arith) e (λ i l. n (suc i) (omega arith))))

pub length_whole : (s : List ℕ) → position (λ x. eqb x 10) s ≡ None → line_length s ≡ length s
unfolding line_length
length_whole s e =
    let whole : length s ≤ position_or_len (λ (x : ℕ). eqb x 10) s = grind (arith, common_steps) in
    go s (λ i h. fails_before_first (λ (x : ℕ). eqb x 10) s i 0 (omega arith))
  where
    go : (s : List ℕ) → ((i : ℕ) → i < length s → eqb (get_or s i 0) 10 ≡ false) → line_length s ≡ length s
    go [] n = refl
    go (x ∷ s) n = rw (n 0 (omega arith)) (ap suc (go s (λ i h. n (suc i) (omega arith))))

-- The end of the line at a position

-- no further than the file's end, or nowhere
pub end_fits : (s : List ℕ) (at : ℕ) → end_of s at ≤ at + (length s - at)
end_fits s at = omega (arith, line_length_within (drop at s), length-drop at s)

pub end-within : (s : List ℕ) (at : ℕ) → at ≤ length s → end_of s at ≤ length s
end-within s at h = omega (arith, end_fits s at)

pub end-past : (s : List ℕ) (at : ℕ) → at < length s → at < end_of s at
end-past s at h = omega (arith, line_length_some (drop at s) (rw length-drop (omega arith)))

-- beyond the last byte nothing is left
pub end_beyond : (s : List ℕ) (at : ℕ) → length s ≤ at → end_of s at ≡ at
unfolding line_length
end_beyond s at h = rw (drop_of_length-le s h) (omega arith)

-- The line at a position

pub part_is_line : (s : List ℕ) (at end : ℕ) → end ≡ end_of s at → part_of s at end ≡ line_at s at
part_is_line s at end h =
    let n : end - at ≡ line_length (drop at s) = omega arith in
    rw n

pub line_beyond : (s : List ℕ) (at : ℕ) → length s ≤ at → line_at s at ≡ []
unfolding line_length
line_beyond s at h = rw (drop_of_length-le s h)

pub first_byte : (s : List ℕ) (at : ℕ) → at < length s → get_or (line_at s at) 0 0 ≡ get_or s at 0
first_byte s at h =
    get_or-take (line_length (drop at s)) (drop at s) 0 0 (line_length_some (drop at s) (rw length-drop (omega arith)))
    ∙ get_or-drop at s 0 0
    ∙ ap (λ (k : ℕ). get_or s k 0) (add-zero at)

-- The lines from a position on

lines-first : (s : List ℕ) → 0 < length s → lines s ≡ take (line_length s) s ∷ lines (drop (line_length s) s)
unfolding lines line_length
lines-first [] h = absurd (omega arith)
lines-first (x ∷ []) h = grind (arith, nat_tests)
lines-first (x ∷ y ∷ s) h = grind (arith, nat_tests, lines-first (y ∷ s) (omega arith))

pub lines_at : (s : List ℕ) (at : ℕ) → at < length s → lines (drop at s) ≡ line_at s at ∷ lines (drop (end_of s at) s)
lines_at s at h =
    lines-first (drop at s) (rw length-drop (omega arith))
    ∙ ap (λ (r : List ℕ). line_at s at ∷ lines r) (drop-drop (line_length (drop at s)) at s)

pub lines_end : (s : List ℕ) (at : ℕ) → length s ≤ at → lines (drop at s) ≡ []
unfolding lines
lines_end s at h = rw (drop_of_length-le s h)

pub lines-some : (s : List ℕ) → 0 < length s → 0 < length (lines s)
lines-some s h = rw (lines-first s h) (omega arith)

-- every line has a byte
pub line-some : (s : List ℕ) (k : ℕ) → k < length (lines s) → 0 < length (get_or (lines s) k [])
unfolding lines
line-some [] k h = absurd (omega arith)
line-some (x ∷ s) zero h = grind (arith, nat_tests, line-some s 0)
line-some (x ∷ s) (suc k) h = grind (arith, nat_tests, line-some s k, line-some s (suc k))

-- what is empty or ends in a line feed has its lines before those of what follows
pub lines-append : (s t : List ℕ) → (0 < length s → get_or s (length s - 1) 0 ≡ 10) → lines (s ++ t) ≡ lines s ++ lines t
unfolding lines
lines-append [] t e = refl
lines-append (x ∷ []) t e = rw (eq-eqb x 10 (e (omega arith)))
lines-append (x ∷ y ∷ s) t e =
    let ends : get_or (y ∷ s) (length s) 0 ≡ 10 = simp unary_clauses at (e (omega arith)) in
    grind (arith, nat_tests, lines-append (y ∷ s) t (λ _. simp unary_clauses ends), lines-some (y ∷ s))

-- Where so many lines end

pub start_next : (s : List ℕ) (k : ℕ) → start_of s (k + 1) ≡ end_of s (start_of s k)
unfolding start_of
start_next s k = rw add-one refl

pub start-within : (s : List ℕ) (k : ℕ) → start_of s k ≤ length s
unfolding start_of
start-within s zero = omega arith
start-within s (suc k) = end-within s (start_of s k) (start-within s k)

-- they end no further than the file does
start_further : (s : List ℕ) (k n : ℕ) → start_of s k ≡ length s → start_of s (k + n) ≡ length s
unfolding start_of
start_further s k zero e = rw add-zero e
start_further s k (suc n) e =
    let h = start_further s k n e in
    rw add-suc (end_beyond s (start_of s (k + n)) (omega arith) ∙ h)

pub start_stays : (s : List ℕ) (k n : ℕ) → k ≤ n → start_of s k ≡ length s → start_of s n ≡ length s
start_stays s k n h e =
    let m : k + (n - k) ≡ n = omega arith in
    rw m at (start_further s k (n - k) e)

-- the lines from there on are all but the first k
pub lines_from : (s : List ℕ) (k : ℕ) → lines (drop (start_of s k) s) ≡ drop k (lines s)
unfolding start_of
lines_from s zero = refl
lines_from s (suc k) = grind (arith, lines_from s k, lines_at s (start_of s k), lines_end s (start_of s k), lines_end s (end_of s (start_of s k)), drop-drop 1 k (lines s))
