-- The 43 bytes from a position on read as the line that begins there does: a well-formed line has no line feed among its columns.
use Rattle.std.proofs.Common.{◌≡◌, sym, ap, ◌∙◌, List, [], ◌∷◌, ℕ, zero, suc, ◌+◌, ◌-◌, ◌≤◌, ◌<◌, arith, length, get_or, take, drop, length-take, length-drop, length-take-le, get_or-take}
use Rattle.std.proofs.lemmas.Bool.Decides.{nat_tests}
use Rattle.std.specs.Prelude.{Result, Ok, Err, IfOk}
use Rattle.line.specs.declared.Fields.{Fields}
use Rattle.line.specs.declared.Malformed.{Malformed}
use Rattle.line.specs.Line.{read_stated, line_of}
use Rattle.line.proofs.Callers.{Refused, length-refuses, last-refuses, columns-refuse, columns-feed, read_length}
use Rattle.lines.specs.Lines.{line_length, line_at, end_of}
use Rattle.lines.proofs.LinePositions.{line_length_within, line_length_some}

-- The first line feed

-- it is the last byte of a line that isn't the whole
feed-last : (s : List ℕ) (k : ℕ) → line_length s ≡ suc k → line_length s < length s → get_or s k 0 ≡ 10
unfolding line_length
feed-last [] k e h = absurd (omega arith)
feed-last (x ∷ s) zero e h = grind (arith, nat_tests, line_length_some s)
feed-last (x ∷ s) (suc k) e h = grind (arith, nat_tests, feed-last s k)

-- and no byte before
no_feed_before : (s : List ℕ) (k : ℕ) → suc k < line_length s → get_or s k 0 ≡ 10 → ⊥
unfolding line_length
no_feed_before [] k h = absurd (omega arith)
no_feed_before (x ∷ s) zero h = grind (arith, nat_tests)
no_feed_before (x ∷ s) (suc k) h = grind (arith, nat_tests, no_feed_before s k)

-- The line read

line_taken : (s : List ℕ) → length (take (line_length s) s) ≡ line_length s
line_taken s = length-take-le (line_length s) s (line_length_within s)

-- one of another length than 43 is refused, and so are its first 43 bytes
shorter_refused : (s : List ℕ) → line_length s < 43 → Refused (line_of (take 43 s))
shorter_refused s h =
    grind (
      arith,
      length-refuses (take 43 s),
      length-take 43 s,
      line_length_some s,
      feed-last s (line_length s - 1),
      columns-refuse (take 43 s),
      columns-feed (take 43 s) (line_length s - 1),
      get_or-take 43 s (line_length s - 1) 0,
    )

longer_refused : (s : List ℕ) → 43 < line_length s → Refused (line_of (take 43 s))
longer_refused s h = last-refuses (take 43 s) (λ e. no_feed_before s 42 h (sym (get_or-take 43 s 42 0 (omega arith)) ∙ e))

first-line : (s : List ℕ) → line_of (take 43 s) ≡ line_of (take (line_length s) s)
first-line s = grind (arith, shorter_refused, longer_refused, length-refuses, line_taken)

-- what is read from a position on
pub line_in_columns : (s : List ℕ) (at : ℕ) → line_of (line_at s at) ≡ line_of (take 43 (drop at s))
line_in_columns s at = sym (first-line (drop at s))

-- a line that isn't refused is 43 bytes long
pub read_ends : (s : List ℕ) (at : ℕ) (r : Result Fields Malformed) → read_stated r ≡ line_of (take 43 (drop at s))
    → IfOk r (λ f. (end_of s at ≡ at + 43) × (at + 43 ≤ length s))
read_ends s at (Ok f) h =
    let n : line_length (drop at s) ≡ 43 = sym (line_taken (drop at s)) ∙ read_length (line_at s at) f (line_in_columns s at ∙ sym h) in
    (ap (λ (k : ℕ). at + k) n, omega (arith, line_length_within (drop at s), length-drop at s))
read_ends s at (Err refusal) h = tt

-- where fewer are left, the line is refused
pub few_refused : (s : List ℕ) (at : ℕ) → length (drop at s) < 43 → Refused (line_of (line_at s at))
few_refused s at h = length-refuses (line_at s at) (λ e. omega (arith, line_taken (drop at s), line_length_within (drop at s)))
