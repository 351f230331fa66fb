-- The lines together are the file, each runs through the next line feed, and the parts by number are the lines.
use Rattle.std.proofs.Common.{◌≡◌, refl, ap, ◌∙◌, List, [], ◌∷◌, ℕ, zero, suc, ◌-◌, ◌≤◌, ◌<◌, arith, length, get_or, drop, length-drop, get_or-drop}
use Rattle.std.proofs.lemmas.Bool.Decides.{nat_tests}
use Rattle.lines.specs.Lines.{lines, line_at, end_of, start_of, line_start, line_end, part_of}
use Rattle.lines.specs.LineParts.{concatenated, LineParts}
use Rattle.lines.proofs.LinePositions.{end-past, end_beyond, part_is_line, line_beyond, lines_at, lines_end, lines_from, line-some, start-within}

lines-together : (s : List ℕ) → concatenated (lines s) ≡ s
unfolding lines
lines-together [] = refl
lines-together (x ∷ s) = grind (arith, nat_tests, lines-together s)

-- a line that isn't the last has a line feed as its last byte
abbrev EndsInFeed : List (List ℕ) → Type 0
EndsInFeed ls = (n : ℕ) → suc n < length ls → get_or (get_or ls n []) (length (get_or ls n []) - 1) 0 ≡ 10

ends_in_feed : (s : List ℕ) → EndsInFeed (lines s)
unfolding lines
ends_in_feed [] n h = absurd (omega arith)
ends_in_feed (x ∷ s) zero h = grind (arith, nat_tests, line-some s 0, ends_in_feed s 0)
ends_in_feed (x ∷ s) (suc n) h = grind (arith, nat_tests, ends_in_feed s n, ends_in_feed s (suc n))

-- no byte before a line's last is a line feed
abbrev NoFeedBefore : List (List ℕ) → Type 0
NoFeedBefore ls = (n k : ℕ) → suc k < length (get_or ls n []) → get_or (get_or ls n []) k 0 ≡ 10 → ⊥

next-feed : (s : List ℕ) → NoFeedBefore (lines s)
unfolding lines
next-feed [] n k h = absurd (omega arith)
next-feed (x ∷ s) zero zero h = grind (arith, nat_tests)
next-feed (x ∷ s) zero (suc k) h = grind (arith, nat_tests, next-feed s 0 k)
next-feed (x ∷ s) (suc n) k h = grind (arith, nat_tests, next-feed s n k, next-feed s (suc n) k)

-- the line that begins behind n lines is the first of those that are left
line-numbered : (s : List ℕ) (n : ℕ) → line_at s (start_of s n) ≡ get_or (lines s) n []
line-numbered s n = grind (arith, lines_from s n, lines_at s (start_of s n), lines_end s (start_of s n), line_beyond s (start_of s n), get_or-drop n (lines s) 0 [])

line_is_part : (s : List ℕ) (n : ℕ) → part_of s (line_start s (suc n)) (line_end s (suc n)) ≡ get_or (lines s) n []
unfolding line_start line_end start_of
line_is_part s n = part_is_line s (start_of s n) _ refl ∙ line-numbered s n

-- a line begins before the file's end where it is there, and at the end where it isn't
lines_left : (s : List ℕ) (n : ℕ) → length (lines (drop (start_of s n) s)) ≡ length (lines s) - n
lines_left s n = ap length (lines_from s n) ∙ length-drop n (lines s)

-- at the file's end no line follows
end_is_end : (s : List ℕ) (at : ℕ) → at ≡ length s → (at ≡ length s) × (end_of s at ≡ length s)
end_is_end s at e = (e, end_beyond s at (omega arith) ∙ e)

beyond_is_end : (s : List ℕ) (n : ℕ) → length (lines s) ≤ n → (line_start s (suc n) ≡ length s) × (line_end s (suc n) ≡ length s)
unfolding line_start line_end start_of
beyond_is_end s n h =
    end_is_end s (start_of s n) (grind (arith, lines_left s n, lines_at s (start_of s n), start-within s n))

none_is_start : (s : List ℕ) → (line_start s 0 ≡ 0) × (line_end s 0 ≡ 0)
unfolding line_start line_end start_of
none_is_start s = (refl, refl)

line-begins : (s : List ℕ) (n : ℕ) → n < length (lines s) → line_start s (suc n) < line_end s (suc n)
unfolding line_start line_end start_of
line-begins s n h = grind (arith, lines_left s n, end-past s (start_of s n), lines_end s (start_of s n))

pub part_within : (s : List ℕ) (n : ℕ) → (line_start s n ≤ line_end s n) × (line_end s n ≤ length s)
unfolding line_start line_end start_of
part_within s zero = (omega arith, omega arith)
part_within s (suc k) = (omega arith, start-within s (suc k))

first-begins : (s : List ℕ) → line_start s 1 ≡ 0
unfolding line_start line_end start_of
first-begins s = refl

one_behind_another : (s : List ℕ) (n : ℕ) → line_start s (suc (suc n)) ≡ line_end s (suc n)
unfolding line_start line_end start_of
one_behind_another s n = refl

pub parts : LineParts
parts =
    record {
      lines-together = lines-together;
      ends_in_feed = ends_in_feed;
      next-feed = next-feed;
      line_is_part = line_is_part;
      beyond_is_end = beyond_is_end;
      first-begins = first-begins;
      one_behind_another = one_behind_another;
      none_is_start = none_is_start;
      line-begins = line-begins;
      part_within = part_within;
    }
