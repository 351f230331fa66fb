-- The lines of a file (document 01, "Order file"): "A line runs through the next line feed, or to the file's end if none follows."
use Rattle.std.specs.Prelude.{ℕ, zero, suc, ◌+◌, ◌-◌, List, [], ◌∷◌, cond, eqb, take, drop}
use Rattle.std.specs.Borrow.{Bor}
use Rattle.std.specs.Str.{byte}

-- a byte before the lines of what follows it
abbrev pub joined : ℕ → List (List ℕ) → List (List ℕ)
joined x [] = (x ∷ []) ∷ []
joined x (l ∷ ls) = (x ∷ l) ∷ ls

-- all lines, each with its line feed
unfoldable pub lines : List ℕ → List (List ℕ)
lines [] = []
lines (x ∷ s) = cond (eqb x (byte "\n")) ((x ∷ []) ∷ lines s) (joined x (lines s))

-- By position

-- the length of the first line
unfoldable pub line_length : List ℕ → ℕ
line_length [] = 0
line_length (x ∷ s) = cond (eqb x (byte "\n")) 1 (suc (line_length s))

-- the line that begins at a position, and the position behind it
abbrev pub line_at : List ℕ → ℕ → List ℕ
line_at s at = take (line_length (drop at s)) (drop at s)

abbrev pub end_of : List ℕ → ℕ → ℕ
end_of s at = at + line_length (drop at s)

-- where the line begins that has k lines before it; the file's end where there are fewer
unfoldable pub start_of : List ℕ → ℕ → ℕ
start_of s zero = 0
start_of s (suc k) = end_of s (start_of s k)

-- By number, "its number from 1"

-- where a line begins and ends. A number behind the last line's stands for the empty part at the file's end, and 0 for the one at its start
unfoldable pub line_start : List ℕ → ℕ → ℕ
line_start s zero = 0
line_start s (suc k) = start_of s k

unfoldable pub line_end : List ℕ → ℕ → ℕ
line_end s n = start_of s n

-- the bytes from a to e
abbrev pub part_of : List ℕ → ℕ → ℕ → List ℕ
part_of s a e = take (e - a) (drop a s)

-- the same as a part of the lent file: where in memory it stands, so many bytes behind the file's own first byte, and its bytes
abbrev pub part_in : Bor (List ℕ) → ℕ → ℕ → Bor (List ℕ)
part_in file a e = record { ref_ptr = (file.ref_ptr.0, a + file.ref_ptr.1); now = part_of file.now a e }
