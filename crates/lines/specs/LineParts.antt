-- What positions and numbers of lines have to do with the list of lines.
use Rattle.std.specs.Prelude.{ℕ, suc, ◌-◌, ◌≤◌, ◌<◌, ◌≡◌, List, [], ◌∷◌, ◌++◌, length, get_or}
use Rattle.std.specs.Str.{byte}
use Rattle.lines.specs.Lines.{lines, line_start, line_end, part_of}

-- the lines one after the other
abbrev pub concatenated : List (List ℕ) → List ℕ
concatenated [] = []
concatenated (l ∷ ls) = l ++ concatenated ls

pub record LineParts : Type 0 where
  -- "A line runs through the next line feed, or to the file's end if none follows.": the lines together are the file, each but the last ends in
  -- a line feed, and no line has one before its last byte
  pub lines-together : (s : List ℕ) → concatenated (lines s) ≡ s
  pub ends_in_feed : (s : List ℕ) (n : ℕ) → suc n < length (lines s) → get_or (get_or (lines s) n []) (length (get_or (lines s) n []) - 1) 0 ≡ byte "\n"
  pub next-feed : (s : List ℕ) (n k : ℕ) → suc k < length (get_or (lines s) n []) → get_or (get_or (lines s) n []) k 0 ≡ byte "\n" → ⊥
  -- line n + 1 is the part from its start to its end; beyond the last line that is the empty part at the file's end
  pub line_is_part : (s : List ℕ) (n : ℕ) → part_of s (line_start s (suc n)) (line_end s (suc n)) ≡ get_or (lines s) n []
  pub beyond_is_end : (s : List ℕ) (n : ℕ) → length (lines s) ≤ n → (line_start s (suc n) ≡ length s) × (line_end s (suc n) ≡ length s)
  -- the first line begins at the file's start, and each other one where the one before it ends
  pub first-begins : (s : List ℕ) → line_start s 1 ≡ 0
  pub one_behind_another : (s : List ℕ) (n : ℕ) → line_start s (suc (suc n)) ≡ line_end s (suc n)
  -- no line has the number 0, which is the empty part at the file's start
  pub none_is_start : (s : List ℕ) → (line_start s 0 ≡ 0) × (line_end s 0 ≡ 0)
  -- a line that is there begins before the file's end, and has a byte
  pub line-begins : (s : List ℕ) (n : ℕ) → n < length (lines s) → line_start s (suc n) < line_end s (suc n)
  -- every part stands in the file
  pub part_within : (s : List ℕ) (n : ℕ) → (line_start s n ≤ line_end s n) × (line_end s n ≤ length s)
