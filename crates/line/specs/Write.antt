-- The line that is written for given fields (document 01, "Order file").
use Rattle.std.specs.Prelude.{ℕ, ◌+◌, ◌^◌, List, [], ◌∷◌, ◌++◌, Bool, true, false, cond, ◌&&◌, length, drop, ltb, leb, eqb, Option, Some, None, Result}
use Rattle.std.specs.Str.{byte}
use Rattle.std.proofs.lemmas.List.Edits.{sets}
use Rattle.answers.specs.Answers.{number_in}
use Rattle.line.specs.declared.Fields.{Fields}
use Rattle.line.specs.declared.Malformed.{Malformed}
use Rattle.line.specs.declared.line.Uses.{Uses}
use Rattle.line.specs.Field.{padded, justified}
use Rattle.line.specs.Line.{malformed_number, refusal_number, uses_of}

-- an answer's number
abbrev pub write_stated : Result Unit Malformed → ℕ
write_stated = number_in refusal_number

-- a used field is not "too wide" below its limit, and "an unused field not 0" is refused
abbrev pub fits : Bool → ℕ → ℕ → Bool
fits true limit n = ltb n limit
fits false limit n = eqb n 0

-- no "unknown letter", and the fields fit their 8, 9, 9 and 15 columns, under a letter that uses u
unfoldable pub fits_all : Option Uses → Fields → Bool
fits_all None f = false
fits_all (Some u) f =
    fits u.date (10 ^ 8) f.date
    && (fits u.first (10 ^ 9) f.first
    && (fits u.second (10 ^ 9) f.second && fits u.third (10 ^ 15) f.third))

unfoldable pub writable : Fields → Bool
writable f = fits_all (uses_of f.letter) f

-- a field's w columns: the number, or "all spaces"
unfoldable pub field_bytes : Bool → ℕ → ℕ → List ℕ
field_bytes true w n = justified w n
field_bytes false w n = padded w 0

-- "42 columns and a line feed: letter; columns 2–9 date; 10–18 first, 19–27 second, 28–42 third number", under a letter that uses u
unfoldable pub bytes_under : Uses → Fields → List ℕ
bytes_under u f =
    f.letter
    ∷ (field_bytes u.date 8 f.date
    ++ (field_bytes u.first 9 f.first ++ (field_bytes u.second 9 f.second ++ (field_bytes u.third 15 f.third ++ (byte "\n" ∷ [])))))

-- the fields that a letter uses: none where it is unknown
abbrev pub used_in : Option Uses → Uses
used_in None = record { date = false; first = false; second = false; third = false }
used_in (Some u) = u

-- the line's 43 bytes
unfoldable pub line_bytes : Fields → List ℕ
line_bytes f = bytes_under (used_in (uses_of f.letter)) f

-- "The writer puts the line for given fields in the buffer's first 43 bytes and leaves the rest. It gives 21, the buffer untouched, for an
-- unknown letter, a field too wide, an unused field not 0, or a shorter buffer.": its number, and the buffer afterwards
unfoldable pub written_of : Fields → List ℕ → ℕ × List ℕ
written_of f buffer = cond (leb 43 (length buffer) && writable f) (0, line_bytes f ++ drop 43 buffer) (malformed_number, buffer)

-- a buffer with the number n in its w columns from a position on; as it was where they are not all there
unfoldable pub number_put : List ℕ → (at w n : ℕ) → List ℕ
number_put buffer at w n = cond (leb (at + w) (length buffer)) (sets buffer at (justified w n)) buffer
