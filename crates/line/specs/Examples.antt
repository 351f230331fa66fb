-- The lines of document 01's example file read as their fields, a rate order, lines that are malformed, and fields that just make a line or just don't.
use Rattle.std.specs.Prelude.{ℕ, ◌≡◌, List, ◌++◌, take, replicate, codes}
use Rattle.std.specs.Str.{byte}
use Prim.Native.String.{String}
use Rattle.line.specs.declared.Fields.{Fields}
use Rattle.line.specs.Line.{no_fields, line_of}
use Rattle.line.specs.Write.{written_of}

abbrev pub fields : String → (date first second third : ℕ) → Fields
fields letter date first second third = record { letter = byte letter; date = date; first = first; second = second; third = third }

abbrev pub read : String → (date first second third : ℕ) → ℕ × Fields
read letter date first second third = (0, fields letter date first second third)

abbrev pub malformed : ℕ × Fields
malformed = (21, no_fields)

-- the writer's number, for a buffer of so many bytes
abbrev pub written : (bytes : ℕ) → Fields → ℕ
written bytes f = (written_of f (replicate bytes 0)).0

-- The bytes of each line, as it is printed in the paper, and its line feed

abbrev pub opening_line : List ℕ
opening_line = codes "O20140101       30     2000            100\n"

abbrev pub financing_line : List ℕ
financing_line = codes "F                1                 1000000\n"

abbrev pub advance_line : List ℕ
advance_line = codes "D20140111                                 \n"

abbrev pub transfer_line : List ℕ
transfer_line = codes "T                1        2         500000\n"

abbrev pub later_advance_line : List ℕ
later_advance_line = codes "D20140131                                 \n"

abbrev pub settlement_line : List ℕ
settlement_line = codes "S                                      100\n"

abbrev pub end_line : List ℕ
end_line = codes "E                                        6\n"

abbrev pub rate_line : List ℕ
rate_line = codes "R20140105                             1500\n"

abbrev pub small_date_line : List ℕ
small_date_line = codes "D       5                                 \n"

abbrev pub nothing_settled_line : List ℕ
nothing_settled_line = codes "S                                        0\n"

abbrev pub widest_line : List ℕ
widest_line = codes "S                          999999999999999\n"

abbrev pub leading_zero_line : List ℕ
leading_zero_line = codes "E                                       06\n"

abbrev pub unused_filled_line : List ℕ
unused_filled_line = codes "S               0                      100\n"

abbrev pub used_blank_line : List ℕ
used_blank_line = codes "T                         2         500000\n"

abbrev pub left_justified_line : List ℕ
left_justified_line = codes "E                                       6 \n"

abbrev pub unknown_letter_line : List ℕ
unknown_letter_line = codes "X                                        6\n"

pub record Examples : Type 0 where
  pub opening-read : line_of opening_line ≡ read "O" 20140101 30 2000 100
  pub financing-read : line_of financing_line ≡ read "F" 0 1 0 1000000
  pub advance-read : line_of advance_line ≡ read "D" 20140111 0 0 0
  pub transfer-read : line_of transfer_line ≡ read "T" 0 1 2 500000
  pub later_advance_read : line_of later_advance_line ≡ read "D" 20140131 0 0 0
  pub settlement_read : line_of settlement_line ≡ read "S" 0 0 0 100
  pub end_read : line_of end_line ≡ read "E" 0 0 0 6
  -- the letter that the file doesn't have
  pub rate-read : line_of rate_line ≡ read "R" 20140105 0 0 1500
  -- a date field is a number like the others; the call refuses it
  pub small_date_read : line_of small_date_line ≡ read "D" 5 0 0 0
  -- "zero is one 0"
  pub nothing_settled_read : line_of nothing_settled_line ≡ read "S" 0 0 0 0
  -- a number that fills its field
  pub widest_read : line_of widest_line ≡ read "S" 0 0 0 999999999999999
  -- "without leading zeros"
  pub leading_zero_refused : line_of leading_zero_line ≡ malformed
  -- "an unused field is all spaces, a used one never"
  pub unused_filled_refused : line_of unused_filled_line ≡ malformed
  pub used_blank_refused : line_of used_blank_line ≡ malformed
  -- "right-justified"
  pub left_justified_refused : line_of left_justified_line ≡ malformed
  pub unknown_letter_refused : line_of unknown_letter_line ≡ malformed
  -- "and a line feed": none, or another line's bytes after it
  pub cut-refused : line_of (take 42 end_line) ≡ malformed
  pub longer_refused : line_of (end_line ++ end_line) ≡ malformed
  -- the writer: "21 .. for an unknown letter, a field too wide, an unused field not 0, or a shorter buffer"
  pub widest_written : written 43 (fields "O" 99999999 999999999 999999999 999999999999999) ≡ 0
  pub date_too_wide : written 43 (fields "O" 100000000 999999999 999999999 999999999999999) ≡ 21
  pub first_too_wide : written 43 (fields "O" 99999999 1000000000 999999999 999999999999999) ≡ 21
  pub second_too_wide : written 43 (fields "O" 99999999 999999999 1000000000 999999999999999) ≡ 21
  pub third_too_wide : written 43 (fields "O" 99999999 999999999 999999999 1000000000000000) ≡ 21
  pub unused-filled : written 43 (fields "S" 1 0 0 100) ≡ 21
  pub unknown-letter : written 43 (fields "X" 0 0 0 6) ≡ 21
  pub short-buffer : written 42 (fields "S" 0 0 0 100) ≡ 21
