-- A line of the order file, and its fields (document 01, "Order file").
use Rattle.std.specs.Prelude.{ℕ, List, Bool, true, false, cond, not, ◌&&◌, length, get_or, eqb, Option, Some, None, Result, Ok, Err}
use Rattle.std.specs.Str.{byte}
use Rattle.answers.specs.Answers.{stated}
use Rattle.line.specs.declared.Fields.{Fields}
use Rattle.line.specs.declared.Malformed.{Malformed}
use Rattle.line.specs.declared.line.Uses.{Uses}
use Rattle.line.specs.Field.{Field, field_at}

-- 21, line: "not as below"
abbrev pub malformed_number : ℕ
malformed_number = 21

abbrev pub refusal_number : Malformed → ℕ
refusal_number refusal = malformed_number

-- "A refusal gives back its number, with 0 in every other field"
abbrev pub no_fields : Fields
no_fields = record { letter = 0; date = 0; first = 0; second = 0; third = 0 }

-- number and fields of an answer
abbrev pub read_stated : Result Fields Malformed → ℕ × Fields
read_stated = stated refusal_number no_fields

-- The letters and the fields they use

abbrev pub uses : (date first second third : Bool) → Option Uses
uses date first second third = Some (record { date = date; first = first; second = second; third = third })

-- "O: date, term, rate, cents. F: first = holder, third = share. D: date. R: date, third = rate. T: cedent, assignee, share. S: third = cents.
-- E: third = lines before it.", by the letter's byte
unfoldable pub uses_of : ℕ → Option Uses
uses_of l =
    cond (eqb l (byte "O")) (uses true true true true)
    (cond (eqb l (byte "F")) (uses false true false true)
    (cond (eqb l (byte "D")) (uses true false false false)
    (cond (eqb l (byte "R")) (uses true false false true)
    (cond (eqb l (byte "T")) (uses false true true true)
    (cond (eqb l (byte "S")) (uses false false false true)
    (cond (eqb l (byte "E")) (uses false false false true) None))))))

-- "an unused field is all spaces, a used one never"
abbrev pub proper : Bool → Field → Bool
proper used (Ok None) = not used
proper used (Ok (Some n)) = used
proper used (Err refusal) = false

-- a field's number, 0 where it has none
abbrev pub number_of : Field → ℕ
number_of (Ok None) = 0
number_of (Ok (Some n)) = n
number_of (Err refusal) = 0

-- What is read

-- a known letter, which uses u, and four fields proper under it
abbrev pub formed : Option Uses → (date first second third : Field) → Bool
formed None date first second third = false
formed (Some u) date first second third =
    proper u.date date && (proper u.first first && (proper u.second second && proper u.third third))

abbrev pub fields_from : ℕ → (date first second third : Field) → Fields
fields_from l date first second third =
    record { letter = l; date = number_of date; first = number_of first; second = number_of second; third = number_of third }

unfoldable pub assembled_of : ℕ → Option Uses → (date first second third : Field) → ℕ × Fields
assembled_of l u date first second third =
    cond (formed u date first second third) (0, fields_from l date first second third) (malformed_number, no_fields)

-- "letter; columns 2–9 date; 10–18 first, 19–27 second, 28–42 third number"
unfoldable pub columns_of : List ℕ → ℕ × Fields
columns_of s =
    assembled_of (get_or s 0 0) (uses_of (get_or s 0 0)) (field_at s 1 8) (field_at s 9 9) (field_at s 18 9) (field_at s 27 15)

-- number and fields: "Each line has 42 columns and a line feed"
unfoldable pub line_of : List ℕ → ℕ × Fields
line_of s = cond (eqb (length s) 43 && eqb (get_or s 42 0) (byte "\n")) (columns_of s) (malformed_number, no_fields)
