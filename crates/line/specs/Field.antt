-- A number field of fixed width (document 01, "Order file"): "Numbers stand right-justified after spaces, without leading zeros (zero is one 0)".
use Rattle.std.specs.Prelude.{ℕ, zero, suc, ◌+◌, ◌-◌, ◌*◌, ◌/◌, ◌%◌, List, [], ◌∷◌, ◌++◌, Bool, cond, ◌&&◌, get_or, leb, eqb, Option, Some, None, Result, Ok, Err}
use Rattle.std.specs.Str.{byte}
use Rattle.line.specs.declared.Malformed.{Malformed}

-- the byte of a space
abbrev pub space : ℕ
space = byte " "

-- the byte of the digit 0; that of the digit d is d more
abbrev pub zero_byte : ℕ
zero_byte = byte "0"

-- "All numbers in files are decimal": the bytes of 0 to 9
abbrev pub is_digit : ℕ → Bool
is_digit c = leb (byte "0") c && leb c (byte "9")

-- Reading

-- what a field's columns are: blank where all are spaces, else its number, bad where they are neither
abbrev pub Field : Type 0
Field = Result (Option ℕ) Malformed

abbrev pub blank : Field
blank = Ok None

abbrev pub number : ℕ → Field
number n = Ok (Some n)

abbrev pub bad : Field
bad = Err (record {})

-- the field f with the column c on its right. "right-justified after spaces": a space only before the first digit; "without leading zeros (zero
-- is one 0)": nothing after a 0 that is the first digit
abbrev pub step_of : Field → ℕ → Field
step_of (Ok None) c = cond (eqb c space) blank (cond (is_digit c) (number (c - zero_byte)) bad)
step_of (Ok (Some n)) c = cond (eqb n 0) bad (cond (is_digit c) (number (n * 10 + (c - zero_byte))) bad)
step_of (Err refusal) c = bad

-- the field of w columns of s from `at` on
unfoldable pub field_at : List ℕ → ℕ → ℕ → Field
field_at s at zero = blank
field_at s at (suc w) = step_of (field_at s at w) (get_or s (at + w) 0)

-- Writing

-- a column left of the last one: the last digit of m, or a space where nothing of the number is left
abbrev pub symbol_of : ℕ → ℕ
symbol_of m = cond (eqb m 0) space (zero_byte + m % 10)

-- the digits of m, "right-justified after spaces" in w columns: spaces alone where m is 0
unfoldable pub padded : ℕ → ℕ → List ℕ
padded zero m = []
padded (suc w) m = padded w (m / 10) ++ (symbol_of m ∷ [])

-- the number n in w columns: its last digit always stands, as "zero is one 0"
unfoldable pub justified : ℕ → ℕ → List ℕ
justified zero n = []
justified (suc w) n = padded w (n / 10) ++ ((zero_byte + n % 10) ∷ [])
