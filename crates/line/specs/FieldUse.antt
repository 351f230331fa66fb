-- The number of a field that is used or not, and the field of a number. Private contracts alone cite this: nobody has to believe it.
use Rattle.std.specs.Prelude.{ℕ, Bool, cond, Result, Ok, Err}
use Rattle.line.specs.declared.Malformed.{Malformed}
use Rattle.line.specs.Field.{Field, number}
use Rattle.line.specs.Line.{proper, number_of}

-- its number, if it is proper
abbrev pub used_number : Bool → Field → Result ℕ Malformed
used_number used f = cond (proper used f) (Ok (number_of f)) (Err (record {}))

-- the field that isn't blank: the number that it holds, or the refusal
abbrev pub filled_field : Result ℕ Malformed → Field
filled_field (Ok n) = number n
filled_field (Err refusal) = Err refusal
