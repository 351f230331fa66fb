-- What document 01's table says of an answer: 0 where it is accepted, else the refusal's number.
use Rattle.std.specs.Prelude.{ℕ, Result, Ok, Err}

-- an answer's number and its value, which is zeros where it is refused
abbrev pub stated : {T E : Type 0} → (E → ℕ) → T → Result T E → ℕ × T
stated number zeros (Ok value) = (0, value)
stated number zeros (Err refusal) = (number refusal, zeros)

-- an answer's number alone
abbrev pub number_in : {T E : Type 0} → (E → ℕ) → Result T E → ℕ
number_in number (Ok value) = 0
number_in number (Err refusal) = number refusal
