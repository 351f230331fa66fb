-- Decimal numbers in a list of bytes, and the bytes of a case.
use Rattle.std.specs.Prelude.{Bool, ◌&&◌, List, ℕ, ◌+◌, ◌-◌, ◌*◌, min, leb, length, take, drop}
use Rattle.std.specs.List.{fold, prefix_len, position_or_len, take_while}

-- the greatest u64
abbrev pub greatest : ℕ
greatest = 18446744073709551615

-- '0' to '9'
abbrev pub is_digit : ℕ → Bool
is_digit b = leb 48 b && leb b 57

-- how many bytes stand before the first digit
abbrev pub skipped : List ℕ → ℕ
skipped l = position_or_len is_digit l

-- how many digits stand in front
abbrev pub digits : List ℕ → ℕ
digits l = prefix_len is_digit l

-- the number whose digits stand in front
abbrev pub decimal : List ℕ → ℕ
decimal l = fold (λ v b. v * 10 + (b - 48)) 0 (take_while is_digit l)

-- the number that begins at a position, or the greatest u64 where it is larger, and the position behind it
abbrev pub number_from : List ℕ → ℕ → ℕ × ℕ
number_from s at = (min (decimal (drop at s)) greatest, at + digits (drop at s))

-- the first number from a position on, and the position behind it
unfoldable pub number_at : List ℕ → ℕ → ℕ × ℕ
number_at s at = number_from s (at + skipped (drop at s))

-- where the bytes of a case begin and end: as many as the first number from a position on says, or as the text has, behind the byte after the number
unfoldable pub bytes_at : List ℕ → ℕ → ℕ × ℕ
bytes_at s at = (min ((number_at s at).1 + 1) (length s), min ((number_at s at).1 + 1 + (number_at s at).0) (length s))

-- the bytes that begin and end there
abbrev pub bytes_between : List ℕ → ℕ × ℕ → List ℕ
bytes_between s bounds = take (bounds.1 - bounds.0) (drop bounds.0 s)
