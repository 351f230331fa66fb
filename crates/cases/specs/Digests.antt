-- Digests of numbers and of bytes.
use Rattle.std.specs.Prelude.{List, ℕ, ◌+◌, ◌*◌, ◌%◌, length}
use Rattle.std.specs.List.{fold}

-- the greatest prime below 2^32
abbrev pub modulus : ℕ
modulus = 4294967291

-- the digest h with one number more
unfoldable pub mixed_of : ℕ → ℕ → ℕ
mixed_of h value = (h * 31 + value) % modulus

-- the count of the bytes, and each byte in order
abbrev pub digest_of : List ℕ → ℕ
digest_of l = fold mixed_of (length l % modulus) l
