-- The invariant: n is the number of the columns passed, and 0 only before the first.
use Rattle.std.proofs.Common.{◌≡◌}
use Rattle.line.specs.Field.{field_at}
use Rattle.line.proofs.FieldReading.{passed}
use Rattle.line.proofs.field.read_digits.Given as goal

abbrev pub invariant-loop-digit : goal.invariant-loop-digit
invariant-loop-digit l =
    (field_at l.digits 0 l.digit-index ≡ passed l.digit-index l.n) × (l.digit-index ≡ 0 → l.n ≡ 0) × (l.n ≡ 0 → l.digit-index ≡ 0)
