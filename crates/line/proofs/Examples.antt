-- The worked examples, by computation.
use Rattle.std.proofs.Common.{refl}
use Rattle.line.specs.Field.{field_at}
use Rattle.line.specs.Line.{uses_of, assembled_of, columns_of, line_of}
use Rattle.line.specs.Write.{fits_all, writable, written_of}
use Rattle.line.specs.Examples.{Examples}

pub examples : Examples
unfolding written_of writable fits_all field_at uses_of assembled_of columns_of line_of
examples =
    record {
      opening-read = refl;
      financing-read = refl;
      advance-read = refl;
      transfer-read = refl;
      later_advance_read = refl;
      settlement_read = refl;
      end_read = refl;
      rate-read = refl;
      small_date_read = refl;
      nothing_settled_read = refl;
      widest_read = refl;
      leading_zero_refused = refl;
      unused_filled_refused = refl;
      used_blank_refused = refl;
      left_justified_refused = refl;
      unknown_letter_refused = refl;
      cut-refused = refl;
      longer_refused = refl;
      widest_written = refl;
      date_too_wide = refl;
      first_too_wide = refl;
      second_too_wide = refl;
      third_too_wide = refl;
      unused-filled = refl;
      unknown-letter = refl;
      short-buffer = refl;
    }
