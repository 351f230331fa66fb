-- What a line orders (document 01, "Order file").
use Rattle.std.specs.Prelude.{ℕ, cond, List, eqb}
use Rattle.std.specs.Str.{byte}
use Rattle.book_model.specs.Call.{Call, Advance, Rate, Transfer, Settle}
use Rattle.line.specs.declared.Fields.{Fields}
use Rattle.line.specs.Line.{line_of}

pub data Order : Type 0 where
  -- an opening, without its holders
  Open : (first term annual cents : ℕ) → Order
  -- one holder of an opening
  Finance : (holder share : ℕ) → Order
  -- a call after the opening
  Later : Call → Order
  -- an E line, with its count of the lines before it
  End : (count : ℕ) → Order
  Malformed : Order

-- "O: date, term, rate, cents. F: first = holder, third = share. D: date. R: date, third = rate. T: cedent, assignee, share. S: third = cents.
-- E: third = lines before it.", by the letter's byte
unfoldable pub order_of : Fields → Order
order_of f =
    cond (eqb f.letter (byte "O")) (Open f.date f.first f.second f.third)
    (cond (eqb f.letter (byte "F")) (Finance f.first f.third)
    (cond (eqb f.letter (byte "D")) (Later (Advance f.date))
    (cond (eqb f.letter (byte "R")) (Later (Rate f.date f.third))
    (cond (eqb f.letter (byte "T")) (Later (Transfer f.first f.second f.third))
    (cond (eqb f.letter (byte "S")) (Later (Settle f.third))
    (cond (eqb f.letter (byte "E")) (End f.third) Malformed))))))

-- by the line's bytes
unfoldable pub order_in : List ℕ → Order
order_in l = cond (eqb (line_of l).0 0) (order_of (line_of l).1) Malformed
