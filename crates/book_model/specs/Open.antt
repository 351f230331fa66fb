-- Open (document 01): first day, term in days, annual rate, recognised cents; "Holders and shares arrive as two lists of numbers."
use Rattle.std.specs.Prelude.{ℕ, Bool, true, cond, not, ◌&&◌, List, [], ◌∷◌, ◌++◌, leb, ltb, eqb, length, drop, set, sum}
use Rattle.std.specs.List.{list_all}
use Rattle.general_laws.specs.Members.{distinct}
use Rattle.calendar.specs.Calendar.{is_date}
use Rattle.book_model.specs.declared.Book.{Book}
use Rattle.account.specs.declared.Cents.{Cents}
use Rattle.account.specs.declared.Day.{Day}
use Rattle.book_model.specs.declared.Position.{Position}
use Rattle.book_model.specs.declared.Refusal.TheVariants as refusal
use Rattle.book_model.specs.Book.{empty_book, fresh, order_from}
use Rattle.account.specs.Opening.{opening}
use Rattle.book_model.specs.Outcome.{Outcome, nothing, accept, refuse}
use Rattle.book_model.specs.Positions.{is_holder}

abbrev pub is_share : ℕ → Bool
is_share n = not (eqb n 0)

-- not 7: "lists of unequal length, not 1–64 holders, a holder 0, over 999,999,999 or twice, a share 0, or a sum not 1,000,000"
unfoldable pub is_financing : List ℕ → List ℕ → Bool
is_financing hs ss =
    eqb (length hs) (length ss)
    && (leb 1 (length hs)
    && (leb (length hs) 64 && (list_all is_holder hs && (distinct hs && (list_all is_share ss && eqb (sum ss) 1000000)))))

-- not 4: "term not 1–6,000, or first day after 20991231"
abbrev pub is_term : ℕ → ℕ → Bool
is_term first term = leb 1 term && (leb term 6000 && leb first 20991231)

-- not 5: "Open: 0 or over 10^12"
abbrev pub is_recognised : ℕ → Bool
is_recognised cents = not (eqb cents 0) && leb cents 1000000000000

-- the positions of the holders, in their order
abbrev pub founded : List ℕ → List ℕ → List Position
founded [] ss = []
founded (h ∷ hs) [] = []
founded (h ∷ hs) (s ∷ ss) = fresh h s ∷ founded hs ss

-- "Today becomes day 0, outstanding the recognised cents, and the rate holds from day 0; everything else is 0."
unfoldable pub new_book : ℕ → Day → ℕ → Cents → List ℕ → List ℕ → Book
new_book first term annual cents hs ss =
    record {
      opened = true;
      first = first;
      term = term;
      today = record { 0 = 0 };
      recognised = cents;
      account = opening cents.0;
      count = length (founded hs ss);
      positions = founded hs ss ++ drop (length (founded hs ss)) empty_book.positions;
      settled = 0;
      settlements = empty_book.settlements;
      rated = 1;
      rates = set empty_book.rates 0 (order_from 0 annual);
    }

-- "Lowest applicable number first"
unfoldable pub opened : Book → ℕ → Day → ℕ → Cents → List ℕ → List ℕ → Outcome (Unit {0})
opened b first term annual cents hs ss =
    -- 2: "Open on an open book"
    cond b.opened (refuse nothing b refusal.AlreadyOpen)
    -- 3: "not a date as above"
    (cond (not (is_date first)) (refuse nothing b refusal.Date)
    (cond (not (is_term first term.0)) (refuse nothing b refusal.Term)
    (cond (not (is_recognised cents.0)) (refuse nothing b refusal.Amount)
    -- 6: "over 4,000"
    (cond (ltb 4000 annual) (refuse nothing b refusal.Rate)
    (cond (not (is_financing hs ss)) (refuse nothing b refusal.Financing)
    -- "Answers nothing beyond its number."
    (accept nothing (new_book first term annual cents hs ss)))))))
