-- The worked examples, by computation; the paper's file by the calls of example 8.
use Rattle.std.proofs.Common.{ℕ, ◌+◌, ◌≤◌, ◌<◌, ◌≡◌, refl, sym, ap, ◌∙◌, true, false, List, [], ◌∷◌, ◌++◌, arith, take}
use Rattle.std.specs.Prelude.{codes}
use Rattle.calendar.specs.Calendar.{days_of_years, day_count}
use Rattle.book_model.specs.declared.Book.{Book}
use Rattle.book_model.specs.declared.Taken.{Taken}
use Rattle.account.specs.Accrual.{accrued_day}
use Rattle.book_model.specs.Advance.{day_passed, days_passed, advanced_to, advanced, last_settled}
use Rattle.book_model.specs.Book.{held, empty_book, with_held, with_account, with_today}
use Rattle.account.specs.Opening.{opening}
use Rattle.book_model.specs.Call.{Call, Advance, Transfer, Settle}
use Rattle.book_model.specs.Calls.{book_after, number_of, run}
use Rattle.book_model.specs.Outcome as outcome
use Rattle.book_model.specs.Open.{is_financing, new_book, opened}
use Rattle.book_model.specs.Rate.{rated}
use Rattle.book_model.specs.Read.{totals_of}
use Rattle.account.specs.Schedule.{last_day}
use Rattle.book_model.specs.Transfer.{moved, transferred}
use Rattle.book_model.proofs.Callers.{accepted as settle-accepted}
use Rattle.conservation.specs.Examples.{own_book, file_book}
use Rattle.conservation.proofs.Callers.{examples as conservation-examples}
use Rattle.line.specs.Examples.{opening_line, financing_line, advance_line, transfer_line, later_advance_line, settlement_line, end_line}
use Rattle.line.specs.Field.{field_at, padded, justified}
use Rattle.line.specs.Write.{field_bytes, bytes_under, line_bytes}
use Rattle.line.specs.Line.{uses_of, assembled_of, columns_of, line_of}
use Rattle.lines.specs.Lines.{lines, line_start, line_end, start_of, line_length}
use Rattle.file_model.specs.Examples.{Examples, paper_file, loaded, turned_away}
use Rattle.file_model.specs.Load.{Outcome, None, accepted, begins_with_f, after_open, after_financing, after_line, load_from, load_of, part_start, part_end}
use Rattle.file_model.specs.Order.{Later, order_of, order_in}
use Rattle.file_model.proofs.LoadFaults.{more-refused, empty-refused}

-- Example 8's calls, each accepted

abbrev begun : Book
begun = own_book 100 []

abbrev assigned : Book
assigned = book_after (book_after begun (Advance 20140111)) (Transfer 1 2 500000)

first_advance_accepted : number_of begun (Advance 20140111) ≡ 0
unfolding run opened is_financing new_book empty_book opening advanced advanced_to day_count days_of_years last_day
first_advance_accepted = refl

transfer-accepted : number_of (book_after begun (Advance 20140111)) (Transfer 1 2 500000) ≡ 0
unfolding run opened is_financing new_book empty_book opening advanced advanced_to day_count days_of_years last_day
    days_passed day_passed with_held with_account with_today transferred moved
transfer-accepted = refl

last_advance_accepted : number_of assigned (Advance 20140131) ≡ 0
unfolding run opened is_financing new_book empty_book opening advanced advanced_to day_count days_of_years last_day
    days_passed day_passed with_held with_account with_today transferred moved
last_advance_accepted = refl

-- no more than is outstanding, whatever interest is due
repaid : (b : Book) (cents : ℕ) → b.opened ≡ true → b.settled ≡ 0 → last_settled b < b.today.0 → b.account.outstanding.0 ≡ cents
    → cents ≤ 100000000000 → number_of b (Settle cents) ≡ 0
repaid b cents o s d e h =
    sym (ap (λ (r : outcome.Outcome Taken). r.answer.number) (settle-accepted b (record { 0 = cents }) o h (omega arith) d (omega arith)))

settlement_accepted : number_of (book_after assigned (Advance 20140131)) (Settle 100) ≡ 0
unfolding run opened is_financing new_book empty_book opening advanced advanced_to day_count days_of_years last_day
    days_passed day_passed with_held with_account with_today transferred moved accrued_day
settlement_accepted = repaid (book_after assigned (Advance 20140131)) 100 refl refl (omega arith) refl (omega arith)

-- The paper's file, line by line

-- a line whose call is accepted
called : (before b : Book) (n : ℕ) (l : List ℕ) (ls : List (List ℕ)) (k : Call) → begins_with_f l ≡ false → order_in l ≡ Later k → number_of b k ≡ 0
    → load_from before b None n (l ∷ ls) ≡ load_from before (book_after b k) None (n + 1) ls
unfolding load_from after_open after_line
called before b n l ls k f o e = rw (f, o, e)

-- O and F, with a line behind them that lets Open run
opened-first : (l : List ℕ) (ls : List (List ℕ)) → begins_with_f l ≡ false
    → load_from empty_book empty_book None 0 (opening_line ∷ financing_line ∷ l ∷ ls) ≡ load_from empty_book begun None 2 (l ∷ ls)
unfolding load_from after_open after_financing after_line order_of order_in field_at uses_of assembled_of columns_of line_of opened is_financing empty_book run
opened-first l ls f = rw f

six_lines : (ls : List (List ℕ))
    → load_from empty_book empty_book None 0
    (opening_line ∷ financing_line ∷ advance_line ∷ transfer_line ∷ later_advance_line ∷ settlement_line ∷ ls)
    ≡ load_from empty_book file_book None 6 ls
unfolding order_of order_in field_at uses_of assembled_of columns_of line_of run
six_lines ls =
    opened-first advance_line _ refl
    ∙ called empty_book begun 2 advance_line _ (Advance 20140111) refl refl first_advance_accepted
    ∙ called empty_book _ 3 transfer_line _ (Transfer 1 2 500000) refl refl transfer-accepted
    ∙ called empty_book _ 4 later_advance_line _ (Advance 20140131) refl refl last_advance_accepted
    ∙ called empty_book _ 5 settlement_line _ (Settle 100) refl refl settlement_accepted

paper_loaded : loaded paper_file ≡ accepted 6 file_book
unfolding load_of lines load_from after_open after_line order_of order_in field_at uses_of assembled_of columns_of line_of
paper_loaded = six_lines (end_line ∷ [])

-- cut before its E line's line feed, and before its E line
line_feed_missing : loaded (take 300 paper_file) ≡ turned_away 7 21
unfolding load_of lines load_from after_open after_line order_of order_in field_at uses_of assembled_of columns_of line_of
line_feed_missing = six_lines (take 42 end_line ∷ [])

end_missing : loaded (take 258 paper_file) ≡ turned_away 7 22
unfolding load_of lines load_from after_open
end_missing = six_lines []

bytes_after_end : loaded (paper_file ++ codes "\n") ≡ turned_away 8 22
bytes_after_end =
    more-refused empty_book paper_file (codes "\n") (ap (λ (r : Outcome). r.number) paper_loaded) (omega arith)
    ∙ ap (λ (r : Outcome). turned_away (r.count + 2) 22) paper_loaded

pub examples : Examples
unfolding after_open after_financing after_line load_from load_of line_bytes bytes_under field_bytes justified padded order_of order_in field_at uses_of assembled_of columns_of line_of lines
    opened is_financing empty_book rated advanced advanced_to new_book day_count days_of_years last_day days_passed day_passed
    with_held with_account with_today part_start part_end line_start line_end start_of line_length
examples =
    record {
      paper_accepted = ap (λ (r : Outcome). r.number) paper_loaded;
      paper_count = ap (λ (r : Outcome). r.count) paper_loaded;
      paper_totals = ap (λ (r : Outcome). totals_of r.book) paper_loaded ∙ conservation-examples.example_8_statement.0;
      paper_positions = ap (λ (r : Outcome). held r.book) paper_loaded ∙ conservation-examples.example_8_statement.1;
      empty-file = empty-refused empty_book;
      line_feed_missing = line_feed_missing;
      end_missing = end_missing;
      bytes_after_end = bytes_after_end;
      wrong_count = refl;
      count_too_great = refl;
      count_too_small = refl;
      sixty_four_accepted = refl;
      sixty_fifth_refused = refl;
      sixty_fifth_malformed = refl;
      each_opening_counted = refl;
      financing-first = refl;
      financing_late = refl;
      opening_before_next_line = refl;
      opening_at_end = refl;
      financing_before_opening = refl;
      unopened = refl;
      already_open = refl;
      opening_before_count = refl;
      call_behind_opening = refl;
      malformed_behind_call = refl;
      second_part = (refl, refl);
      paper_part = (refl, refl);
      opening-ordered = refl;
      financing-ordered = refl;
      advance-ordered = refl;
      rate-ordered = refl;
      transfer-ordered = refl;
      settlement-ordered = refl;
      end-ordered = refl;
    }
