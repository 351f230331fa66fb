-- One line of a load, at a position of the file.
use Rattle.std.proofs.Common.{◌≡◌, refl, ap, ◌∙◌, true, false, List, [], ◌∷◌, ℕ, ◌+◌, ◌≤◌, ◌<◌, arith, eqb, length, get_or, drop, eq-eqb, ne_eqb}
use Rattle.std.proofs.lemmas.Bool.Decides.{nat_tests}
use Rattle.book_model.specs.declared.Book.{Book}
use Rattle.book_model.specs.Call.{Opening}
use Rattle.lines.specs.Lines.{lines, line_at, end_of}
use Rattle.lines.proofs.Callers.{lines_at, lines_end, first_byte, end-within}
use Rattle.file_model.specs.declared.LoadRefusal.TheVariants as refusal
use Rattle.file_model.specs.Order.{order_in}
use Rattle.file_model.specs.Load.{Waiting, None, Waits, refused, none_left, begins_with_f, financed, after_open, after_financing, after_line, load_from}

-- no line is left at the file's end, and only there
none_left_lem : (s : List ℕ) (at : ℕ) → at ≤ length s → none_left (lines (drop at s)) ≡ eqb at (length s)
none_left_lem s at within = grind (arith, nat_tests, lines_at s at, lines_end s at)

-- an opening that waits, at a line that doesn't begin with F
opens-first : (before b : Book) (waiting : Waiting) (n : ℕ) (l : List ℕ) (ls : List (List ℕ)) → begins_with_f l ≡ false
    → load_from before b waiting n (l ∷ ls) ≡ after_open before b waiting (λ opened. load_from before opened None n (l ∷ ls))
unfolding load_from after_open
opens-first before b waiting n l ls h = rw h

opens-last : (before b : Book) (waiting : Waiting) (n : ℕ)
    → load_from before b waiting n [] ≡ after_open before b waiting (λ opened. load_from before opened None n [])
unfolding load_from after_open
opens-last before b waiting n = refl

module _ (s : List ℕ) (at n : ℕ) (before b : Book) where
  -- the file's end
  pub load-end : length s ≤ at → load_from before b None n (lines (drop at s)) ≡ refused before (n + 1) refusal.Unfinished
  unfolding load_from after_open
  load-end h = rw (lines_end s at h)

  -- a line that doesn't begin with F
  pub load_line : at < length s → (get_or s at 0 ≡ 70 → ⊥)
      → load_from before b None n (lines (drop at s))
      ≡ after_line before b n (order_in (line_at s at)) (eqb (end_of s at) (length s))
      (λ after next. load_from before after next (n + 1) (lines (drop (end_of s at) s)))
  unfolding load_from after_open
  load_line h other =
      let first : begins_with_f (line_at s at) ≡ false = ap (λ (x : ℕ). eqb x 70) (first_byte s at h) ∙ ne_eqb _ _ other in
      rw (lines_at s at h, first, none_left_lem s (end_of s at) (end-within s at (omega arith)))

  -- one that does, where no opening waits
  pub load_unplaced : at < length s → get_or s at 0 ≡ 70 → load_from before b None n (lines (drop at s)) ≡ refused before (n + 1) refusal.Line
  unfolding load_from after_financing
  load_unplaced h is_f =
      let first : begins_with_f (line_at s at) ≡ true = ap (λ (x : ℕ). eqb x 70) (first_byte s at h) ∙ eq-eqb _ _ is_f in
      rw (lines_at s at h, first)

  -- and where one does
  pub load-financing : (opening : ℕ) (o : Opening) → at < length s → get_or s at 0 ≡ 70
      → load_from before b (Waits opening o) n (lines (drop at s))
      ≡ financed before (n + 1) opening o (order_in (line_at s at)) (λ next. load_from before b next (n + 1) (lines (drop (end_of s at) s)))
  unfolding load_from after_financing
  load-financing opening o h is_f =
      let first : begins_with_f (line_at s at) ≡ true = ap (λ (x : ℕ). eqb x 70) (first_byte s at h) ∙ eq-eqb _ _ is_f in
      rw (lines_at s at h, first)

  -- an opening that waits runs at the first line that doesn't begin with F, or at the file's end
  pub load-opens : (waiting : Waiting) → (at < length s → get_or s at 0 ≡ 70 → ⊥)
      → load_from before b waiting n (lines (drop at s)) ≡ after_open before b waiting (λ opened. load_from before opened None n (lines (drop at s)))
  unfolding load_from
  load-opens waiting other = grind (arith, nat_tests, lines_at s at, lines_end s at, first_byte s at, opens-first, opens-last)
