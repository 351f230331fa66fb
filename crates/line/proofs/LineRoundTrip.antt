-- A written line reads back as its fields, and a well-formed line's fields are written as the same bytes.
use Rattle.std.proofs.Common.{◌≡◌, refl, sym, ap, ◌∙◌, subst, Bool, true, false, cond, ◌&&◌, List, [], ◌∷◌, ◌++◌, ℕ, ◌+◌, ◌^◌, ◌≤◌, ◌<◌, arith, leb, eqb, length, get_or, take, drop, drop_of_length-le, take_at, get_or-drop, drop-cons, ltb-true, le-leb, eqb-true}
use Rattle.std.proofs.lemmas.Bool.{false≢true}
use Rattle.std.proofs.lemmas.Bool.Decides.{nat_tests}
use Rattle.general_laws.proofs.Choice.{FourTrue, four_true}
use Rattle.general_laws.proofs.Parts.{part_followed, part-passed}
use Rattle.line.specs.declared.Fields.{Fields}
use Rattle.std.specs.Prelude.{Option, Some, None}
use Rattle.line.specs.declared.line.Uses.{Uses}
use Rattle.line.specs.Field.{Field, blank, field_at}
use Rattle.line.proofs.FieldBounds.{Below}
use Rattle.line.specs.Line.{malformed_number, no_fields, uses_of, proper, number_of, formed, fields_from, assembled_of, columns_of, line_of}
use Rattle.line.specs.Write.{fits, fits_all, writable, field_bytes, bytes_under, line_bytes, written_of}
use Rattle.line.specs.RoundTrip.{RoundTrip}
use Rattle.line.proofs.FieldBounds.{field_below}
use Rattle.line.proofs.FieldRoundTrip.{columns, field_columns, number-reads, blank_reads, number_same, blank_same}
use Rattle.line.proofs.LineStores.{length_field, length-bytes, length-line}

-- Written, then read

-- a field's bytes read back
bytes_read : (u : Bool) (w n : ℕ) → 0 < w → fits u (10 ^ w) n ≡ true
    → (proper u (columns blank (field_bytes u w n)) ≡ true) × (number_of (columns blank (field_bytes u w n)) ≡ n)
unfolding field_bytes
bytes_read true w n pos h =
    let e = number-reads w n pos (ltb-true n (10 ^ w) h) in
    (rw e, rw e)
bytes_read false w n pos h =
    let e = blank_reads w in
    (rw e, rw e (sym (eqb-true n 0 h)))

-- a field whose bytes stand at `at`
field_there : (s ys : List ℕ) (at : ℕ) (u : Bool) (w n : ℕ) → at + w ≤ length s → drop at s ≡ field_bytes u w n ++ ys
    → field_at s at w ≡ columns blank (field_bytes u w n)
field_there s ys at u w n le e =
    field_columns s at w le
    ∙ ap (λ (l : List ℕ). columns blank (take w l)) e
    ∙ ap (columns blank) (take_at (field_bytes u w n) ys w (length_field u w n))

module _ (u : Uses) (f : Fields) (h : fits_all (Some u) f ≡ true) where
  abbrev date_bytes : List ℕ
  date_bytes = field_bytes u.date 8 f.date

  abbrev first_bytes : List ℕ
  first_bytes = field_bytes u.first 9 f.first

  abbrev second_bytes : List ℕ
  second_bytes = field_bytes u.second 9 f.second

  abbrev third_bytes : List ℕ
  third_bytes = field_bytes u.third 15 f.third

  abbrev from_third : List ℕ
  from_third = third_bytes ++ (10 ∷ [])

  abbrev from_second : List ℕ
  from_second = second_bytes ++ from_third

  abbrev from_first : List ℕ
  from_first = first_bytes ++ from_second

  abbrev bytes : List ℕ
  bytes = f.letter ∷ (date_bytes ++ from_first)

  date-long : length date_bytes ≡ 8
  date-long = length_field u.date 8 f.date

  first-long : length first_bytes ≡ 9
  first-long = length_field u.first 9 f.first

  second_long : length second_bytes ≡ 9
  second_long = length_field u.second 9 f.second

  third_long : length third_bytes ≡ 15
  third_long = length_field u.third 15 f.third

  long : length bytes ≡ 43
  unfolding bytes_under
  long = length-bytes u f

  at_first : drop 9 bytes ≡ from_first
  at_first = part-passed date_bytes from_first 8 0 date-long

  at_second : drop 18 bytes ≡ from_second
  at_second = part-passed date_bytes from_first 8 9 date-long ∙ part-passed first_bytes from_second 9 0 first-long

  at_third : drop 27 bytes ≡ from_third
  at_third = part-passed date_bytes from_first 8 18 date-long ∙ part-passed first_bytes from_second 9 9 first-long ∙ part-passed second_bytes from_third 9 0 second_long

  at-feed : drop 42 bytes ≡ 10 ∷ []
  at-feed =
      part-passed date_bytes from_first 8 33 date-long
      ∙ part-passed first_bytes from_second 9 24 first-long
      ∙ part-passed second_bytes from_third 9 15 second_long
      ∙ part-passed third_bytes (10 ∷ []) 15 0 third_long

  feed : get_or bytes 42 0 ≡ 10
  feed = sym (get_or-drop 42 bytes 0 0) ∙ ap (λ (l : List ℕ). get_or l 0 0) at-feed

  assembled_back : assembled_of f.letter (Some u) (field_at bytes 1 8) (field_at bytes 9 9) (field_at bytes 18 9) (field_at bytes 27 15) ≡ (0, f)
  unfolding fits_all assembled_of
  assembled_back =
      let g : FourTrue (fits u.date (10 ^ 8) f.date) (fits u.first (10 ^ 9) f.first) (fits u.second (10 ^ 9) f.second) (fits u.third (10 ^ 15) f.third) =
      four_true _ _ _ _ h in
      let date = bytes_read u.date 8 f.date (omega arith) g.0 in
      let first = bytes_read u.first 9 f.first (omega arith) g.1 in
      let second = bytes_read u.second 9 f.second (omega arith) g.2 in
      let third = bytes_read u.third 15 f.third (omega arith) g.3 in
      simp (
        field_there bytes from_first 1 u.date 8 f.date (omega (arith, long)) refl,
        field_there bytes from_second 9 u.first 9 f.first (omega (arith, long)) at_first,
        field_there bytes from_third 18 u.second 9 f.second (omega (arith, long)) at_second,
        field_there bytes (10 ∷ []) 27 u.third 15 f.third (omega (arith, long)) at_third,
        date.0,
        date.1,
        first.0,
        first.1,
        second.0,
        second.1,
        third.0,
        third.1,
      )

pub line_reads : (f : Fields) → writable f ≡ true → line_of (line_bytes f) ≡ (0, f)
unfolding writable fits_all line_bytes bytes_under columns_of line_of
line_reads f h = grind (arith, nat_tests, long, feed, assembled_back)

-- Read, then written

-- the columns of a proper field are those that are written for its number, and the number fits
field_written : (s : List ℕ) (at : ℕ) (u : Bool) (w : ℕ) → at + w ≤ length s → proper u (field_at s at w) ≡ true
    → take w (drop at s) ≡ field_bytes u w (number_of (field_at s at w))
unfolding field_bytes
field_written s at u w le h = grind (arith, nat_tests, number_same, blank_same)

proper-fits : (u : Bool) (x : Field) (k : ℕ) → Below x k → proper u x ≡ true → fits u k (number_of x) ≡ true
proper-fits u x k b h = grind (arith, nat_tests)

module _ (s : List ℕ) where
  abbrev letter : ℕ
  letter = get_or s 0 0

  abbrev date_field : Field
  date_field = field_at s 1 8

  abbrev first_field : Field
  first_field = field_at s 9 9

  abbrev second_field : Field
  second_field = field_at s 18 9

  abbrev third_field : Field
  third_field = field_at s 27 15

  abbrev read : Fields
  read = fields_from letter date_field first_field second_field third_field

  -- the fields are proper under a known letter that uses u
  abbrev Proper : Uses → Type 0
  Proper u =
      FourTrue
      (proper u.date date_field)
      (proper u.first first_field)
      (proper u.second second_field)
      (proper u.third third_field)

  fields_fit : (u : Uses) → Proper u → fits_all (Some u) read ≡ true
  unfolding fits_all
  fields_fit u g =
      simp (
        proper-fits u.date date_field (10 ^ 8) (field_below s 1 8) g.0,
        proper-fits u.first first_field (10 ^ 9) (field_below s 9 9) g.1,
        proper-fits u.second second_field (10 ^ 9) (field_below s 18 9) g.2,
        proper-fits u.third third_field (10 ^ 15) (field_below s 27 15) g.3,
      )

  module _ (long : length s ≡ 43) (feed : get_or s 42 0 ≡ 10) (u : Uses) (g : Proper u) where
    from-feed : drop 42 s ≡ 10 ∷ []
    from-feed =
        drop-cons s 42 0 (omega (arith, long))
        ∙ ap (λ (c : ℕ). c ∷ drop 43 s) feed
        ∙ ap (λ (l : List ℕ). 10 ∷ l) (drop_of_length-le s {i = 43} (omega (arith, long)))

    reads_third : drop 27 s ≡ field_bytes u.third 15 (number_of third_field) ++ (10 ∷ [])
    reads_third =
        part_followed s _ 27 15 42 refl (field_written s 27 u.third 15 (omega (arith, long)) g.3)
        ∙ ap (λ (l : List ℕ). field_bytes u.third 15 (number_of third_field) ++ l) from-feed

    reads_second : drop 18 s ≡ field_bytes u.second 9 (number_of second_field) ++ (field_bytes u.third 15 (number_of third_field) ++ (10 ∷ []))
    reads_second =
        part_followed s _ 18 9 27 refl (field_written s 18 u.second 9 (omega (arith, long)) g.2)
        ∙ ap (λ (l : List ℕ). field_bytes u.second 9 (number_of second_field) ++ l) reads_third

    bytes_same : s ≡ bytes_under u read
    unfolding bytes_under
    bytes_same =
        drop-cons s 0 0 (omega (arith, long))
        ∙ ap (λ (l : List ℕ). letter ∷ l)
        (part_followed s _ 1 8 9 refl (field_written s 1 u.date 8 (omega (arith, long)) g.0)
        ∙ ap (λ (l : List ℕ). field_bytes u.date 8 (number_of date_field) ++ l)
        (part_followed s _ 9 9 18 refl (field_written s 9 u.first 9 (omega (arith, long)) g.1)
        ∙ ap (λ (l : List ℕ). field_bytes u.first 9 (number_of first_field) ++ l) reads_second))

-- the fields fit a line, which has the bytes s
abbrev pub WrittenAs : List ℕ → Fields → Type 0
WrittenAs s f = (writable f ≡ true) × (line_bytes f ≡ s)

refused : {A : Type 0} (f : Fields) → ◌≡◌ {A = ℕ × Fields} (malformed_number, no_fields) (0, f) → A
refused f h =
    let z : ◌≡◌ {A = ℕ} 21 0 = ap (λ (r : ℕ × Fields). r.0) h in
    absurd (omega arith)

pub line_written : (s : List ℕ) (f : Fields) → line_of s ≡ (0, f) → WrittenAs s f
unfolding line_of columns_of assembled_of writable fits_all line_bytes
line_written s f h =
    go (eqb (length s) 43) (eqb (get_or s 42 0) 10) (uses_of (get_or s 0 0)) (formed_under (uses_of (get_or s 0 0))) refl refl refl refl h
  where
    formed_under : Option Uses → Bool
    formed_under o = formed o (field_at s 1 8) (field_at s 9 9) (field_at s 18 9) (field_at s 27 15)

    none : ℕ × Fields
    none = (malformed_number, no_fields)

    go : (p q : Bool) (o : Option Uses) (k : Bool) → eqb (length s) 43 ≡ p → eqb (get_or s 42 0) 10 ≡ q → uses_of (get_or s 0 0) ≡ o
        → formed_under o ≡ k
        → cond (p && q) (cond k (0, read s) none) none ≡ (0, f)
        → WrittenAs s f
    go true true (Some u) true a b c d e =
        let g : Proper s u = four_true _ _ _ _ d in
        subst
        (WrittenAs s)
        (ap (λ (r : ℕ × Fields). r.1) e)
        (rw c (fields_fit s u g), rw c (sym (bytes_same s (eqb-true _ _ a) (eqb-true _ _ b) u g)))
    go true true None true a b c d e = absurd (false≢true d)
    go true true o false a b c d e = refused f e
    go true false o k a b c d e = refused f e
    go false q o k a b c d e = refused f e

-- The theorems

reads_back : (f : Fields) (buffer : List ℕ) → (written_of f buffer).0 ≡ 0 → line_of (take 43 (written_of f buffer).1) ≡ (0, f)
unfolding written_of
reads_back f buffer h = go (leb 43 (length buffer)) (writable f) refl h
  where
    outcome : Bool → ℕ × List ℕ
    outcome t = cond t (0, line_bytes f ++ drop 43 buffer) (malformed_number, buffer)

    go : (p q : Bool) → writable f ≡ q → (outcome (p && q)).0 ≡ 0 → line_of (take 43 (outcome (p && q)).1) ≡ (0, f)
    go true true e z = rw (take_at (line_bytes f) (drop 43 buffer) 43 (length-line f)) (line_reads f e)
    go true false e z = absurd (omega arith)
    go false q e z = absurd (omega arith)

same_bytes : (s : List ℕ) (f : Fields) (buffer : List ℕ) → line_of s ≡ (0, f) → 43 ≤ length buffer → written_of f buffer ≡ (0, s ++ drop 43 buffer)
unfolding written_of
same_bytes s f buffer h enough =
    let g = line_written s f h in
    simp (le-leb 43 (length buffer) enough, g.0, g.1)

pub round_trip : RoundTrip
round_trip = record { written_reads_back = reads_back; read_is_written = same_bytes }
