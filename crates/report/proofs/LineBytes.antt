-- The stores that make a statement's lines.
use Rattle.std.proofs.Common.{◌≡◌, refl, sym, ap, ◌∙◌, List, ℕ, ◌+◌, ◌≤◌, arith, length, set, length-set}
use Rattle.std.proofs.Math.Seq.{length-sets}
use Rattle.std.proofs.lemmas.List.Edits.{sets}
use borrow.Rule.Slice.PartMut.{put_mid}
use Rattle.account.specs.declared.Account.{Account}
use Rattle.book_model.specs.declared.Position.{Position}
use Rattle.line.specs.Field.{justified}
use Rattle.general_laws.proofs.Stores.{sets_append_at}
use Rattle.line.proofs.Callers.{length-justified, part_stored}
use Rattle.report.specs.Statement.{totals_line, position_line, refusal_line}

-- A number written as a part of a buffer, and a run behind it

module _ (b x ys : List ℕ) (at w n : ℕ) where
  number_stored : x ≡ b → at + w ≤ length b → ys ≡ justified w n → put_mid at w x ys ≡ sets b at (justified w n)
  number_stored same h e = rw (same, e) (part_stored b (justified w n) at w (length-justified w n) h)

-- The stores of a line, one after the other

pub refusal_stored : (b x y : List ℕ) (number line : ℕ) → 14 ≤ length b → x ≡ justified 3 number → y ≡ justified 9 line
    → sets b 0 (refusal_line number line) ≡ set (put_mid 4 9 (put_mid 1 3 (set b 0 88) x) y) 13 10
unfolding refusal_line
refusal_stored b x y number line h e f =
    let i = number_stored _ _ x 1 3 number refl (simp length-set (omega arith)) e in
    let j = number_stored _ _ y 4 9 line i (simp (length-sets, length-set) (omega arith)) f in
    sets_append_at (justified 3 number) _ _ 1 3 (length-justified 3 number)
    ∙ sets_append_at (justified 9 line) _ _ 4 9 (length-justified 9 line)
    ∙ sym (ap (λ (l : List ℕ). set l 13 10) j)

pub position_stored : (b x y z u : List ℕ) (p : Position) → 47 ≤ length b
    → x ≡ justified 9 p.holder → y ≡ justified 9 p.share.0 → z ≡ justified 12 p.unit_days → u ≡ justified 15 p.received.0
    → sets b 0 (position_line p) ≡ set (put_mid 31 15 (put_mid 19 12 (put_mid 10 9 (put_mid 1 9 (set b 0 72) x) y) z) u) 46 10
unfolding position_line
position_stored b x y z u p h e f g i =
    let j = number_stored _ _ x 1 9 p.holder refl (simp length-set (omega arith)) e in
    let k = number_stored _ _ y 10 9 p.share.0 j (simp (length-sets, length-set) (omega arith)) f in
    let l = number_stored _ _ z 19 12 p.unit_days k (simp (length-sets, length-set) (omega arith)) g in
    let m = number_stored _ _ u 31 15 p.received.0 l (simp (length-sets, length-set) (omega arith)) i in
    sets_append_at (justified 9 p.holder) _ _ 1 9 (length-justified 9 p.holder)
    ∙ sets_append_at (justified 9 p.share.0) _ _ 10 9 (length-justified 9 p.share.0)
    ∙ sets_append_at (justified 12 p.unit_days) _ _ 19 12 (length-justified 12 p.unit_days)
    ∙ sets_append_at (justified 15 p.received.0) _ _ 31 15 (length-justified 15 p.received.0)
    ∙ sym (ap (λ (l : List ℕ). set l 46 10) m)

pub totals_stored : (b x y z u v w : List ℕ) (today : ℕ) (a : Account) → 81 ≤ length b
    → x ≡ justified 8 today → y ≡ justified 15 a.outstanding.0 → z ≡ justified 15 a.due.0
    → u ≡ justified 11 a.fraction → v ≡ justified 15 a.principal_paid.0 → w ≡ justified 15 a.interest_paid.0
    → sets b 0 (totals_line today a)
    ≡ set
    (put_mid 65 15 (put_mid 50 15 (put_mid 39 11 (put_mid 24 15 (put_mid 9 15 (put_mid 1 8 (set b 0 66) x) y) z) u) v) w)
    80
    10
unfolding totals_line
totals_stored b x y z u v w today a h e f g i j k =
    let l = number_stored _ _ x 1 8 today refl (simp length-set (omega arith)) e in
    let m = number_stored _ _ y 9 15 a.outstanding.0 l (simp (length-sets, length-set) (omega arith)) f in
    let n = number_stored _ _ z 24 15 a.due.0 m (simp (length-sets, length-set) (omega arith)) g in
    let o = number_stored _ _ u 39 11 a.fraction n (simp (length-sets, length-set) (omega arith)) i in
    let p = number_stored _ _ v 50 15 a.principal_paid.0 o (simp (length-sets, length-set) (omega arith)) j in
    let q = number_stored _ _ w 65 15 a.interest_paid.0 p (simp (length-sets, length-set) (omega arith)) k in
    sets_append_at (justified 8 today) _ _ 1 8 (length-justified 8 today)
    ∙ sets_append_at (justified 15 a.outstanding.0) _ _ 9 15 (length-justified 15 a.outstanding.0)
    ∙ sets_append_at (justified 15 a.due.0) _ _ 24 15 (length-justified 15 a.due.0)
    ∙ sets_append_at (justified 11 a.fraction) _ _ 39 11 (length-justified 11 a.fraction)
    ∙ sets_append_at (justified 15 a.principal_paid.0) _ _ 50 15 (length-justified 15 a.principal_paid.0)
    ∙ sets_append_at (justified 15 a.interest_paid.0) _ _ 65 15 (length-justified 15 a.interest_paid.0)
    ∙ sym (ap (λ (l : List ℕ). set l 80 10) q)
