-- A number put into a buffer, by whether its columns are there.
use Rattle.std.proofs.Common.{◌≡◌, refl, sym, ◌∙◌, Bool, true, false, cond, List, ℕ, ◌+◌, ◌≤◌, ◌<◌, arith, length, take, drop, length-drop, length-take-le, leb}
use borrow.Rule.Slice.PartMut.{put_mid}
use Rattle.std.proofs.Math.Seq.{length-sets}
use Rattle.std.proofs.lemmas.List.Edits.{sets}
use Rattle.std.proofs.lemmas.Bool.Decides.{nat_tests}
use Rattle.line.specs.Field.{justified}
use Rattle.line.specs.Write.{number_put}
use Rattle.line.proofs.NumberStores.{length-justified, part_stored}

module _ (b : List ℕ) (at w n : ℕ) where
  pub put_beyond : length b < at + w → number_put b at w n ≡ b
  unfolding number_put
  put_beyond h = grind (arith, nat_tests, h)

  pub put-within : at + w ≤ length b → number_put b at w n ≡ sets b at (justified w n)
  unfolding number_put
  put-within h = grind (arith, nat_tests, h)

  -- as a part of what held the buffer
  pub put_stored : (k : ℕ) (ys : List ℕ)
      → at + w ≤ length b → k ≡ w → ys ≡ justified (length (take k (drop at b))) n → put_mid at k b ys ≡ number_put b at w n
  put_stored k ys h e written =
      rw (written, e, columns) (part_stored b (justified w n) at w (length-justified w n) h ∙ sym (put-within h))
    where
      columns : length (take w (drop at b)) ≡ w
      columns = length-take-le w (drop at b) (omega (arith, length-drop at b))

  pub length-put : length (number_put b at w n) ≡ length b
  unfolding number_put
  length-put = either (leb (at + w) (length b))
    where
      either : (t : Bool) → length (cond t (sets b at (justified w n)) b) ≡ length b
      either true = length-sets b at (justified w n)
      either false = refl
