-- What one read more does to a buffer's front.
use Rattle.std.proofs.Common.{◌≡◌, ℕ, ◌++◌, ◌+◌, ◌≤◌, Option, List, length, take, subst, sym, ap, ◌∙◌, length-take-le}
use Rattle.std.proofs.Math.Seq.{take-append-add}
use Rattle.std.proofs.lemmas.List.{take-append-le}
use borrow.Rule.Slice.PartMut.{put_mid, post_of}
use Rattle.std.specs.Io.KnownBytes.{Consumes}
use Rattle.std.proofs.KnownBytes.{Consumes-trans}

-- n bytes of those that were put behind the first a follow them
pub reads_on : (first then last : Option (List ℕ)) (a k n : ℕ) (xs ys : List ℕ) → a ≤ length xs → n ≤ length ys
    → Consumes first then (take a xs) → Consumes then last (take n ys) → Consumes first last (take (a + n) (put_mid a k xs ys))
reads_on first then last a k n xs ys within fits before read =
    let behind = ys ++ post_of a k xs in
    let e = subst (λ (m : ℕ). take (m + n) (take a xs ++ behind) ≡ take a xs ++ take n ys) (length-take-le a xs within)
    (take-append-add (take a xs) behind n ∙ ap (λ (l : List ℕ). take a xs ++ l) (take-append-le n ys (post_of a k xs) fits)) in
    subst (Consumes first last) (sym e) (Consumes-trans first then last _ _ before read)
