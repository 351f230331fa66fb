-- An opening with more holders and shares behind its own.
use Rattle.std.proofs.Common.{ℕ, ◌≡◌, List, [], ◌∷◌, ◌++◌, append-nil, append_assoc}
use Rattle.book_model.specs.Call.{Opening}
use Rattle.file_model.specs.Load.{opening_with, with_holder}

abbrev pub with_holders : Opening → (holders shares : List ℕ) → Opening
with_holders o hs ss = opening_with o.first o.term o.annual o.cents (o.holders ++ hs) (o.shares ++ ss)

pub with_no_holder : (o : Opening) → with_holders o [] [] ≡ o
with_no_holder o = rw (append-nil o.holders, append-nil o.shares)

pub with_holder_first : (o : Opening) (h s : ℕ) (hs ss : List ℕ) → with_holders (with_holder o h s) hs ss ≡ with_holders o (h ∷ hs) (s ∷ ss)
with_holder_first o h s hs ss = rw (append_assoc o.holders (h ∷ []) hs, append_assoc o.shares (s ∷ []) ss)
