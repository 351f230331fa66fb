-- The buffer's length is a lemma's, since it is too long to be counted by computing.
use Rattle.std.proofs.Common.{ℕ, sym}
use Rattle.std.proofs.lemmas.List.{length-replicate}
use Rattle.file_vectors.proofs.main.Goals as goal

pub slice_bounds-read-end : goal.slice_bounds-read-end
slice_bounds-read-end c = sym (length-replicate {0} {A = ℕ} 524288 0)
