-- What callers cite: no refusal has the number 0, and what the crate's other files show.
use Rattle.std.proofs.Common.{◌≡◌, refl, false, eqb, ne_eqb}
use Rattle.book_model.proofs.Callers.{no_refusal_is_0}
use Rattle.file_model.specs.declared.LoadRefusal.{LoadRefusal}
use Rattle.file_model.specs.declared.LoadRefusal.TheVariants as refusal
use Rattle.file_model.specs.Load.{refusal_number}
pub use Rattle.file_model.proofs.LineOrders.{order-read, order-malformed, letter-first}
pub use Rattle.file_model.proofs.LoadRuns.{reached-kept}
pub use Rattle.file_model.proofs.LoadFaults.{end_alone}
pub use Rattle.file_model.proofs.LoadParts.{part_within}
pub use Rattle.file_model.proofs.Examples.{examples}

pub refusal_not_zero : (r : LoadRefusal) → eqb (refusal_number r) 0 ≡ false
refusal_not_zero refusal.Empty = refl
refusal_not_zero refusal.Line = refl
refusal_not_zero refusal.Unfinished = refl
refusal_not_zero (refusal.Call r) = ne_eqb _ 0 (no_refusal_is_0 r)
