-- The capped sum is the total where that is not above the cap.
use Rattle.std.proofs.Common.{◌≡◌, ◌+◌, ◌∙◌, min, rules}
use Rattle.std.specs.List.{fold}
use Rattle.general_laws.proofs.Totals.{fold_capped}
use Rattle.apportionment.specs.Apportionment.{total_weight}
use Rattle.apportionment.proofs.quotients.total_weight.Goals as goal

pub returns : goal.returns
unfolding total_weight
returns c =
    let e : c.fold.result ≡ fold (λ s w. min (s + w) 18446744073709551615) 0 c.args.weights.now = search rules in
    e ∙ fold_capped 18446744073709551615 c.args.weights.now
