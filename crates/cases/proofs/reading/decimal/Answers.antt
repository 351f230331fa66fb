-- The fold cuts at each digit.
use Rattle.std.proofs.Common.{rules, ◌≡◌, ◌+◌, ◌-◌, ◌*◌, min, ◌∙◌}
use Rattle.std.specs.List.{fold}
use Rattle.cases.specs.Cases.{greatest}
use Rattle.cases.proofs.Steps.{cut}
use Rattle.cases.proofs.reading.decimal.Goals as goal

pub returns : goal.returns
returns c =
    let cut_at_each : c.fold.result ≡ fold (λ v b. min (min (v * 10) greatest + (b - 48)) greatest) 0 c.args.digits.now = search rules in
    cut_at_each ∙ cut 0 c.args.digits.now
