-- The entry that is read is the daily rate, since every entry is.
use Rattle.std.proofs.Common.{rules, arith, sym, ◌∙◌, ap, ℕ}
use Rattle.rates.proofs.DailyRates.{daily_rates}
use Rattle.rates.proofs.Entries.{entry}
use Rattle.rates.proofs.Answers.{accepted}
use Rattle.rates.proofs.daily_rate.Goals as goal

pub returns : goal.returns
unfolding daily_rates
returns c =
    let i = c.args.annual in
    ap (λ (d : ℕ). (0, d)) (c.from.ensures ∙ entry i (search rules)) ∙ sym (accepted i (omega arith))
