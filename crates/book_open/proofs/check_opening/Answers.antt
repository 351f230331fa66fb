-- A financing is refused, or the opening accepted, behind an annual rate that has a daily one.
use Rattle.std.proofs.Common.{rules}
use Rattle.rates.proofs.Callers.{daily_tells}
use Rattle.book_model.specs.Open.{opened}
use Rattle.book_open.proofs.check_opening.Goals as goal

pub returns-then-not-is_financing-clause-refused : goal.returns-then-not-is_financing-clause-refused
unfolding opened
returns-then-not-is_financing-clause-refused c = let rate = daily_tells c.args.opening.annual _ c.in_ok-daily.ensures in search rules

pub returns-clause-accepted : goal.returns-clause-accepted
unfolding opened
returns-clause-accepted c = let rate = daily_tells c.args.opening.annual _ c.in_ok-daily.ensures in search rules
