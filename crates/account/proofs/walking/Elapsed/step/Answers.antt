-- One order on, or the days up to the end.
use Rattle.std.proofs.Common.{arith, refl, sym, ◌∙◌}
use Rattle.account.proofs.Walks.{walk-next, walk_ends}
use Rattle.account.proofs.walking.Elapsed.step.Goals as goal

pub returns-else-not-is_next-clause-went : goal.returns-else-not-is_next-clause-went
returns-else-not-is_next-clause-went c =
    walk-next c.args.self _ _ c.in-Some.ensures.cases.0 (sym c.is_next.ensures ∙ c.if-not-is_next.false) _ refl refl refl c.account_on.ensures

pub returns-in_default-clause-went : goal.returns-in_default-clause-went
returns-in_default-clause-went c = walk_ends c.args.self _ refl refl (omega arith) c.account_on-in_default.ensures
