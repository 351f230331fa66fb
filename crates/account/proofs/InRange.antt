-- What callers whose numbers are in range learn of an answer of `standing`.
use Rattle.std.proofs.Common.{ℕ, arith, ◌≡◌, sym, ◌∙◌, true, false, List}
use Rattle.std.specs.Prelude.{Result, Ok, Err}
use Rattle.account.specs.declared.Account.{Account}
use Rattle.account.specs.declared.Settlement.{Settlement}
use Rattle.account.specs.declared.Unreckoned.{Unreckoned}
use Rattle.account.specs.Reckoning.{standing}
use Rattle.account.specs.Standing.{account_at, overpaid}

module _ (recognised : ℕ) (daily : ℕ → ℕ) (ss : List Settlement) (today : ℕ) (r : Result Account Unreckoned)
    (e : r ≡ standing recognised daily ss today) where
  pub stands : (x : Account) → r ≡ Ok x → (overpaid recognised daily ss ≡ false) × (x ≡ account_at recognised daily ss today)
  unfolding standing
  stands x q = (grind (arith, sym e ∙ q), grind (arith, sym e ∙ q))

  pub is-over : (u : Unreckoned) → r ≡ Err u → overpaid recognised daily ss ≡ true
  unfolding standing
  is-over u q = grind (arith, sym e ∙ q)
