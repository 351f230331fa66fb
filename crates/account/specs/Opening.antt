-- An account as it opens, and the settlement and the rate order that stand for none.
use Rattle.std.specs.Prelude.{ℕ}
use Rattle.account.specs.declared.Account.{Account}
use Rattle.account.specs.declared.RateOrder.{RateOrder}
use Rattle.account.specs.declared.Settlement.{Settlement}

-- an account of so many cents outstanding, everything else 0
unfoldable pub opening : ℕ → Account
opening cents =
    record {
      outstanding = record { 0 = cents };
      due = record { 0 = 0 };
      fraction = 0;
      principal_paid = record { 0 = 0 };
      interest_paid = record { 0 = 0 };
    }

-- no settlement
abbrev pub no_settlement : Settlement
no_settlement = record { day = record { 0 = 0 }; cents = record { 0 = 0 } }

-- no rate
abbrev pub no_order : RateOrder
no_order = record { first = record { 0 = 0 }; annual = 0; daily = 0 }
