-- The calls with their arguments: an opening, and the calls after it.
use Rattle.std.specs.Prelude.{ℕ, List}

pub record Opening : Type 0 where
  pub first : ℕ
  pub term : ℕ
  pub annual : ℕ
  pub cents : ℕ
  pub holders : List ℕ
  pub shares : List ℕ

pub data Call : Type 0 where
  Advance : (date : ℕ) → Call
  Rate : (date annual : ℕ) → Call
  Transfer : (cedent assignee parts : ℕ) → Call
  Settle : (cents : ℕ) → Call
