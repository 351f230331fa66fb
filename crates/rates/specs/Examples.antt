-- The checked examples 1 to 4 of document 01, two of them as document 02, Req 02, changes them.
use Rattle.std.specs.Prelude.{◌≡◌}
use Rattle.rates.specs.Rate.{rate_of}

pub record Examples : Type 0 where
  -- "the examples for 1 and 4,000 become 274 and 1,074,598; those for 0 and 2,000 keep their values": "i = 0, d = 0." "i = 2,000, d = 542,552."
  pub rate_0 : rate_of 0 ≡ (0, 0)
  pub rate_1 : rate_of 1 ≡ (0, 274)
  pub rate_2000 : rate_of 2000 ≡ (0, 542552)
  pub rate_4000 : rate_of 4000 ≡ (0, 1074598)
  -- "4,001 is refused.", with 6 by the table
  pub rate_4001 : rate_of 4001 ≡ (6, 0)
