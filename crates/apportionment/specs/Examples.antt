-- The checked examples 6 and 7 of document 01, the split of example 8, and what is just divided or just not.
use Rattle.std.specs.Prelude.{◌≡◌, true, [], ◌∷◌, replicate, Err, is_ok}
use Rattle.general_laws.specs.Sums.{list_below}
use Rattle.apportionment.specs.Apportionment.{part, apportioned}
use Rattle.apportionment.specs.declared.Undivided.TheVariants.{Count, Amount, Weight}

pub record Examples : Type 0 where
  -- "Shares 350,100, 60,800, 441,600, 10,000, 137,500, one day, M = 100: 35, 6, 44, 1, 14."
  pub five_holders : list_below 5 (part 100 (350100 ∷ 60800 ∷ 441600 ∷ 10000 ∷ 137500 ∷ [])) ≡ 35 ∷ 6 ∷ 44 ∷ 1 ∷ 14 ∷ []
  -- "Equal halves, M = 1: 1, 0."
  pub equal_halves : list_below 2 (part 1 (500000 ∷ 500000 ∷ [])) ≡ 1 ∷ 0 ∷ []
  -- more than one cent left over: "one each to the greatest remainders, earlier position first among equals"
  pub three_left_over : list_below 4 (part 3 (1 ∷ 2 ∷ 2 ∷ 2 ∷ [])) ≡ 0 ∷ 1 ∷ 1 ∷ 1 ∷ []
  pub ties_of_four : list_below 4 (part 2 (250000 ∷ 250000 ∷ 250000 ∷ 250000 ∷ [])) ≡ 1 ∷ 1 ∷ 0 ∷ 0 ∷ []
  pub two_greatest : list_below 4 (part 7 (4 ∷ 5 ∷ 6 ∷ 5 ∷ [])) ≡ 1 ∷ 2 ∷ 2 ∷ 2 ∷ []
  -- "The split 67, 33": a half transferred after 10 of 30 days, M = 100
  pub statement : list_below 2 (part 100 (20000000 ∷ 10000000 ∷ [])) ≡ 67 ∷ 33 ∷ []
  -- 1 to 64 positions, an amount of at most 10^11, and 1 to 92 days of a whole right, in this order
  pub no_position : apportioned 100000000001 [] ≡ Err Count
  pub positions_64 : is_ok (apportioned 1 (replicate 64 1)) ≡ true
  pub positions_65 : apportioned 100000000001 (replicate 65 0) ≡ Err Count
  pub greatest_amount : is_ok (apportioned 100000000000 (92000000 ∷ [])) ≡ true
  pub amount_over : apportioned 100000000001 (0 ∷ []) ≡ Err Amount
  pub weight_none : apportioned 0 (0 ∷ []) ≡ Err Weight
  pub weight_over : apportioned 0 (92000000 ∷ 1 ∷ []) ≡ Err Weight
