-- The checked examples 9 and 10 of document 01, and the edges of its number 3.
use Rattle.std.specs.Prelude.{◌≡◌, true, false, [], ◌∷◌, map, pos, neg_ℤ}
use Rattle.calendar.specs.Calendar.{is_date}
use Rattle.calendar.specs.Answers.{count_of, sum_of, between_of}

pub record Examples : Type 0 where
  -- "20140101 plus 5,479 days is 20290101"
  pub sum_of_fifteen_years : sum_of 20140101 5479 ≡ (0, 20290101)
  -- "20240229 is a date, 21000229 isn't"
  pub leap_day : is_date 20240229 ≡ true
  pub no_leap_day : is_date 21000229 ≡ false
  -- the day behind the last one of each month, from January to December
  pub month_ends :
      map (λ x. (sum_of x 1).1)
      (20140131 ∷ 20140228 ∷ 20140331 ∷ 20140430 ∷ 20140531 ∷ 20140630 ∷ 20140731 ∷ 20140831 ∷ 20140930 ∷ 20141031 ∷ 20141130 ∷ 20141231 ∷ [])
      ≡ 20140201 ∷ 20140301 ∷ 20140401 ∷ 20140501 ∷ 20140601 ∷ 20140701 ∷ 20140801 ∷ 20140901 ∷ 20141001 ∷ 20141101 ∷ 20141201 ∷ 20150101 ∷ []
  -- "from 20000101 to 21991231": the first and the last date, and what is just no date
  pub first-counted : count_of 20000101 ≡ (0, 0)
  pub before-first : count_of 19991231 ≡ (3, 0)
  pub last-counted : count_of 21991231 ≡ (0, 73048)
  pub behind-last : count_of 22000101 ≡ (3, 0)
  pub month-0 : count_of 20140031 ≡ (3, 0)
  pub month-13 : count_of 20141301 ≡ (3, 0)
  pub day-0 : count_of 20140100 ≡ (3, 0)
  pub day-32 : count_of 20140132 ≡ (3, 0)
  -- "A sum of date and days beyond the last one is refused with 3.", and one that begins at no date
  pub last_reached : sum_of 21991230 1 ≡ (0, 21991231)
  pub beyond_last : sum_of 21991230 2 ≡ (3, 0)
  pub from_no_date : sum_of 20230229 0 ≡ (3, 0)
  pub turned-days : between_of 20140102 20140101 ≡ (0, neg_ℤ (pos 1))
  pub between_no_dates : (between_of 20140101 20230229 ≡ (3, pos 0)) × (between_of 20230229 20140101 ≡ (3, pos 0))
