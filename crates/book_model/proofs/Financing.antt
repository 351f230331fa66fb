-- What an accepted financing tells of its holders and shares.
use Rattle.std.proofs.Common.{ℕ, ◌≤◌, ◌≡◌, true, List, length, leb-true, eqb-true}
use Rattle.std.specs.List.{list_all, sum}
use Rattle.general_laws.specs.Members.{distinct}
use Rattle.std.proofs.lemmas.Bool.{and_parts}
use Rattle.book_model.specs.Open.{is_share, is_financing}
use Rattle.book_model.specs.Positions.{is_holder}

pub record Financed (hs ss : List ℕ) : Type 0 where
  pub one_length : length hs ≡ length ss
  pub some : 1 ≤ length hs
  pub few : length hs ≤ 64
  pub holders-right : list_all is_holder hs ≡ true
  pub holders-distinct : distinct hs ≡ true
  pub shares-some : list_all is_share ss ≡ true
  pub shares_whole : sum ss ≡ 1000000

pub financed : (hs ss : List ℕ) → is_financing hs ss ≡ true → Financed hs ss
unfolding is_financing
financed hs ss e =
    let lengths = and_parts _ _ e in
    let least = and_parts _ _ lengths.1 in
    let most = and_parts _ _ least.1 in
    let right = and_parts _ _ most.1 in
    let distinct = and_parts _ _ right.1 in
    let shares = and_parts _ _ distinct.1 in
    record {
      one_length = eqb-true _ _ lengths.0;
      some = leb-true _ _ least.0;
      few = leb-true _ _ most.0;
      holders-right = right.0;
      holders-distinct = distinct.0;
      shares-some = shares.0;
      shares_whole = eqb-true _ _ shares.1;
    }
