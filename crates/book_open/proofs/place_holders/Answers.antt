-- Each step fills one place more, and where the loop ends all are filled.
use Rattle.std.proofs.Common.{◌≡◌, ℕ, ◌<◌, List, arith, length, get_or}
use Rattle.std.specs.List.{zip, enumerate_from}
use Rattle.std.proofs.lemmas.Iterator.{YieldsList-from_slice, YieldsList-from_zip}
use Rattle.std.proofs.lemmas.Iterator.Consumers.{YieldsList-from_enumerate, YieldsList-turn, YieldsList-end}
use Rattle.std.proofs.lemmas.List.FromFn.{length-enumerate_from, get_or-enumerate_from}
use Rattle.std.proofs.lemmas.Slice.Zip.{length-zip, get_or-zip}
use Rattle.std.proofs.lemmas.Grind.{common_steps}
use Rattle.std.proofs.lemmas.List.{length_push}
use Rattle.general_laws.proofs.Fronts.{filled_step, filled-all}
use Rattle.book_model.specs.Book.{fresh}
use Rattle.book_model.specs.Open.{founded}
use Rattle.book_model.proofs.Callers.{length-founded, founded-at}
use Rattle.book_open.proofs.place_holders.Goals as goal

module _ (hs ss : List ℕ) (one_length : length hs ≡ length ss) where
  many : length (enumerate_from 0 (zip hs ss)) ≡ length hs
  many = omega (arith, length-enumerate_from 0 (zip hs ss), length-zip hs ss)

  here : (n i h s : ℕ) → n < length (enumerate_from 0 (zip hs ss)) → (i, (h, s)) ≡ get_or (enumerate_from 0 (zip hs ss)) n (i, (h, s))
      → (i ≡ n) × (fresh h s ≡ get_or (founded hs ss) n (fresh 0 0))
  here n i h s lt at =
      let below : n < length hs = omega (arith, many) in
      let place = get_or-enumerate_from 0 (zip hs ss) n (i, (h, s)) (omega (arith, length-zip hs ss)) in
      let pair = get_or-zip hs ss n (h, s) below (omega arith) in
      let founds = founded-at hs ss n below one_length in
      grind (arith, common_steps)

pub loop-i-preserved : goal.loop-i-preserved
loop-i-preserved c =
    let hs = c.args.holders.now in
    let ss = c.args.shares.now in
    let road = YieldsList-from_enumerate (YieldsList-from_zip (YieldsList-from_slice hs cc) (YieldsList-from_slice ss cc)) cc in
    let turn = YieldsList-turn road c.loop-i.yielded _ c.loop-i.yielded_by _ c.next.new.self _ c.in-Some.is c.next.ensures.steps in
    let at = here hs ss c.requires.one_length (length c.loop-i.yielded) _ _ _ turn.0 turn.1 in
    let many = many hs ss c.requires.one_length in
    rw (
      c.loop-i.invariant,
      c.fresh.ensures,
      c.from.ensures,
      at.0,
      length_push c.loop-i.yielded _,
      filled_step (founded hs ss) c.args.positions.now (length c.loop-i.yielded) (fresh 0 0) (omega arith) _ (omega (arith, length-founded hs ss c.requires.one_length)) at.1,
    )

pub returns : goal.returns
returns c =
    let hs = c.args.holders.now in
    let ss = c.args.shares.now in
    let road = YieldsList-from_enumerate (YieldsList-from_zip (YieldsList-from_slice hs cc) (YieldsList-from_slice ss cc)) cc in
    let done = YieldsList-end road c.loop-i.yielded _ c.loop-i.yielded_by _ c.next.new.self c.in-None.is c.next.ensures.steps in
    let as_many = length-founded hs ss c.requires.one_length in
    rw (c.loop-i.invariant, filled-all (founded hs ss) c.args.positions.now (length c.loop-i.yielded) (omega (arith, many hs ss c.requires.one_length, as_many)), as_many)
