-- A share that doesn't fit 32 bits: as the greatest that does, it leads to the same load.
use Rattle.std.proofs.Common.{ℕ, ◌+◌, ◌≤◌, arith, ◌≡◌, refl, ap, ap₂, cond, List, [], ◌∷◌, ◌++◌, map, length}
use Rattle.std.proofs.lemmas.List.{map-append}
use Rattle.std.proofs.lemmas.Bool.Decides.{nat_tests}
use Rattle.book_model.specs.declared.Book.{Book}
use Rattle.book_model.specs.Calls.{opened_with}
use Rattle.book_model.specs.Outcome.{Outcome as Result}
use Rattle.book_model.specs.Open.{opened}
use Rattle.std.specs.List.{sum}
use Rattle.general_laws.proofs.Totals.{sum-cons}
use Rattle.book_model.proofs.Callers.{financed}
use Rattle.file_model.specs.Order.{Order, order_in}
use Rattle.file_model.specs.Load.{Outcome, Waiting, Waits, opening_with, after_call, begins_with_f, after_open, after_financing, load_from}
use Rattle.file.specs.Turns.{saturated}

-- Shares

saturated_again : (n : ℕ) → saturated (saturated n) ≡ saturated n
saturated_again n = grind (arith, nat_tests)

-- two lists of shares that are the same in 32 bits
abbrev pub Alike : List ℕ → List ℕ → Type 0
Alike ss ss' = map saturated ss ≡ map saturated ss'

pub alike_last : (ss : List ℕ) (n : ℕ) → Alike (ss ++ (n ∷ [])) (ss ++ (saturated n ∷ []))
alike_last ss n = rw (map-append saturated ss (n ∷ []), map-append saturated ss (saturated n ∷ []), saturated_again n)

alike_more : (ss ss' : List ℕ) (n : ℕ) → Alike ss ss' → Alike (ss ++ (n ∷ [])) (ss' ++ (n ∷ []))
alike_more ss ss' n e = rw (map-append saturated ss (n ∷ []), map-append saturated ss' (n ∷ []), e)

-- where one of them makes a whole, no share is cut
alike_share : (n m : ℕ) → n ≤ 1000000 → saturated n ≡ saturated m → n ≡ m
alike_share n m h e = grind (arith, nat_tests)

alike_shares : (ss ss' : List ℕ) → sum ss ≤ 1000000 → Alike ss ss' → ss ≡ ss'
alike_shares [] [] h e = refl
alike_shares [] (m ∷ ms) h e = absurd (omega (arith, ap length e))
alike_shares (n ∷ ns) [] h e = absurd (omega (arith, ap length e))
alike_shares (n ∷ ns) (m ∷ ms) h e =
    let heads : saturated n ≡ saturated m = cc in
    let tails : Alike ns ms = cc in
    let first = alike_share n m (omega (arith, sum-cons)) heads in
    let rest = alike_shares ns ms (omega (arith, sum-cons)) tails in
    cc

-- The opening, and the load behind it

module _ (b : Book) (first term annual cents : ℕ) where
  pub opened_alike : (hs ss ss' : List ℕ) → Alike ss ss'
      → opened_with b (opening_with first term annual cents hs ss) ≡ opened_with b (opening_with first term annual cents hs ss')
  unfolding opened
  opened_alike hs ss ss' alike = grind (arith, nat_tests, alike_shares ss ss', alike_shares ss' ss, financed hs ss, financed hs ss')

  module _ (before : Book) (line : ℕ) where
    after_open_alike : (hs ss ss' : List ℕ) → Alike ss ss' → (rest : Book → Outcome)
        → after_open before b (Waits line (opening_with first term annual cents hs ss)) rest
        ≡ after_open before b (Waits line (opening_with first term annual cents hs ss')) rest
    unfolding after_open
    after_open_alike hs ss ss' alike rest =
        ap (λ (o : Result (Unit {0})). after_call before line o.answer.number o.book rest) (opened_alike hs ss ss' alike)

    after_financing_alike : (hs ss ss' : List ℕ) (n : ℕ) (order : Order) (rest : Waiting → Outcome)
        → ((h s : ℕ) → rest (Waits line (opening_with first term annual cents (hs ++ (h ∷ [])) (ss ++ (s ∷ []))))
        ≡ rest (Waits line (opening_with first term annual cents (hs ++ (h ∷ [])) (ss' ++ (s ∷ [])))))
        → after_financing before (Waits line (opening_with first term annual cents hs ss)) n order rest
        ≡ after_financing before (Waits line (opening_with first term annual cents hs ss')) n order rest
    unfolding after_financing
    after_financing_alike hs ss ss' n order rest same = grind (arith, same)

    end_alike : (hs ss ss' : List ℕ) → Alike ss ss' → (n : ℕ)
        → load_from before b (Waits line (opening_with first term annual cents hs ss)) n []
        ≡ load_from before b (Waits line (opening_with first term annual cents hs ss')) n []
    unfolding load_from
    end_alike hs ss ss' alike n = after_open_alike hs ss ss' alike _

    line_alike : (hs ss ss' : List ℕ) → Alike ss ss' → (n : ℕ) (l : List ℕ) (ls : List (List ℕ))
        → ((h s : ℕ) → load_from before b (Waits line (opening_with first term annual cents (hs ++ (h ∷ [])) (ss ++ (s ∷ [])))) (n + 1) ls
        ≡ load_from before b (Waits line (opening_with first term annual cents (hs ++ (h ∷ [])) (ss' ++ (s ∷ [])))) (n + 1) ls)
        → load_from before b (Waits line (opening_with first term annual cents hs ss)) n (l ∷ ls)
        ≡ load_from before b (Waits line (opening_with first term annual cents hs ss')) n (l ∷ ls)
    unfolding load_from
    line_alike hs ss ss' alike n l ls same =
        ap₂ (cond {A = Outcome} (begins_with_f l)) (after_financing_alike hs ss ss' (n + 1) (order_in l) _ same) (after_open_alike hs ss ss' alike _)

    pub load_alike : (hs ss ss' : List ℕ) → Alike ss ss' → (n : ℕ) (ls : List (List ℕ))
        → load_from before b (Waits line (opening_with first term annual cents hs ss)) n ls
        ≡ load_from before b (Waits line (opening_with first term annual cents hs ss')) n ls
    load_alike hs ss ss' alike n [] = end_alike hs ss ss' alike n
    load_alike hs ss ss' alike n (l ∷ ls) =
        line_alike hs ss ss' alike n l ls
        (λ h s. load_alike (hs ++ (h ∷ [])) (ss ++ (s ∷ [])) (ss' ++ (s ∷ [])) (alike_more ss ss' s alike) (n + 1) ls)
