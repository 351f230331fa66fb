-- "A refusal gives back its number, with 0 in every other field .., and the book that came in.": of every call and reader, book and argument.
use Rattle.std.specs.Prelude.{ℕ, ◌≡◌, ◌≢◌, pos}
use Rattle.account.specs.declared.Cents.{Cents}
use Rattle.book_model.specs.declared.Book.{Book}
use Rattle.book_model.specs.declared.Parts.{Parts}
use Rattle.book_model.specs.Advance.{advanced}
use Rattle.book_model.specs.Call.{Opening}
use Rattle.book_model.specs.Calls.{opened_with}
use Rattle.book_model.specs.Outcome.{Answer, Outcome}
use Rattle.book_model.specs.Rate.{rated}
use Rattle.book_model.specs.Read.{position_of, position_at, totals_of}
use Rattle.book_model.specs.Settle.{settled}
use Rattle.book_model.specs.Transfer.{transferred}
use Rattle.conservation.specs.Examples.{figures, position}

-- a call on this book, if refused, gives back its number, these zeros and this book
abbrev pub Refuses : {A : Type 0} → A → Book → Outcome A → Type 0
Refuses zeros b o = o.answer.number ≢ 0 → o ≡ record { answer = record { number = o.answer.number; value = zeros }; book = b }

-- a reader, if it refuses, its number and these zeros: it gives back no book
abbrev pub Declines : {A : Type 0} → A → Answer A → Type 0
Declines zeros a = a.number ≢ 0 → a ≡ record { number = a.number; value = zeros }

pub record Refusals : Type 0 where
  -- "Answers nothing beyond its number."
  pub of_open : (b : Book) (o : Opening) → Refuses tt b (opened_with b o)
  -- days passed
  pub of_advance : (b : Book) (date : ℕ) → Refuses (record { 0 = 0 }) b (advanced b date)
  -- the changes of outstanding and due
  pub of_rate : (b : Book) (date annual : ℕ)
      → Refuses (record { outstanding = record { 0 = pos 0 }; due = record { 0 = pos 0 } }) b (rated b date annual)
  -- the cedent's remaining share
  pub of_transfer : (b : Book) (c a : ℕ) (n : Parts) → Refuses (record { 0 = 0 }) b (transferred b c a n)
  -- interest and principal taken
  pub of_settle : (b : Book) (m : Cents) → Refuses (record { interest = record { 0 = 0 }; principal = record { 0 = 0 } }) b (settled b m)
  -- holder, share, unit-days, received; the count of positions before them; today and the figures
  pub of_position : (b : Book) (h : ℕ) → Declines (position 0 0 0 0) (position_of b h)
  pub of_place : (b : Book) (k : ℕ) → Declines (record { count = 0; position = position 0 0 0 0 }) (position_at b k)
  pub of_totals : (b : Book) → Declines (record { today = 0; account = figures 0 0 0 0 0 }) (totals_of b)
