-- What a call gives back, as document 01 puts it: the number of its table, what it answers, and the book. "A refusal gives back its number,
-- with 0 in every other field .., and the book that came in."
use Rattle.std.specs.Prelude.{ℕ, Result, Ok, Err, pos}
use Rattle.calendar.specs.Answers.{date_number}
use Rattle.rates.specs.Rate.{rate_number}
use Rattle.book_model.specs.declared.Book.{Book}
use Rattle.account.specs.declared.Day.{Day}
use Rattle.book_model.specs.declared.Parts.{Parts}
use Rattle.book_model.specs.declared.Position.{Position}
use Rattle.book_model.specs.declared.Refusal.{Refusal}
use Rattle.book_model.specs.declared.Refusal.TheVariants as refusal
use Rattle.book_model.specs.declared.Taken.{Taken}
use Rattle.book_model.specs.declared.Revised.{Revised}
use Rattle.book_model.specs.declared.Placed.{Placed}
use Rattle.book_model.specs.declared.Totals.{Totals}
use Rattle.account.specs.Opening.{opening}
use Rattle.book_model.specs.Book.{fresh}

-- "What stops a call": the number of each trade word
abbrev pub refusal_number : Refusal → ℕ
refusal_number refusal.Unopened = 1
refusal_number refusal.AlreadyOpen = 2
refusal_number refusal.Date = date_number
refusal_number refusal.Term = 4
refusal_number refusal.Amount = 5
refusal_number refusal.Rate = rate_number
refusal_number refusal.Financing = 7
refusal_number refusal.Day = 8
refusal_number refusal.SettlementPending = 9
refusal_number refusal.Holder = 10
refusal_number refusal.Share = 11
refusal_number refusal.BookFull = 12
refusal_number refusal.NoDayHeld = 13
refusal_number refusal.Overpaid = 14

-- number and value of an answer
pub record Answer (A : Type 0) : Type 0 where
  pub number : ℕ
  pub value : A

-- an answer, and the book that is given back with it
pub record Outcome (A : Type 0) : Type 0 where
  pub answer : Answer A
  pub book : Book

abbrev pub answered : {A : Type 0} → A → Answer A
answered value = record { number = 0; value = value }

abbrev pub declined : {A : Type 0} → A → Refusal → Answer A
declined zeros r = record { number = refusal_number r; value = zeros }

abbrev pub accept : {A : Type 0} → A → Book → Outcome A
accept value b = record { answer = answered value; book = b }

abbrev pub refuse : {A : Type 0} → A → Book → Refusal → Outcome A
refuse zeros b r = record { answer = declined zeros r; book = b }

-- What the calls answer, and 0 in every field of it

abbrev pub nothing : Unit {0}
nothing = tt

abbrev pub no_days : Day
no_days = record { 0 = 0 }

abbrev pub no_parts : Parts
no_parts = record { 0 = 0 }

abbrev pub nothing_taken : Taken
nothing_taken = record { interest = record { 0 = 0 }; principal = record { 0 = 0 } }

abbrev pub no_changes : Revised
no_changes = record { outstanding = record { 0 = pos 0 }; due = record { 0 = pos 0 } }

abbrev pub no_position : Position
no_position = fresh 0 0

abbrev pub not_placed : Placed
not_placed = record { count = 0; position = no_position }

abbrev pub no_totals : Totals
no_totals = record { today = 0; account = opening 0 }

-- Number and value of each case of an answer, with 0 in every field where it is a refusal
abbrev pub case_of : {A : Type 0} → A → Result A Refusal → Answer A
case_of zeros (Ok value) = answered value
case_of zeros (Err r) = declined zeros r

-- the same, and a book beside it
abbrev pub outcome : {A : Type 0} → A → Result A Refusal → Book → Outcome A
outcome zeros result b = record { answer = case_of zeros result; book = b }
