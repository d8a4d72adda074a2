-- What a book of rows means.
use Rattle.std.specs.Prelude.{◌≡◌, ℕ, true, List, map}
use Rattle.table.specs.Meaning.{limit_of}
use Rattle.table.proofs.Bridges.{rows_within}
use Rattle.cases.specs.Cases.{CaseValue}
use Rattle.cases.specs.Views.{view}
use Rattle.books.specs.Books.{names, Apart, fit_capacity, Keeps}
use Rattle.rows.specs.declared.RowsBook.{RowsBook}

-- its cases are those of the rows that stand
abbrev pub cases_of : RowsBook → List CaseValue
cases_of b = map view b.table.rows

-- its room is the limit of its table
abbrev pub room_of : RowsBook → ℕ
room_of b = limit_of b.table

-- what it holds of itself: names are apart, and the capacity is fit
pub record Sound (b : RowsBook) : Type 0 where
  pub apart : Apart (names (cases_of b))
  pub fit : fit_capacity (room_of b) ≡ true

-- so it is a book
pub rows_keep : Keeps cases_of room_of Sound
rows_keep = record { apart = λ b s. s.apart; within = λ b s. rows_within view b.table; fit = λ b s. s.fit }
