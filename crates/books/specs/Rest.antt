-- A book that is gone through case by case.
use Rattle.std.specs.Prelude.{List, drop}
use Rattle.cases.specs.Cases.{CaseValue}
use Rattle.books.specs.declared.iter.Cases.{Cases}

-- the book that is gone through
abbrev pub book_of : {B : Type 0} → Cases B → B
book_of s = s.book.now

-- the cases that are still to come
abbrev pub rest_of : {B : Type 0} → (B → List CaseValue) → Cases B → List CaseValue
rest_of cases s = drop s.at (cases (book_of s))
