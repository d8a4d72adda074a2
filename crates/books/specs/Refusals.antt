-- What the calls of a book answer, and the numbers of its refusals.
use Rattle.std.specs.Prelude.{ℕ, cond, List, length, Ok, Err, Result, nat_lt}
use Rattle.table.specs.declared.TableRefusal.{TableRefusal}
use Rattle.table.specs.declared.TableRefusal.TheVariants as refusal
use Rattle.cases.specs.Cases.{CaseValue}
use Rattle.books.specs.Books.{stands}
use Rattle.books.specs.declared.refusal.BookRefusal.{BookRefusal}
use Rattle.books.specs.declared.refusal.BookRefusal.TheVariants.{NoBook, NoPlace, Stands, Full}

-- 50: the memory is not that of a book; 51: no case stands at the place; 52: a case of that name stands; 53: the book is full
abbrev pub refusal_number : BookRefusal → ℕ
refusal_number NoBook = 50
refusal_number NoPlace = 51
refusal_number Stands = 52
refusal_number Full = 53

-- what a book of rows says where its table refuses
abbrev pub of_table : TableRefusal → BookRefusal
of_table refusal.NoRow = NoPlace
of_table refusal.Full = Full

-- what a book with this room and these cases answers to the opening of a case: its name is judged first, then the room
abbrev pub open_answer : ℕ → List CaseValue → CaseValue → Result (Unit {0}) BookRefusal
open_answer room cs c = cond (stands c.name cs) (Err Stands) (cond (nat_lt (length cs) room) (Ok tt) (Err Full))

-- what a book with these cases answers to a state for the place i
abbrev pub change_answer : ℕ → List CaseValue → Result (Unit {0}) BookRefusal
change_answer i cs = cond (nat_lt i (length cs)) (Ok tt) (Err NoPlace)
