-- What a book in an image means.
use Rattle.std.specs.Prelude.{◌≡◌, ℕ, ◌/◌, ◌%◌, cond, ◌&&◌, List, length, Ok, Err, Result, ◌==◌}
use Rattle.cases.specs.Cases.{CaseValue}
use Rattle.books.specs.Books.{Keeps}
use Rattle.books.specs.declared.refusal.BookRefusal.{BookRefusal}
use Rattle.books.specs.declared.refusal.BookRefusal.TheVariants.{NoBook}
use Rattle.image.specs.Image.{ImageOf, cases_in}
use Rattle.image.specs.declared.book.ImageBook.{ImageBook}

-- its cases are those of its first blocks
abbrev pub cases_of : ImageBook → List CaseValue
cases_of b = cases_in b.count b.bytes.now

-- its room is the number of its blocks
abbrev pub room_of : ImageBook → ℕ
room_of b = length b.bytes.now / 512

-- what it holds of itself: its bytes are the image of its cases
abbrev pub Sound : ImageBook → Type 0
Sound b = ImageOf b.bytes.now (cases_of b)

-- a book with the same cases and the same room has the same bytes
abbrev pub OneForm : ImageBook → Type 0
OneForm b = (other : ImageBook) → Sound other → cases_of other ≡ cases_of b → room_of other ≡ room_of b → other.bytes.now ≡ b.bytes.now

-- what saving a book with this room into n bytes answers: they have to be as many blocks
abbrev pub save_answer : ℕ → ℕ → Result (Unit {0}) BookRefusal
save_answer room n = cond (n % 512 == 0 && n / 512 == room) (Ok tt) (Err NoBook)

-- so it is a book
pub image_keeps : Keeps cases_of room_of Sound
image_keeps = record { apart = λ b s. s.apart; within = λ b s. s.within; fit = λ b s. s.capacity }
