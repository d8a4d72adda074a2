-- Worked examples that are shown of the definitions: one table, a row for each.
use Rattle.std.specs.Prelude.{◌≡◌, ℕ, ◌/◌, ◌%◌, Bool, true, false, List, [], ◌∷◌, ◌++◌, replicate, Some, None, codes, Option}
use Rattle.block.specs.Block.{check, padded}
use Rattle.dates.specs.Dates.{DateValue, date, day_before}
use Rattle.values.specs.Identifiers.{suits}

-- an example: what is given, and what it comes to
pub data Example : Type 0 where
  -- the bytes at the front of a block, all others being zero, and the two bytes of its check
  check_of : List ℕ → ℕ → ℕ → Example
  -- a date, and the day before it, if there is one
  before : DateValue → Option DateValue → Example
  -- the bytes of an identifier, the code of a sender, and whether the identifier suits the sender
  suiting : List ℕ → List ℕ → Bool → Example

-- the example is right
abbrev pub Holds : Example → Type 0
Holds (check_of front high low) = (check (padded 512 front) / 256 ≡ high) × (check (padded 512 front) % 256 ≡ low)
Holds (before day earlier) = day_before day ≡ earlier
Holds (suiting id sender answer) = suits id sender ≡ answer

-- only byte 509 is set, to 255
unfoldable pub last_of_the_body : List ℕ
last_of_the_body = replicate 509 0 ++ 255 ∷ []

-- the table
abbrev pub examples : List Example
examples =
    check_of (1 ∷ 1 ∷ 13 ∷ []) 0 42
    ∷ check_of (1 ∷ 1 ∷ 56 ∷ []) 0 171
    ∷ check_of last_of_the_body 252 17
    ∷ before (date 2024 3 1) (Some (date 2024 2 29))
    ∷ before (date 2023 3 1) (Some (date 2023 2 28))
    ∷ before (date 2000 1 1) None
    ∷ suiting (codes "30000120240301000001") (codes "300001") true
    ∷ suiting (codes "3000012024030100000a") (codes "300001") false
    ∷ []

-- every row is right
abbrev pub AllHold : List Example → Type 0
AllHold [] = Unit {0}
AllHold (e ∷ es) = Holds e × AllHold es
