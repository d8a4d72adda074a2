-- Whether a block reads, and with which fields.
use Rattle.std.specs.Prelude.{◌≡◌, ℕ, zero, suc, ◌+◌, Bool, cond, ◌&&◌, List, [], ◌∷◌, length, take, drop, Ok, Err, Result, ◌==◌, nat_le, nat_lt}
use Rattle.tags.specs.declared.faults.BlockFault.{BlockFault}
use Rattle.tags.specs.declared.faults.BlockFault.TheVariants.{WrongCheck, BrokenLayout}
use Rattle.tags.specs.Tags.{listed}
use Rattle.block.specs.Fields.{FieldValue}
use Rattle.block.specs.Block.{Block, checks}

-- the fields that bytes hold, or what is wrong with them
abbrev pub Reading : Type 0
Reading = Result (List FieldValue) BlockFault

-- a field in front of what the bytes behind it read as
abbrev pub led : FieldValue → Reading → Reading
led f (Ok fs) = Ok (f ∷ fs)
led f (Err e) = Err e

-- no field: all bytes are zero, or the first that is not is a stray byte; the first byte stands at `at`
abbrev pub blank : ℕ → List ℕ → Reading
blank at [] = Ok []
blank at (b ∷ bs) = cond (b == 0) (blank (at + 1) bs) (Err (BrokenLayout at))

-- a field with the tag t and l bytes of value may stand behind the tag p, with room bytes left
unfoldable pub may_stand : ℕ → ℕ → ℕ → ℕ → Bool
may_stand p t l room = nat_lt p t && (listed t l && nat_le l room)

-- at most n fields behind the tag p, from the byte `at` on, and then zeros
abbrev pub scanned : ℕ → ℕ → ℕ → List ℕ → Reading
scanned zero at p bs = blank at bs
scanned (suc n) at p [] = Ok []
scanned (suc n) at p (t ∷ []) = blank at (t ∷ [])
scanned (suc n) at p (t ∷ l ∷ bs) =
    cond (t == 0) (blank at (t ∷ l ∷ bs))
    (cond (may_stand p t l (length bs))
    (led (record { tag = t; value = take l bs }) (scanned n (at + (2 + l)) t (drop l bs)))
    (Err (BrokenLayout at)))

-- the fields behind the tag p, from the byte `at` on
unfoldable pub fields_from : ℕ → ℕ → List ℕ → Reading
fields_from at p bs = scanned (length bs) at p bs

-- the fields of a block's first 510 bytes, whatever its check
unfoldable pub layout : List ℕ → Reading
layout block = fields_from 0 0 (take 510 block)

-- what a block reads as: its check is judged first, then its layout
unfoldable pub reading : List ℕ → Reading
reading block = cond (checks block) (layout block) (Err WrongCheck)

-- whether it reads, without the fields
abbrev pub judged : Reading → Result (Unit {0}) BlockFault
judged (Ok fs) = Ok tt
judged (Err e) = Err e

-- no other block reads with the fields of this one
abbrev pub OnlyForm : List ℕ → Type 0
OnlyForm block = (other : List ℕ) (fs : List FieldValue) → Block other → reading block ≡ Ok fs → reading other ≡ Ok fs → other ≡ block
