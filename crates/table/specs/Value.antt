-- A table as a plain value.
use Rattle.std.specs.Prelude.{ℕ, List}

-- the rows that stand, in their order, and how many more there is room for
pub record TableValue (R : Type 0) : Type 0 where
  pub rows : List R
  pub free : ℕ
