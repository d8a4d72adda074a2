-- How many rows a table was lent, and what it answers.
use Rattle.std.specs.Prelude.{ℕ, ◌+◌, cond, length, Ok, Err, Result, nat_lt}
use Rattle.table.specs.Value.{TableValue}
use Rattle.table.specs.declared.TableRefusal.{TableRefusal}
use Rattle.table.specs.declared.TableRefusal.TheVariants.{NoRow, Full}

-- how many rows it was lent
abbrev pub limit_of : {R : Type 0} → TableValue R → ℕ
limit_of t = length t.rows + t.free

-- what a table of n rows and this limit answers to a further row
abbrev pub add_answer : ℕ → ℕ → Result (Unit {0}) TableRefusal
add_answer n limit = cond (nat_lt n limit) (Ok tt) (Err Full)

-- what a table of n rows answers to a row for the place i
abbrev pub replace_answer : ℕ → ℕ → Result (Unit {0}) TableRefusal
replace_answer i n = cond (nat_lt i n) (Ok tt) (Err NoRow)
