-- The numbers of the kinds of messages.
use Rattle.std.specs.Prelude.{ℕ, cond, Some, None, Option, ◌==◌}
use Rattle.values.specs.declared.kind.Kind.{Kind}
use Rattle.values.specs.declared.kind.Kind.TheVariants.{Request, Report, Reply, Recall}

-- the kind with the number n, if there is one
abbrev pub kind_of : ℕ → Option Kind
kind_of n =
    cond (n == 13) (Some Request)
    (cond (n == 14) (Some Report)
    (cond (n == 29) (Some Reply)
    (cond (n == 56) (Some Recall) None)))

-- the number of a kind
abbrev pub kind_number : Kind → ℕ
kind_number Request = 13
kind_number Report = 14
kind_number Reply = 29
kind_number Recall = 56
