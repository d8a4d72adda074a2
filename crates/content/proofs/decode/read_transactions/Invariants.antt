use Rattle.std.proofs.Common.{◌≡◌, map, length, drop}
use Rattle.block.specs.Fields.{fields_of}
use Rattle.content.specs.Views.{transactions_view}
use Rattle.content.specs.Decoding.{transactions_in}
use Rattle.content.proofs.Collecting.{behind}
use Rattle.content.proofs.decode.read_transactions.Given as goal

-- the transactions so far, with those that the rest says, are those that the whole says
abbrev pub invariant-loop-at : goal.invariant-loop-at
invariant-loop-at l =
    (behind (transactions_view l.transactions l.at) (transactions_in l.kind (map fields_of (drop l.at l.blocks))) ≡ transactions_in l.kind (map fields_of l.blocks))
    × (length l.transactions ≡ 16)
