-- Transactions, one after the other.
use Rattle.std.proofs.Common.{List, ◌++◌, Option}
use Rattle.std.specs.Option.{option_map}
use Rattle.content.specs.Records.{TransactionValue}

-- transactions in front of others
abbrev pub behind : List TransactionValue → Option (List TransactionValue) → Option (List TransactionValue)
behind front o = option_map (λ ts. front ++ ts) o
