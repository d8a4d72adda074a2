-- What the types of the code mean.
use Rattle.std.specs.Prelude.{ℕ, List, map, take}
use Rattle.std.specs.Option.{option_map}
use Rattle.dates.specs.Views.{view}
use Rattle.values.specs.Views.{characters}
use Rattle.content.specs.declared.header.Original.{Original}
use Rattle.content.specs.declared.header.Purpose.{Purpose}
use Rattle.content.specs.declared.header.Purpose.TheVariants.{Request, Recall, Report, Reply}
use Rattle.content.specs.declared.header.Header.{Header}
use Rattle.content.specs.declared.transaction.Detail.{Detail}
use Rattle.content.specs.declared.transaction.Detail.TheVariants as detail
use Rattle.content.specs.declared.transaction.Transaction.{Transaction}
use Rattle.content.specs.declared.decode.Content.{Content}
use Rattle.content.specs.Records.{OriginalValue, PurposeValue, request, recall, report, reply, HeaderValue, DetailValue, requested, recalled, answered, TransactionValue, ContentValue}

-- the original that an `Original` is
abbrev pub original_view : Original → OriginalValue
original_view o = record { kind = o.kind; identifier = o.identifier }

-- what a `Purpose` is
abbrev pub purpose_view : Purpose → PurposeValue
purpose_view (Request agent) = request agent.bytes
purpose_view (Recall o) = recall (original_view o)
purpose_view (Report o) = report (original_view o)
purpose_view (Reply o) = reply (original_view o)

-- the header that a `Header` is
abbrev pub header_view : Header → HeaderValue
header_view h =
    record {
      identifier = h.identifier;
      creation_date = view h.creation_date;
      assigner = h.assigner.bytes;
      assignee = h.assignee.bytes;
      number = h.number;
      purpose = purpose_view h.purpose;
    }

-- what a `Detail` tells
abbrev pub detail_view : Detail → DetailValue
detail_view (detail.Request sum agent) = requested sum.kopecks agent.bytes
detail_view (detail.Recall sum) = recalled sum.kopecks
detail_view (detail.Answer status reason text) = answered status.bytes (option_map (λ code. code.bytes) reason) (option_map characters text)

-- the transaction that a `Transaction` is
abbrev pub transaction_view : Transaction → TransactionValue
transaction_view t = record { uetr = t.uetr.bytes; end_to_end = characters t.end_to_end; detail = detail_view t.detail }

-- the first n of the transactions
abbrev pub transactions_view : List Transaction → ℕ → List TransactionValue
transactions_view ts n = map transaction_view (take n ts)

-- the message that a `Content` is
abbrev pub content_view : Content → ContentValue
content_view c = record { header = header_view c.header; transactions = transactions_view c.transactions c.count }
