-- The values of single fields that only messages have.
use Rattle.std.specs.Prelude.{ℕ, List, Option}
use Rattle.block.specs.Fields.{FieldValue}
use Rattle.octets.specs.Bytes.{read_pair}
use Rattle.items.specs.Items.{item_in, optional_item_in}
use Rattle.values.specs.Codes.{read_status, read_reason}
use Rattle.values.specs.Texts.{read_text}
use Rattle.dates.specs.Dates.{DateValue, read_date}

-- the number of transactions
abbrev pub number_in : List FieldValue → Option ℕ
number_in fs = item_in read_pair 6 fs

-- the creation date
abbrev pub creation_date_in : List FieldValue → Option DateValue
creation_date_in fs = item_in read_date 3 fs

-- the status
abbrev pub status_in : List FieldValue → Option (List ℕ)
status_in fs = item_in read_status 19 fs

-- the reason, which may be absent
abbrev pub reason_in : List FieldValue → Option (Option (List ℕ))
reason_in fs = optional_item_in read_reason 20 fs

-- the text, which may be absent
abbrev pub text_in : List FieldValue → Option (Option (List ℕ))
text_in fs = optional_item_in read_text 21 fs
