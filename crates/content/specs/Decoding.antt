-- What the fields of a message say.
use Rattle.std.specs.Prelude.{ℕ, List, [], ◌∷◌, Some, None, Option}
use Rattle.std.specs.Option.{option_map}
use Rattle.std.specs.Result.{result_ok}
use Rattle.block.specs.Fields.{FieldValue}
use Rattle.block.specs.Following.{given}
use Rattle.values.specs.Kinds.{kind_of}
use Rattle.message.specs.Messages.{read_message}
use Rattle.values.specs.declared.kind.Kind.{Kind}
use Rattle.values.specs.declared.kind.Kind.TheVariants.{Request, Report, Reply, Recall}
use Rattle.content.specs.Records.{OriginalValue, PurposeValue, request, recall, report, reply, HeaderValue, DetailValue, requested, recalled, answered, TransactionValue, ContentValue}
use Rattle.items.specs.Items.{byte_in, identifier_in, member_code_in, uetr_in, end_to_end_in, amount_in}
use Rattle.content.specs.Items.{number_in, creation_date_in, status_in, reason_in, text_in}

-- the original that a header names
abbrev pub original_in : List FieldValue → Option OriginalValue
original_in fs =
    given (byte_in 7 fs) (λ kind.
    given (identifier_in 8 fs) (λ identifier.
    Some (record { kind = kind; identifier = identifier })))

-- what a message of this kind is for, by the fields of its header
abbrev pub purpose_in : Kind → List FieldValue → Option PurposeValue
purpose_in Request fs = option_map request (member_code_in 9 fs)
purpose_in Recall fs = option_map recall (original_in fs)
purpose_in Report fs = option_map report (original_in fs)
purpose_in Reply fs = option_map reply (original_in fs)

-- the header of a message of this kind
abbrev pub header_in : Kind → List FieldValue → Option HeaderValue
header_in k fs =
    given (identifier_in 2 fs) (λ identifier.
    given (creation_date_in fs) (λ date.
    given (member_code_in 4 fs) (λ assigner.
    given (member_code_in 5 fs) (λ assignee.
    given (number_in fs) (λ number.
    given (purpose_in k fs) (λ purpose.
    Some (record {
      identifier = identifier;
      creation_date = date;
      assigner = assigner;
      assignee = assignee;
      number = number;
      purpose = purpose;
    })))))))

-- what a transaction of an answer tells
abbrev pub answer_in : List FieldValue → Option DetailValue
answer_in fs =
    given (status_in fs) (λ status.
    given (reason_in fs) (λ reason.
    given (text_in fs) (λ text.
    Some (answered status reason text))))

-- what a transaction of a message of this kind tells beside its references
abbrev pub detail_in : Kind → List FieldValue → Option DetailValue
detail_in Request fs = given (amount_in fs) (λ amount. option_map (requested amount) (member_code_in 22 fs))
detail_in Recall fs = option_map recalled (amount_in fs)
detail_in Report fs = answer_in fs
detail_in Reply fs = answer_in fs

-- a transaction of a message of this kind
abbrev pub transaction_in : Kind → List FieldValue → Option TransactionValue
transaction_in k fs =
    given (uetr_in fs) (λ uetr.
    given (end_to_end_in fs) (λ end_to_end.
    given (detail_in k fs) (λ detail.
    Some (record { uetr = uetr; end_to_end = end_to_end; detail = detail }))))

-- the transactions of a message of this kind, one to a block
abbrev pub transactions_in : Kind → List (List FieldValue) → Option (List TransactionValue)
transactions_in k [] = Some []
transactions_in k (fs ∷ fss) = given (transaction_in k fs) (λ t. option_map (λ ts. t ∷ ts) (transactions_in k fss))

-- the kind that a header gives
abbrev pub header_kind : List FieldValue → Option Kind
header_kind fs = given (byte_in 1 fs) kind_of

-- a message with this header and these transactions
abbrev pub content_of : HeaderValue → List TransactionValue → ContentValue
content_of header ts = record { header = header; transactions = ts }

-- what the fields of the blocks say: the header comes first
unfoldable pub content_in : List (List FieldValue) → Option ContentValue
content_in [] = None
content_in (fs ∷ fss) =
    given (header_kind fs) (λ k.
    given (header_in k fs) (λ header.
    option_map (content_of header) (transactions_in k fss)))

-- what bytes say: nothing where they do not read
unfoldable pub decoded : List ℕ → Option ContentValue
decoded bytes = given (result_ok (read_message bytes)) content_in
