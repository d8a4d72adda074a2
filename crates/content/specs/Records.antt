-- What a message says, as plain values: bytes stand as they were written, numbers as numbers.
use Rattle.std.specs.Prelude.{ℕ, List, Option}
use Rattle.dates.specs.Dates.{DateValue}

-- the original that a recall or an answer names: the number of its kind, and its identifier
pub record OriginalValue : Type 0 where
  pub kind : ℕ
  pub identifier : List ℕ

-- what a message is for: a request to a debtor's agent, or a recall of, a report on or a reply to an original
pub data PurposeValue : Type 0 where
  request : List ℕ → PurposeValue
  recall : OriginalValue → PurposeValue
  report : OriginalValue → PurposeValue
  reply : OriginalValue → PurposeValue

-- the header of a message
pub record HeaderValue : Type 0 where
  pub identifier : List ℕ
  pub creation_date : DateValue
  pub assigner : List ℕ
  pub assignee : List ℕ
  pub number : ℕ
  pub purpose : PurposeValue

-- what a transaction tells beside its references: an amount asked for and the creditor's agent, an amount recalled, or
-- a status with a reason and a text where they are given
pub data DetailValue : Type 0 where
  requested : ℕ → List ℕ → DetailValue
  recalled : ℕ → DetailValue
  answered : List ℕ → Option (List ℕ) → Option (List ℕ) → DetailValue

-- a transaction of a message
pub record TransactionValue : Type 0 where
  pub uetr : List ℕ
  pub end_to_end : List ℕ
  pub detail : DetailValue

-- a message: its header, and its transactions in their order
pub record ContentValue : Type 0 where
  pub header : HeaderValue
  pub transactions : List TransactionValue
