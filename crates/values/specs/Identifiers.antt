-- Identifiers of messages and payments.
use Rattle.std.specs.Prelude.{ℕ, Bool, ◌&&◌, List, length, take, drop, is_some, Option, ◌==◌}
use Rattle.octets.specs.Bytes.{is_capital_or_digit, every, kept, same_bytes}
use Rattle.values.specs.Codes.{member_code}
use Rattle.dates.specs.Dates.{DateValue, read_date, date_digits}

-- the first six bytes
abbrev pub code_part : List ℕ → List ℕ
code_part bs = take 6 bs

-- the eight bytes behind them
abbrev pub date_part : List ℕ → List ℕ
date_part bs = take 8 (drop 6 bs)

-- the bytes behind those
abbrev pub serial_part : List ℕ → List ℕ
serial_part bs = drop 14 bs

-- 20 bytes: a member's code, a date, and six capital letters or digits
unfoldable pub identifier : List ℕ → Bool
identifier bs =
    (length bs == 20)
    && member_code (code_part bs)
    && is_some (read_date (date_part bs))
    && every is_capital_or_digit (serial_part bs)

-- the identifier that bytes are
abbrev pub read_identifier : List ℕ → Option (List ℕ)
read_identifier bs = kept (identifier bs) bs

-- the bytes begin with this member's code
abbrev pub begins_with : List ℕ → List ℕ → Bool
begins_with bs code = same_bytes (code_part bs) code

-- the digits behind the code are those of this date
unfoldable pub is_dated : List ℕ → DateValue → Bool
is_dated bs d = same_bytes (date_part bs) (date_digits d)

-- a sender with this code may use the identifier: it is well-formed and begins with the code
abbrev pub suits : List ℕ → List ℕ → Bool
suits bs code = identifier bs && begins_with bs code
