-- The values that are read as they stand: member codes, references, statuses and reasons.
use Rattle.std.specs.Prelude.{ℕ, Bool, not, ◌&&◌, List, length, replicate, Option, ◌==◌}
use Rattle.octets.specs.Bytes.{is_digit, is_capital_or_digit, every, kept, same_bytes}

-- a member's code: six digits
abbrev pub member_code : List ℕ → Bool
member_code bs = length bs == 6 && every is_digit bs

-- the member's code that bytes are
abbrev pub read_member_code : List ℕ → Option (List ℕ)
read_member_code bs = kept (member_code bs) bs

-- a unique end-to-end transaction reference: 16 bytes, not all zero
abbrev pub uetr : List ℕ → Bool
uetr bs = length bs == 16 && not (same_bytes bs (replicate 16 0))

-- the reference that bytes are
abbrev pub read_uetr : List ℕ → Option (List ℕ)
read_uetr bs = kept (uetr bs) bs

-- a status: four capital letters or digits
abbrev pub status : List ℕ → Bool
status bs = length bs == 4 && every is_capital_or_digit bs

-- the status that bytes are
abbrev pub read_status : List ℕ → Option (List ℕ)
read_status bs = kept (status bs) bs

-- a reason: four capital letters or digits
abbrev pub reason : List ℕ → Bool
reason bs = length bs == 4 && every is_capital_or_digit bs

-- the reason that bytes are
abbrev pub read_reason : List ℕ → Option (List ℕ)
read_reason bs = kept (reason bs) bs
