-- Images: one case a block, then blocks of zeros.
use Rattle.std.specs.Prelude.{◌≡◌, ℕ, ◌-◌, ◌*◌, ◌/◌, ◌%◌, ◌≤◌, Bool, true, false, ◌&&◌, List, ◌++◌, map, length, replicate, Some, None, Option, All, ◌==◌}
use Rattle.std.specs.List.{flat_map, list_all}
use Rattle.std.specs.Option.{unwrap_or}
use Rattle.std.specs.Simd.{first_chunks}
use Rattle.octets.specs.Bytes.{same_bytes}
use Rattle.block.specs.Fields.{fields_of, value_of}
use Rattle.cases.specs.Cases.{NameValue, CaseValue}
use Rattle.cases.specs.Vacant.{vacant}
use Rattle.cases.specs.Fitness.{Fit}
use Rattle.books.specs.Books.{names, Apart, fit_capacity}
use Rattle.coding.specs.CaseFields.{case_block}
use Rattle.coding.specs.Decoding.{case_in}

-- the image of cases in n blocks
unfoldable pub image : ℕ → List CaseValue → List ℕ
image n cs = flat_map case_block cs ++ replicate (512 * (n - length cs)) 0

-- the length of an image: whole blocks, 1 to 4,096 of them
abbrev pub fit_length : ℕ → Bool
fit_length n = n % 512 == 0 && fit_capacity (n / 512)

-- all bytes are zero
abbrev pub all_zero : List ℕ → Bool
all_zero bs = list_all (λ b. b == 0) bs

-- the bytes are the image of these cases: 1 to 4,096 blocks, no more cases than blocks, each case fit, no name twice
pub record ImageOf (bytes : List ℕ) (cs : List CaseValue) : Type 0 where
  pub capacity : fit_capacity (length bytes / 512) ≡ true
  pub within : length cs ≤ length bytes / 512
  pub fit : All Fit cs
  pub apart : Apart (names cs)
  pub form : bytes ≡ image (length bytes / 512) cs

-- the case that a block holds; a block that holds none counts as vacant
abbrev pub held : List ℕ → CaseValue
held block = unwrap_or (case_in (fields_of block)) vacant

-- the cases that the first n blocks of some bytes hold
abbrev pub cases_in : ℕ → List ℕ → List CaseValue
cases_in n bytes = map held (first_chunks 512 n bytes)

-- a value that was looked for is there, and is this one
abbrev pub is_value : Option (List ℕ) → List ℕ → Bool
is_value None v = false
is_value (Some w) v = same_bytes w v

-- the block has this identifier and this reference
unfoldable pub named : NameValue → List ℕ → Bool
named n b = is_value (value_of 2 (fields_of b)) n.identifier && is_value (value_of 16 (fields_of b)) n.uetr
