-- What holds of a block while it is written.
use Rattle.std.specs.Prelude.{◌≡◌, ◌≢◌, ℕ, ◌+◌, ◌<◌, List, length, Ok, slice_index}
use Rattle.block.specs.Fields.{encoded, fields_of, last_tag}
use Rattle.block.specs.Reading.{layout}

-- the fields put so far and zeros behind them fill all but the check, and the last field, if there is one, stands at `last`
abbrev pub Sound : List ℕ → ℕ → Type 0
Sound block last =
    (length block ≡ 512)
    × (layout block ≡ Ok (fields_of block))
    × (last < 509)
    × (slice_index block last ≡ last_tag 0 (fields_of block))
    × (slice_index block last ≢ 0 → last + (2 + slice_index block (last + 1)) ≡ length (encoded (fields_of block)))
