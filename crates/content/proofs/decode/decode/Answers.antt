use Rattle.std.proofs.Common.{◌≡◌, ℕ, List, is_some, is_ok, None, Option, map, sym, ap, ◌∙◌, arith}
use Rattle.std.specs.Option.{option_map}
use Rattle.octets.proofs.Parts.{is_some_mapped}
use Rattle.message.specs.Messages.{read_message}
use Rattle.content.specs.declared.decode.Content.{Content}
use Rattle.content.specs.Views.{content_view}
use Rattle.block.specs.Fields.{fields_of}
use Rattle.block.proofs.Chunks.{chunks-blocks_of}
use Rattle.content.specs.Decoding.{content_in, decoded}
use Rattle.content.proofs.Fronts.{short_read, decoded_fronts, decoded-none}
use Rattle.content.proofs.Completing.{total}
use Rattle.content.proofs.decode.decode.Goals as goal

by_value : (r : Option Content) (xs : List ℕ) → option_map content_view r ≡ decoded xs → is_some r ≡ is_ok (read_message xs)
by_value r xs e = sym (is_some_mapped content_view r) ∙ ap is_some e ∙ total xs

pub read_blocks-requires : goal.read_blocks-requires
read_blocks-requires c = let h = short_read c.bytes-bytes.result.now c.in-Ok.ensures.answer.1 in omega (arith, h, c.as_chunks.ensures.front_len)

pub returns-in-Ok : goal.returns-in-Ok
returns-in-Ok c =
    let e = c.read_blocks.ensures ∙ ap (λ bs. content_in (map fields_of bs)) (c.as_chunks.ensures.front ∙ chunks-blocks_of c.bytes-bytes.result.now) ∙ decoded_fronts c.bytes-bytes.result.now c.in-Ok.ensures.answer.1 ∙ ap decoded c.bytes-bytes.ensures in
    record { value = e; total = by_value _ _ e }

pub returns-in-Err : goal.returns-in-Err
returns-in-Err c =
    let e = decoded-none c.bytes-bytes.result.now _ c.in-Err.ensures.answer ∙ ap decoded c.bytes-bytes.ensures in
    record { value = e; total = by_value None _ e }
