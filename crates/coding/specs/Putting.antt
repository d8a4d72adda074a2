-- Fields that are put into a block.
use Rattle.std.specs.Prelude.{◌≡◌, List, ◌++◌}
use Rattle.block.specs.declared.writer.BlockWriter.{BlockWriter}
use Rattle.block.specs.Fields.{FieldValue, Legal, last_tag}
use Rattle.block.specs.Writer.{written}

-- the writer w has become v, over the same block: the fields were put behind the others, if they may stand there
pub record Puts (w : BlockWriter) (fs : List FieldValue) (v : BlockWriter) : Type 0 where
  pub fields : Legal (last_tag 0 (written w)) fs → written v ≡ written w ++ fs
  pub named : v.block.ghost_name ≡ w.block.ghost_name
