-- The block of a fit case.
use Rattle.std.proofs.Common.{◌≡◌, length, Some, ap, ◌∙◌}
use Rattle.block.specs.Fields.{fields_of}
use Rattle.block.proofs.Laying.{length-block_of}
use Rattle.block.proofs.Laws.{reads_back, reading_parts, layout_fields_of}
use Rattle.cases.specs.Cases.{CaseValue}
use Rattle.cases.specs.Fitness.{Fit}
use Rattle.coding.specs.CaseFields.{case_fields, case_block}
use Rattle.coding.specs.Decoding.{case_in}
use Rattle.coding.proofs.Writing.{legal_case}
use Rattle.coding.proofs.Finding.{case_again}

module _ (c : CaseValue) (f : Fit c) where
  pub length-case_block : length (case_block c) ≡ 512
  unfolding case_block
  length-case_block = length-block_of (case_fields c) (legal_case c f)

  pub fields-case_block : fields_of (case_block c) ≡ case_fields c
  unfolding case_block
  fields-case_block =
      let l = legal_case c f in
      layout_fields_of (case_block c) (case_fields c) length-case_block (reading_parts (case_block c) (case_fields c) (reads_back (case_fields c) l)).1

  pub case_block_again : case_in (fields_of (case_block c)) ≡ Some c
  case_block_again = ap case_in fields-case_block ∙ case_again c f
