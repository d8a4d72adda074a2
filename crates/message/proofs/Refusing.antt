-- The refusals in their order.
use Rattle.std.proofs.Common.{◌≡◌, ℕ, ◌/◌, true, false, List, map, length, Option, Some, sym, ap, ◌∙◌, arith}
use Rattle.std.specs.Option.{option_or, option_map}
use Rattle.std.specs.Simd.{first_chunks}
use Rattle.std.proofs.lemmas.Bool.{cond-true, cond-false}
use Rattle.values.specs.declared.kind.Kind.{Kind}
use Rattle.block.specs.Cutting.{blocks_of}
use Rattle.block.proofs.Chunks.{chunks-blocks_of}
use Rattle.message.specs.declared.refusal.Refusal.TheVariants.{NotWhole}
use Rattle.message.specs.Messages.{whole, first_fault, check_fault, layout_fault, message_kind, wrong_check, broken_layout, unless, judged_fields, block_fields, read_message}
use Rattle.message.specs.Findings.{gathered, nothing, judged_findings, refused}
use Rattle.message.proofs.Forms.{whole_parts, header_kind}
use Rattle.message.proofs.Gathering.{refused_unless, findings_judge}

module _ (xs : List ℕ) where
  pub refused_length : whole xs ≡ false → refused (read_message xs) ≡ Some NotWhole
  unfolding read_message
  refused_length e = ap refused (cond-false (whole xs) _ _ e)

  refused_whole : whole xs ≡ true → refused (read_message xs) ≡ option_or (option_map wrong_check (first_fault check_fault 0 (blocks_of xs))) (refused (unless (first_fault layout_fault 0 (blocks_of xs)) broken_layout (judged_fields (map block_fields (blocks_of xs)))))
  unfolding read_message
  refused_whole w =
      ap refused (cond-true (whole xs) _ _ w)
      ∙ refused_unless (first_fault check_fault 0 (blocks_of xs)) wrong_check (unless (first_fault layout_fault 0 (blocks_of xs)) broken_layout (judged_fields (map block_fields (blocks_of xs))))

  -- whole blocks are refused by their checks, else by the findings
  pub refused_by : (k : Option Kind) (bs : List (List ℕ)) → k ≡ message_kind xs → bs ≡ first_chunks 512 (length xs / 512) xs → whole xs ≡ true → refused (read_message xs) ≡ option_or (option_map wrong_check (first_fault check_fault 0 bs)) (judged_findings k (gathered k 0 bs nothing))
  refused_by k bs h b w =
      let p = whole_parts xs w in
      let c = b ∙ chunks-blocks_of xs in
      refused_whole w
      ∙ ap (option_or (option_map wrong_check (first_fault check_fault 0 (blocks_of xs)))) (findings_judge k (blocks_of xs) (λ l. h ∙ header_kind xs (omega (arith, p.0, p.1)) l))
      ∙ ap (λ (cs : List (List ℕ)). option_or (option_map wrong_check (first_fault check_fault 0 cs)) (judged_findings k (gathered k 0 cs nothing))) (sym c)
