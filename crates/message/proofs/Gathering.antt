-- What one pass over all blocks finds is what the checks find one after the other.
use Rattle.std.proofs.Common.{◌≡◌, ℕ, ◌+◌, List, [], ◌∷◌, map, Some, None, Ok, Err, Option, sym, refl, ap, ap₂, ◌∙◌}
use Rattle.std.specs.Option.{option_or, option_map}
use Rattle.block.specs.Fields.{FieldValue}
use Rattle.block.specs.Reading.{Reading, layout}
use Rattle.values.specs.declared.kind.Kind.{Kind}
use Rattle.message.specs.declared.shapes.Slot.{Slot}
use Rattle.message.specs.declared.refusal.Refusal.{Refusal}
use Rattle.message.specs.declared.refusal.Refusal.TheVariants.{MisplacedTag}
use Rattle.message.specs.declared.findings.Findings.{Findings}
use Rattle.message.specs.Shapes.{shape, tag_fault}
use Rattle.message.specs.Fitness.{value_fault}
use Rattle.message.specs.Scanning.{report}
use Rattle.message.specs.Messages.{MessageReading, Location, role, held, located, first_fault, broken_at, layout_fault, tags_fault, values_fault, kind_in, first_tags_fault, broken_layout, misplaced_tag, unfit_value, unless, judged_fields, block_fields}
use Rattle.message.specs.Findings.{with_report, slots_of, gathered, nothing, tags_found, judged_findings, refused}

or_none : {A : Type 0} (a : Option A) → option_or a None ≡ a
or_none None = refl
or_none (Some x) = refl

-- a refusal found before, at this fault, or later
or_mapped : (r : Option Refusal) (refusal : Location → Refusal) (a b : Option Location) → option_or (option_or r (option_map refusal a)) (option_map refusal b) ≡ option_or r (option_map refusal (option_or a b))
or_mapped None refusal None b = refl
or_mapped None refusal (Some x) b = refl
or_mapped (Some x) refusal a b = refl

-- where there is no fault in all blocks, there is none in the first nor in the others
pub located_none : (n : ℕ) (o : Option ℕ) (r : Option Location) → option_or (located n o) r ≡ None → (o ≡ None) × (r ≡ None)
located_none n None r e = (refl, e)
located_none n (Some p) r e = cc

-- one block's report, as the findings take it
with_layout : (f : Findings) (n : ℕ) (ss : List Slot) (v : Reading) → (with_report f n (report ss v)).layout ≡ option_or f.layout (option_map broken_layout (located n (broken_at v)))
with_layout f n ss (Ok fs) = sym (or_none f.layout)
with_layout f n ss (Err e) = refl

with_tags : (f : Findings) (n : ℕ) (ss : List Slot) (v : Reading) → broken_at v ≡ None → (with_report f n (report ss v)).tags ≡ option_or f.tags (option_map misplaced_tag (located n (tag_fault ss (held v))))
with_tags f n ss (Ok fs) e = refl
with_tags f n ss (Err x) e = cc

with_values : (f : Findings) (n : ℕ) (ss : List Slot) (v : Reading) → broken_at v ≡ None → (with_report f n (report ss v)).values ≡ option_or f.values (option_map unfit_value (located n (value_fault (held v))))
with_values f n ss (Ok fs) e = refl
with_values f n ss (Err x) e = cc

-- what passing over all blocks finds is what each check finds first
pub gathered_layout : (k : Option Kind) (n : ℕ) (bs : List (List ℕ)) (f : Findings) → (gathered k n bs f).layout ≡ option_or f.layout (option_map broken_layout (first_fault layout_fault n bs))
gathered_layout k n [] f = sym (or_none f.layout)
gathered_layout k n (b ∷ bs) f =
    gathered_layout k (n + 1) bs (with_report f n (report (slots_of k n) (layout b)))
    ∙ ap (λ o. option_or o (option_map broken_layout (first_fault layout_fault (n + 1) bs))) (with_layout f n (slots_of k n) (layout b))
    ∙ or_mapped f.layout broken_layout (located n (broken_at (layout b))) (first_fault layout_fault (n + 1) bs)

module _ (k : Kind) where
  pub gathered_tags : (n : ℕ) (bs : List (List ℕ)) (f : Findings) → first_fault layout_fault n bs ≡ None → (gathered (Some k) n bs f).tags ≡ option_or f.tags (option_map misplaced_tag (first_fault (tags_fault k) n (map block_fields bs)))
  gathered_tags n [] f e = sym (or_none f.tags)
  gathered_tags n (b ∷ bs) f e =
      let p = located_none n (broken_at (layout b)) (first_fault layout_fault (n + 1) bs) e in
      gathered_tags (n + 1) bs (with_report f n (report (shape k (role n)) (layout b))) p.1
      ∙ ap (λ o. option_or o (option_map misplaced_tag (first_fault (tags_fault k) (n + 1) (map block_fields bs)))) (with_tags f n (shape k (role n)) (layout b) p.0)
      ∙ or_mapped f.tags misplaced_tag (located n (tags_fault k n (block_fields b))) (first_fault (tags_fault k) (n + 1) (map block_fields bs))

  pub gathered_values : (n : ℕ) (bs : List (List ℕ)) (f : Findings) → first_fault layout_fault n bs ≡ None → (gathered (Some k) n bs f).values ≡ option_or f.values (option_map unfit_value (first_fault values_fault n (map block_fields bs)))
  gathered_values n [] f e = sym (or_none f.values)
  gathered_values n (b ∷ bs) f e =
      let p = located_none n (broken_at (layout b)) (first_fault layout_fault (n + 1) bs) e in
      gathered_values (n + 1) bs (with_report f n (report (shape k (role n)) (layout b))) p.1
      ∙ ap (λ o. option_or o (option_map unfit_value (first_fault values_fault (n + 1) (map block_fields bs)))) (with_values f n (shape k (role n)) (layout b) p.0)
      ∙ or_mapped f.values unfit_value (located n (values_fault n (block_fields b))) (first_fault values_fault (n + 1) (map block_fields bs))

-- the refusals of checks one after the other
pub refused_unless : (o : Option Location) (refusal : Location → Refusal) (later : MessageReading) → refused (unless o refusal later) ≡ option_or (option_map refusal o) (refused later)
refused_unless None refusal later = refl
refused_unless (Some at) refusal later = refl

-- the checks 4 and 5 of fields in a message of a known kind
refused_fields : (k : Kind) (fss : List (List FieldValue)) → refused (unless (first_tags_fault (Some k) fss) misplaced_tag (unless (first_fault values_fault 0 fss) unfit_value (Ok fss))) ≡ option_or (option_map misplaced_tag (first_fault (tags_fault k) 0 fss)) (option_map unfit_value (first_fault values_fault 0 fss))
refused_fields k fss =
    refused_unless (first_fault (tags_fault k) 0 fss) misplaced_tag (unless (first_fault values_fault 0 fss) unfit_value (Ok fss))
    ∙ ap (option_or (option_map misplaced_tag (first_fault (tags_fault k) 0 fss))) (refused_unless (first_fault values_fault 0 fss) unfit_value (Ok fss) ∙ or_none (option_map unfit_value (first_fault values_fault 0 fss)))

-- the checks 3 to 5 one after the other, and the findings, refuse alike
by_kind : (k : Option Kind) (bs : List (List ℕ)) → first_fault layout_fault 0 bs ≡ None → refused (unless (first_tags_fault k (map block_fields bs)) misplaced_tag (unless (first_fault values_fault 0 (map block_fields bs)) unfit_value (Ok (map block_fields bs)))) ≡ judged_findings k (gathered k 0 bs nothing)
by_kind None bs e =
    let f = gathered None 0 bs nothing in
    sym (ap (λ o. option_or (option_or o (Some (MisplacedTag 0 1))) f.values) (gathered_layout None 0 bs nothing ∙ ap (option_map broken_layout) e))
by_kind (Some k) bs e =
    let f = gathered (Some k) 0 bs nothing in
    refused_fields k (map block_fields bs)
    ∙ sym (ap (λ o. option_or (option_or o f.tags) f.values) (gathered_layout (Some k) 0 bs nothing ∙ ap (option_map broken_layout) e) ∙ ap₂ option_or (gathered_tags k 0 bs nothing e) (gathered_values k 0 bs nothing e))

by_layout : (l : Option Location) (k : Option Kind) (bs : List (List ℕ)) → first_fault layout_fault 0 bs ≡ l → (l ≡ None → k ≡ kind_in (map block_fields bs)) → refused (unless l broken_layout (judged_fields (map block_fields bs))) ≡ judged_findings k (gathered k 0 bs nothing)
by_layout None k bs e h = by_kind (kind_in (map block_fields bs)) bs e ∙ ap (λ x. judged_findings x (gathered x 0 bs nothing)) (sym (h refl))
by_layout (Some at) k bs e h =
    let f = gathered k 0 bs nothing in
    sym (ap (λ o. option_or (option_or o (tags_found k f)) f.values) (gathered_layout k 0 bs nothing ∙ ap (option_map broken_layout) e))

-- with the kind that the header has where its layout does not break
pub findings_judge : (k : Option Kind) (bs : List (List ℕ)) → (first_fault layout_fault 0 bs ≡ None → k ≡ kind_in (map block_fields bs)) → refused (unless (first_fault layout_fault 0 bs) broken_layout (judged_fields (map block_fields bs))) ≡ judged_findings k (gathered k 0 bs nothing)
findings_judge k bs h = by_layout (first_fault layout_fault 0 bs) k bs refl h
