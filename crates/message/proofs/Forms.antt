-- What is written reads back, and bytes that read are the only ones with their fields.
use Rattle.std.proofs.Common.{◌≡◌, ℕ, zero, suc, ◌+◌, ◌*◌, ◌/◌, ◌%◌, ◌<◌, ◌≤◌, true, List, [], ◌∷◌, ◌++◌, map, length, get_or, take, drop, Some, None, Ok, Err, Option, sym, refl, ap, ◌∙◌, arith}
use Rattle.std.specs.List.{flat_map}
use Rattle.std.proofs.lemmas.List.{length-append, length-take-le, length-drop, take_at, drop_at, get_or-take, get_or-drop, take-append-drop, length-take, get_or_past, nil_from_length}
use Rattle.std.proofs.lemmas.Grind.{common_steps}
use Rattle.std.proofs.lemmas.Bool.Decides.{nat_tests}
use Rattle.std.proofs.lemmas.Bool.{cond-true}
use Rattle.block.specs.Fields.{FieldValue, value_of}
use Rattle.block.specs.Block.{checks, block_of}
use Rattle.block.specs.Reading.{Reading, layout, reading}
use Rattle.block.proofs.Laws.{reads_back, reading_parts, reading_holds, layout_fields_of}
use Rattle.block.proofs.Laying.{length-block_of}
use Rattle.message.specs.declared.refusal.Refusal.{Refusal}
use Rattle.block.specs.Cutting.{blocks, blocks_of}
use Rattle.message.specs.Messages.{MessageReading, Location, whole, held, first_fault, check_fault, broken_at, layout_fault, values_fault, kind_by, message_kind, kind_in, first_tags_fault, wrong_check, broken_layout, misplaced_tag, unfit_value, unless, judged_fields, block_fields, judged_blocks, read_message, written_as, AllLegal, WrittenReadsBack, OnlyMessage}
use Rattle.block.proofs.Cutting.{blocks_of-more}
use Rattle.message.proofs.Gathering.{located_none}

pub not_broken : (v : Reading) → broken_at v ≡ None → v ≡ Ok (held v)
not_broken (Ok fs) e = refl
not_broken (Err x) e = cc

checked : (b : List ℕ) → check_fault 0 b ≡ None → checks b ≡ true
checked b e = grind (arith, common_steps)

-- where no layout breaks, the kind found at the front of the header is that of its fields
pub header_kind : (xs : List ℕ) → 512 ≤ length xs → first_fault layout_fault 0 (blocks_of xs) ≡ None → message_kind xs ≡ kind_in (map block_fields (blocks_of xs))
unfolding message_kind
header_kind xs h e =
    let m = blocks_of-more xs h in
    let p = located_none 0 (broken_at (layout (take 512 xs))) (first_fault layout_fault 1 (blocks_of (drop 512 xs))) (sym (ap (first_fault layout_fault 0) m) ∙ e) in
    ap (λ fs. kind_by (value_of 1 fs)) (layout_fields_of (take 512 xs) (held (layout (take 512 xs))) (length-take-le 512 xs h) (not_broken (layout (take 512 xs)) p.0))
    ∙ sym (ap (λ bs. kind_in (map block_fields bs)) m)

-- the parts of `whole`
pub whole_parts : (xs : List ℕ) → whole xs ≡ true → (0 < length xs) × (length xs % 512 ≡ 0) × (length xs ≤ 8704)
unfolding whole
whole_parts xs e = grind (arith, nat_tests)

-- whole blocks put together again
blocks_joined : (n : ℕ) (xs : List ℕ) → length xs ≡ n * 512 → flat_map (λ (b : List ℕ). b) (blocks n xs) ≡ xs
blocks_joined zero xs e = sym (nil_from_length xs (omega (arith, e)))
blocks_joined (suc n) xs e = ap (λ y. take 512 xs ++ y) (blocks_joined n (drop 512 xs) (omega (arith, e, length-drop 512 xs))) ∙ take-append-drop 512 xs

-- bytes stay bytes in a part
take_bytes : (n : ℕ) (xs : List ℕ) → ((i : ℕ) → get_or xs i 0 < 256) → (i : ℕ) → get_or (take n xs) i 0 < 256
take_bytes n xs h i = grind (arith, get_or-take, get_or_past, length-take {A = ℕ}, h i)

drop_bytes : (n : ℕ) (xs : List ℕ) → ((i : ℕ) → get_or xs i 0 < 256) → (i : ℕ) → get_or (drop n xs) i 0 < 256
drop_bytes n xs h i = rw (get_or-drop n xs i 0) (h (n + i))

reading_from : (b : List ℕ) (fs : List FieldValue) → checks b ≡ true → layout b ≡ Ok fs → reading b ≡ Ok fs
unfolding reading
reading_from b fs c l = cond-true (checks b) _ _ c ∙ l

-- blocks without a fault are what their fields are written as
blocks_form : (n k : ℕ) (xs : List ℕ) → ((i : ℕ) → get_or xs i 0 < 256) → length xs ≡ n * 512 → first_fault check_fault k (blocks n xs) ≡ None → first_fault layout_fault k (blocks n xs) ≡ None → flat_map (λ (b : List ℕ). b) (blocks n xs) ≡ flat_map block_of (map block_fields (blocks n xs))
blocks_form zero k xs h e c l = refl
blocks_form (suc n) k xs h e c l =
    let b = take 512 xs in
    let p = located_none k (check_fault k b) (first_fault check_fault (k + 1) (blocks n (drop 512 xs))) c in
    let q = located_none k (broken_at (layout b)) (first_fault layout_fault (k + 1) (blocks n (drop 512 xs))) l in
    let r = reading_from b (held (layout b)) (checked b p.0) (not_broken (layout b) q.0) in
    let f = (reading_holds b (held (layout b)) (length-take-le 512 xs (omega (arith, e)), take_bytes 512 xs h) r).0 in
    ap (λ x. x ++ flat_map (λ (y : List ℕ). y) (blocks n (drop 512 xs))) f
    ∙ ap (λ x. block_of (held (layout b)) ++ x) (blocks_form n (k + 1) (drop 512 xs) (drop_bytes 512 xs h) (omega (arith, e, length-drop 512 xs)) p.1 q.1)

-- what is not refused was found without a fault
pub unless_ok : (o : Option Location) (refusal : Location → Refusal) (r : MessageReading) (fss : List (List FieldValue)) → unless o refusal r ≡ Ok fss → (o ≡ None) × (r ≡ Ok fss)
unless_ok None refusal r fss e = (refl, e)
unless_ok (Some x) refusal r fss e = cc

fields_ok : (fss gss : List (List FieldValue)) → judged_fields fss ≡ Ok gss → fss ≡ gss
fields_ok fss gss e =
    let a = unless_ok (first_tags_fault (kind_in fss) fss) misplaced_tag _ gss e in
    let b = unless_ok (first_fault values_fault 0 fss) unfit_value (Ok fss) gss a.1 in
    let q = b.1 in cc

read_whole : (xs : List ℕ) (fss : List (List FieldValue)) → read_message xs ≡ Ok fss → (whole xs ≡ true) × (judged_blocks (blocks_of xs) ≡ Ok fss)
unfolding read_message
read_whole xs fss e = grind (arith, common_steps)

-- what is known of bytes that read: they are n whole blocks, none with a fault of check or layout, and their fields are judged right
pub record Faultless (xs : List ℕ) (fss : List (List FieldValue)) (n : ℕ) : Type 0 where
  pub size : length xs ≡ n * 512
  pub short : length xs ≤ 8704
  pub checks : first_fault check_fault 0 (blocks n xs) ≡ None
  pub layouts : first_fault layout_fault 0 (blocks n xs) ≡ None
  pub fields : map block_fields (blocks n xs) ≡ fss
  pub judged : judged_fields fss ≡ Ok fss

pub faultless : (xs : List ℕ) (fss : List (List FieldValue)) → read_message xs ≡ Ok fss → Faultless xs fss (length xs / 512)
unfolding blocks_of
faultless xs fss e =
    let w = read_whole xs fss e in
    let p = whole_parts xs w.0 in
    let n = length xs / 512 in
    let a = unless_ok (first_fault check_fault 0 (blocks n xs)) wrong_check _ fss w.1 in
    let b = unless_ok (first_fault layout_fault 0 (blocks n xs)) broken_layout _ fss a.1 in
    let f = fields_ok (map block_fields (blocks n xs)) fss b.1 in
    record { size = omega (arith, p.1); short = p.2; checks = a.0; layouts = b.0; fields = f; judged = sym (ap judged_fields f) ∙ b.1 }

-- bytes that read are what their fields are written as
read_form : (xs : List ℕ) (fss : List (List FieldValue)) → ((i : ℕ) → get_or xs i 0 < 256) → read_message xs ≡ Ok fss → xs ≡ written_as fss
read_form xs fss h e =
    let n = length xs / 512 in
    let g = faultless xs fss e in
    sym (blocks_joined n xs g.size) ∙ blocks_form n 0 xs h g.size g.checks g.layouts ∙ ap (flat_map block_of) g.fields

pub only_message : (xs : List ℕ) → ((i : ℕ) → get_or xs i 0 < 256) → OnlyMessage xs
only_message xs h other fss k e f = read_form other fss k f ∙ sym (read_form xs fss h e)

-- the blocks that fields are written as
length-written : (fss : List (List FieldValue)) → AllLegal fss → length (written_as fss) ≡ length fss * 512
length-written [] l = refl
length-written (fs ∷ fss) l = omega (arith, length-append (block_of fs) (written_as fss), length-block_of fs l.0, length-written fss l.1)

blocks-written : (fss : List (List FieldValue)) → AllLegal fss → blocks (length fss) (written_as fss) ≡ map block_of fss
blocks-written [] l = refl
blocks-written (fs ∷ fss) l =
    let n = length-block_of fs l.0 in
    ap (λ x. x ∷ blocks (length fss) (drop 512 (block_of fs ++ written_as fss))) (take_at (block_of fs) (written_as fss) 512 n)
    ∙ ap (λ x. block_of fs ∷ blocks (length fss) x) (drop_at (block_of fs) (written_as fss) 512 n)
    ∙ ap (λ x. block_of fs ∷ x) (blocks-written fss l.1)

-- they have their checks, and their layouts hold the fields
written_checks : (k : ℕ) (fss : List (List FieldValue)) → AllLegal fss → first_fault check_fault k (map block_of fss) ≡ None
written_checks k [] l = refl
written_checks k (fs ∷ fss) l =
    rw (reading_parts (block_of fs) fs (reads_back fs l.0)).0 (written_checks (k + 1) fss l.1)

written_layouts : (k : ℕ) (fss : List (List FieldValue)) → AllLegal fss → first_fault layout_fault k (map block_of fss) ≡ None
written_layouts k [] l = refl
written_layouts k (fs ∷ fss) l =
    rw (reading_parts (block_of fs) fs (reads_back fs l.0)).1 (written_layouts (k + 1) fss l.1)

written_fields : (fss : List (List FieldValue)) → AllLegal fss → map block_fields (map block_of fss) ≡ fss
written_fields [] l = refl
written_fields (fs ∷ fss) l =
    ap (λ v. held v ∷ map block_fields (map block_of fss)) (reading_parts (block_of fs) fs (reads_back fs l.0)).1 ∙ ap (λ x. fs ∷ x) (written_fields fss l.1)

pub written_reads_back : WrittenReadsBack
unfolding read_message whole blocks_of
written_reads_back fss a b l e =
    let xs = written_as fss in
    let n = length-written fss l in
    let w : whole xs ≡ true = grind (arith, nat_tests) in
    let d : length xs / 512 ≡ length fss = omega arith in
    let bs : blocks_of xs ≡ map block_of fss = ap (λ m. blocks m xs) d ∙ blocks-written fss l in
    cond-true (whole xs) _ _ w
    ∙ ap judged_blocks bs
    ∙ ap (λ o. unless o wrong_check (unless (first_fault layout_fault 0 (map block_of fss)) broken_layout (judged_fields (map block_fields (map block_of fss))))) (written_checks 0 fss l)
    ∙ ap (λ o. unless o broken_layout (judged_fields (map block_fields (map block_of fss)))) (written_layouts 0 fss l)
    ∙ ap judged_fields (written_fields fss l)
    ∙ e
