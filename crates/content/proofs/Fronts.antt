-- Bytes that read: the fields that each block holds are those at its front.
use Rattle.std.proofs.Common.{◌≡◌, ℕ, zero, suc, ◌+◌, ◌*◌, ◌/◌, ◌≤◌, List, ◌∷◌, map, length, take, drop, None, Ok, Err, sym, refl, ap, ◌∙◌, arith}
use Rattle.std.specs.Result.{result_ok}
use Rattle.std.proofs.lemmas.List.{length-take-le, length-drop}
use Rattle.block.specs.Fields.{FieldValue, fields_of}
use Rattle.block.specs.Reading.{layout}
use Rattle.block.specs.Following.{given}
use Rattle.block.proofs.Laws.{layout_fields_of, layout_holds}
use Rattle.message.specs.declared.refusal.Refusal.{Refusal}
use Rattle.block.specs.Cutting.{blocks, blocks_of}
use Rattle.message.specs.Messages.{MessageReading, held, first_fault, broken_at, layout_fault, judged_fields, block_fields, read_message, AllLegal}
use Rattle.message.specs.Findings.{refused}
use Rattle.message.proofs.Forms.{not_broken, faultless}
use Rattle.message.proofs.Gathering.{located_none}
use Rattle.content.specs.Decoding.{content_in, decoded}

-- the fields of blocks whose layouts hold
fields_front : (n k : ℕ) (xs : List ℕ) → length xs ≡ n * 512 → first_fault layout_fault k (blocks n xs) ≡ None → (map block_fields (blocks n xs) ≡ map fields_of (blocks n xs)) × AllLegal (map block_fields (blocks n xs))
fields_front zero k xs e l = (refl, tt)
fields_front (suc n) k xs e l =
    let b = take 512 xs in
    let q = located_none k (broken_at (layout b)) (first_fault layout_fault (k + 1) (blocks n (drop 512 xs))) l in
    let m = length-take-le 512 xs (omega (arith, e)) in
    let h = not_broken (layout b) q.0 in
    let r = fields_front n (k + 1) (drop 512 xs) (omega (arith, e, length-drop 512 xs)) q.1 in
    (ap (λ fs. fs ∷ map block_fields (blocks n (drop 512 xs))) (sym (layout_fields_of b (held (layout b)) m h)) ∙ ap (λ fss. fields_of b ∷ fss) r.0, ((layout_holds b (held (layout b)) m h).1, r.1))

-- what bytes that read hold
pub record Held (xs : List ℕ) (fss : List (List FieldValue)) : Type 0 where
  pub short : length xs ≤ 8704
  pub fronts : fss ≡ map fields_of (blocks_of xs)
  pub legal : AllLegal fss
  pub judged : judged_fields fss ≡ Ok fss

pub read_holds : (xs : List ℕ) (fss : List (List FieldValue)) → read_message xs ≡ Ok fss → Held xs fss
unfolding blocks_of
read_holds xs fss e =
    let g = faultless xs fss e in
    let r = fields_front (length xs / 512) 0 xs g.size g.layouts in
    record { short = g.short; fronts = sym g.fields ∙ r.0; legal = rw g.fields at r.1; judged = g.judged }

not_refused : (m : MessageReading) → refused m ≡ None → (fss : List (List FieldValue)) × (m ≡ Ok fss)
not_refused (Ok fss) e = (fss, refl)
not_refused (Err x) e = absurd (let z : ◌≡◌ {A = ℕ} 0 1 = cc in omega arith)

module _ (xs : List ℕ) where
  pub short_read : refused (read_message xs) ≡ None → length xs ≤ 8704
  short_read e = let r = not_refused (read_message xs) e in (read_holds xs r.0 r.1).short

  -- what the fronts of the blocks say is what the bytes say
  pub decoded_fronts : refused (read_message xs) ≡ None → content_in (map fields_of (blocks_of xs)) ≡ decoded xs
  unfolding decoded
  decoded_fronts e =
      let r = not_refused (read_message xs) e in
      sym (ap (λ m. given (result_ok m) content_in) r.1 ∙ ap content_in (read_holds xs r.0 r.1).fronts)

  pub decoded-none : (x : Refusal) → read_message xs ≡ Err x → None ≡ decoded xs
  unfolding decoded
  decoded-none x e = sym (ap (λ m. given (result_ok m) content_in) e)
