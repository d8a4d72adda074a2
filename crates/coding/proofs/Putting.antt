-- Fields put one behind the other.
use Rattle.std.proofs.Common.{◌≡◌, ℕ, List, [], ◌∷◌, ◌++◌, sym, refl, ap, ◌∙◌, subst}
use Rattle.std.proofs.lemmas.List.{append_assoc}
use Rattle.block.specs.declared.writer.BlockWriter.{BlockWriter}
use Rattle.block.specs.Fields.{FieldValue, Legal, last_tag}
use Rattle.block.specs.Writer.{written}
use Rattle.coding.specs.Putting.{Puts}

last_tag-append : (p : ℕ) (fs gs : List FieldValue) → last_tag p (fs ++ gs) ≡ last_tag (last_tag p fs) gs
last_tag-append p [] gs = refl
last_tag-append p (f ∷ fs) gs = last_tag-append f.tag fs gs

-- of legal fields, the first and those behind them
Legal-append : (p : ℕ) (fs gs : List FieldValue) → Legal p (fs ++ gs) → Legal p fs × Legal (last_tag p fs) gs
Legal-append p [] gs l = (tt, l)
Legal-append p (f ∷ fs) gs l = let r = Legal-append f.tag fs gs l.2 in ((l.0, l.1, r.0), r.1)

pub puts_both : (w v u : BlockWriter) (fs gs : List FieldValue) → Puts w fs v → Puts v gs u → Puts w (fs ++ gs) u
puts_both w v u fs gs a b =
    record {
      fields = λ l.
          let k = Legal-append (last_tag 0 (written w)) fs gs l in
          let e = a.fields k.0 in
          let p = ap (last_tag 0) e ∙ last_tag-append 0 (written w) fs in
          b.fields (subst (λ t. Legal t gs) (sym p) k.1) ∙ ap (λ hs. hs ++ gs) e ∙ append_assoc (written w) fs gs;
      named = b.named ∙ a.named;
    }
