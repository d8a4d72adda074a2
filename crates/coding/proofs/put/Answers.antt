use Rattle.std.proofs.Common.{◌≡◌, [], ◌∷◌, ◌++◌, length, Ok, ap, ◌∙◌}
use Rattle.std.proofs.lemmas.Result.{MatchResult-at_ok}
use Rattle.tags.specs.Tags.{number_of}
use Rattle.block.specs.Fields.{last_tag}
use Rattle.block.specs.Writer.{written, put_answer}
use Rattle.block.proofs.Putting.{listed_put}
use Rattle.coding.specs.CaseFields.{field}
use Rattle.coding.proofs.put.Goals as goal

pub returns : goal.returns
returns c =
    let w = written c.args.writer.now in
    let t = number_of c.args.tag in
    let v = c.args.value.now in
    record {
      fields = λ l.
          let done : c.put.result ≡ Ok tt = c.put.ensures.answer ∙ ap (λ k. put_answer (last_tag 0 w) k (length v)) c.number.ensures ∙ listed_put (last_tag 0 w) t (length v) l.1 l.0 in
          MatchResult-at_ok _ _ tt done c.put.ensures.fields ∙ ap (λ k. w ++ field k v ∷ []) c.number.ensures;
      named = c.put.ensures.named;
    }
