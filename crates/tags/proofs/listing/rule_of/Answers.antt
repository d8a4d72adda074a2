use Rattle.std.proofs.Common.{◌≡◌, IfSome, sym, subst, rules}
use Rattle.tags.specs.Tags.{number_of, rule_of}
use Rattle.tags.proofs.Numbering.{numbered}
use Rattle.tags.proofs.listing.rule_of.Goals as goal

pub returns-clause-numbered : goal.returns-clause-numbered
returns-clause-numbered c =
    let e : c.in_ok-get.field-0.now ≡ rule_of c.args.number = search rules in
    subst (λ r. IfSome r (λ rule. number_of rule.tag ≡ c.args.number)) (sym e) (numbered c.args.number)
