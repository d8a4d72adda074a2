use Rattle.std.proofs.Common.{rules, tests}
use Rattle.std.proofs.lemmas.Iterator.Search.{any_from_yields_List}
use Rattle.std.proofs.lemmas.Iterator.Consumers.{YieldsList-from_first}
use Rattle.cases.specs.Views.{view}
use Rattle.books.specs.Rest.{rest_of}
use Rattle.books.proofs.scan.any_case.Goals as goal

pub returns : goal.returns
returns g c =
    any_from_yields_List (g.C.CaseCondition.met c.args.condition.now) c.any.new.self _ _ c.any.ensures.ran
    (YieldsList-from_first view (rest_of g.B.CaseBook.cases) (g.B.CaseBook.cases c.args.book.now) c.of.ensures.cases)
    (λ x b q k. search (rules, tests))
