use Rattle.std.proofs.Common.{map, sym, ap, ◌∙◌, subst, arith}
use Rattle.std.proofs.lemmas.List.{length-map}
use Rattle.std.proofs.lemmas.Iterator.Consumers.{YieldsList-from_first, YieldsList-turn}
use Rattle.cases.specs.Views.{view}
use Rattle.books.specs.Rest.{rest_of}
use Rattle.books.specs.Totals.{Below}
use Rattle.books.proofs.Counting.{totals_below}
use Rattle.books.proofs.Steps.{few}
use Rattle.books.proofs.totals.totals_of.Goals as goal

pub count-requires : goal.count-requires
count-requires g c =
    let book = c.args.book.now in
    let cs = g.B.CaseBook.cases book in
    let so_far = c.loop-case.yielded in
    let n = few g.B.CaseBook.cases g.B.CaseBook.room g.B.CaseBook.sound g.B.CaseBook.keeps book c.requires in
    let all = YieldsList-from_first view (rest_of g.B.CaseBook.cases) cs (ap (rest_of g.B.CaseBook.cases) c.into_iter-case-iterator.ensures.into_iter_gives ∙ c.of-case-items.ensures.cases) in
    let turn = YieldsList-turn all so_far c.loop-case.case-iterator c.loop-case.yielded_by c.next.result c.next.new.self c.in-Some.case c.in-Some.is c.next.ensures.steps in
    subst (Below 4096) (sym c.loop-case.invariant.counted) (totals_below (map view so_far) 4096 (simp length-map (omega (arith, turn.0))))
