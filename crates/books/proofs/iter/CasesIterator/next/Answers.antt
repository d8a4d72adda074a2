use Rattle.std.proofs.Common.{arith}
use Rattle.books.proofs.Steps.{few, still_within}
use Rattle.books.proofs.iter.CasesIterator.next.Goals as goal

pub overflow_add-self : goal.overflow_add-self
overflow_add-self g c =
    let s = c.args.self.now in
    let n = few g.B.CaseBook.cases g.B.CaseBook.room g.B.CaseBook.sound g.B.CaseBook.keeps s.book.now c.requires in
    let m = still_within (g.B.CaseBook.cases s.book.now) s.at c.case_at.result c.case_at.ensures c.in_ok-case.case c.in_ok-case.was in
    omega arith
