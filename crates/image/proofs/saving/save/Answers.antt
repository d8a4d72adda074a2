use Rattle.std.proofs.Common.{◌≡◌, ◌*◌, ◌<◌, ◌≤◌, ◌∷◌, ◌++◌, List, [], length, take, set, replicate, sym, ap, ◌∙◌, arith}
use Rattle.std.specs.List.{enumerate_from}
use Rattle.std.specs.Iterator.{YieldsFirstBy}
use Rattle.std.specs.Iterator.Adapters.{enumerate_steps}
use Rattle.std.specs.Simd.{first_chunks}
use Rattle.std.specs.declared.iter.Enumerate.{Enumerate}
use Rattle.std.proofs.lemmas.List.{take_all, take_more, length-take-le, length_push}
use Rattle.std.proofs.lemmas.List.FromFn.{length-enumerate_from, get_or-enumerate_from}
use Rattle.std.proofs.lemmas.Iterator.{YieldsList}
use Rattle.std.proofs.lemmas.Iterator.Consumers.{YieldsList-from_first, YieldsList-from_enumerate, YieldsList-turn, YieldsList-end}
use Rattle.cases.specs.Cases.{CaseValue}
use Rattle.cases.specs.Views.{view}
use Rattle.cases.proofs.Fits.{fit_case}
use Rattle.books.specs.declared.iter.Cases.{Cases}
use Rattle.books.specs.Rest.{rest_of}
use Rattle.coding.specs.CaseFields.{case_block}
use Rattle.image.specs.Image.{image}
use Rattle.image.proofs.Images.{image_blocks, from_blocks, image_blocks-none}
use Rattle.image.proofs.Keeping.{blocks-written, blocks-opened}
use Rattle.image.proofs.saving.save.Goals as goal

-- the cases of a book come one by one, each with its place
numbered : {B : Type 0} (cases : B → List CaseValue) (cs : List CaseValue) {s t : Enumerate (Cases B)} → s ≡ t → rest_of cases t.iter ≡ cs → t.count ≡ 0 → YieldsList (enumerate_steps (YieldsFirstBy view (rest_of cases))) (λ p. (p.0, view p.1)) s (enumerate_from 0 cs)
numbered cases cs e r z = YieldsList-from_enumerate (YieldsList-from_first view (rest_of cases) cs (ap (λ u. rest_of cases u.iter) e ∙ r)) (ap (λ u. u.count) e ∙ z)

pub loop-at-init : goal.loop-at-init
loop-at-init g c =
    let room = g.B.CaseBook.room c.args.book.now in
    let zeros : c.fill.new.self ≡ replicate (512 * room) 0 = c.fill.ensures.after (λ y e. e) ∙ ap (λ n. replicate n 0) (omega (arith, c.capacity.ensures)) in
    ap (first_chunks 512 room) zeros ∙ image_blocks-none room

pub loop-at-preserved : goal.loop-at-preserved
loop-at-preserved g c =
    let book = c.args.book.now in
    let cases = g.B.CaseBook.cases in
    let cs = cases book in
    let room = g.B.CaseBook.room book in
    let so_far = c.loop-at.yielded in
    let n = length so_far in
    let at = c.in-Some.at in
    let d = view c.in-Some.case in
    let within : length cs ≤ room = g.B.CaseBook.keeps.within book c.requires in
    let all = numbered cases cs c.into_iter-at-iterator.ensures.into_iter_gives (ap (rest_of cases) c.enumerate-at-items.ensures.source ∙ c.of.ensures.cases) c.enumerate-at-items.ensures.count in
    let turn = YieldsList-turn all so_far c.loop-at.at-iterator c.loop-at.yielded_by c.next.result c.next.new.self (at, c.in-Some.case) c.in-Some.is c.next.ensures.steps in
    let h : n < length cs = omega (arith, turn.0, length-enumerate_from 0 cs) in
    let here = turn.1 ∙ get_or-enumerate_from 0 cs n (at, d) h in
    let place : at ≡ n = omega (arith, ap (λ p. p.0) here) in
    let long : length (take n cs) ≡ n = length-take-le n cs (omega arith) in
    ap (first_chunks 512 room) c.write_at.ensures
    ∙ blocks-written room at c.loop-at.bytes (take n cs) d (omega (arith, c.capacity.ensures)) c.loop-at.invariant (fit_case c.in-Some.case) (omega arith)
    ∙ ap (λ k. set (image_blocks room (take n cs)) k (case_block d)) (place ∙ sym long)
    ∙ blocks-opened room (take n cs) d (omega arith)
    ∙ ap (λ x. image_blocks room (take n cs ++ x ∷ [])) (ap (λ p. p.1) here)
    ∙ ap (image_blocks room) (sym (take_more cs n d h))
    ∙ ap (λ k. image_blocks room (take k cs)) (sym (length_push so_far (at, c.in-Some.case)))

pub returns-clause-bytes : goal.returns-clause-bytes
returns-clause-bytes g c =
    let book = c.args.book.now in
    let cases = g.B.CaseBook.cases in
    let cs = cases book in
    let room = g.B.CaseBook.room book in
    let all = numbered cases cs c.into_iter-at-iterator.ensures.into_iter_gives (ap (rest_of cases) c.enumerate-at-items.ensures.source ∙ c.of.ensures.cases) c.enumerate-at-items.ensures.count in
    let end = YieldsList-end all c.loop-at.yielded c.loop-at.at-iterator c.loop-at.yielded_by c.next.result c.next.new.self c.in-None.is c.next.ensures.steps in
    let n = length c.loop-at.yielded in
    from_blocks room (take n cs) c.loop-at.bytes (omega (arith, c.capacity.ensures)) c.loop-at.invariant ∙ ap (image room) (take_all n cs (omega (arith, end.1, length-enumerate_from 0 cs)))
