use Rattle.std.proofs.Common.{◌≡◌, ℕ, List, Some, None, Option, sym, ap, ◌∙◌, subst, arith, MatchOption}
use Rattle.std.proofs.lemmas.Bool.{true≢false}
use Rattle.std.proofs.lemmas.Bool.Decides.{Decides-eqb}
use Rattle.std.proofs.lemmas.Slice.Eq.{slice_eq-Decides}
use Rattle.block.specs.Fields.{fields_of}
use Rattle.cases.specs.Cases.{CaseValue}
use Rattle.cases.specs.Views.{view}
use Rattle.cases.specs.Fitness.{Fit}
use Rattle.cases.specs.declared.case.Case.{Case}
use Rattle.coding.specs.CaseFields.{case_block}
use Rattle.coding.specs.Decoding.{case_in}
use Rattle.coding.proofs.CaseBlocks.{case_block_again}
use Rattle.coding.proofs.exact_case.Goals as goal

-- what a block that is a case's reads as
again : (b : List ℕ) (k : CaseValue) → Fit k → b ≡ case_block k → case_in (fields_of b) ≡ Some k
again b k f e = ap (λ x. case_in (fields_of x)) e ∙ case_block_again k f

pub returns-in_err-case : goal.returns-in_err-case
returns-in_err-case c =
    let b = c.args.block.now in
    let P : Option Case → Type 0 = λ o. MatchOption o ((k : CaseValue) → Fit k → b ≡ case_block k → ⊥) (λ case. b ≡ case_block (view case)) in
    subst P (sym c.from_residual.ensures)
    (λ k f e. let q : None ≡ Some k = c.in_err-case.ensures ∙ again b k f e in let z : ◌≡◌ {A = ℕ} 0 1 = cc in omega arith)

pub returns-else-eq : goal.returns-else-eq
returns-else-eq c k f e =
    let b = c.args.block.now in
    let q : Some (view c.in_ok-case.case) ≡ Some k = c.in_ok-case.ensures ∙ again b k f e in
    let same : view c.in_ok-case.case ≡ k = cc in
    let eq : c.case_block.result ≡ b = c.case_block.ensures ∙ ap case_block same ∙ sym e in
    let d = slice_eq-Decides Decides-eqb _ _ _ c.eq.ensures in
    true≢false (sym (d.1 eq) ∙ c.if-eq.false)
