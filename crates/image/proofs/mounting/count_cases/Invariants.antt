use Rattle.image.proofs.Judging.{Judged}
use Rattle.image.proofs.mounting.count_cases.Given as goal

-- the blocks so far are those of fit cases with names that are apart
abbrev pub invariant-loop-at : goal.invariant-loop-at
invariant-loop-at l = Judged l.blocks l.at
