use Rattle.std.proofs.Common.{◌≡◌, ◌≤◌, ◌+◌, length}
use Rattle.message.specs.Findings.{gathered, nothing}
use Rattle.message.proofs.findings.gather.Given as goal

-- what was found so far, with what the iterator has left, is what all blocks hold
abbrev pub invariant-loop-number : goal.invariant-loop-number
invariant-loop-number l =
    (gathered l.kind l.number-iterator.a.start l.number-iterator.b.rest.now l.findings ≡ gathered l.kind 0 l.blocks nothing)
    × (l.number-iterator.a.start + length l.number-iterator.b.rest.now ≤ 17)
