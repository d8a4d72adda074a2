use Rattle.std.proofs.Common.{◌≡◌, ◌≤◌, ◌+◌, length}
use Rattle.message.specs.Messages.{first_fault, check_fault}
use Rattle.message.proofs.findings.judge_checks.Given as goal

-- the blocks passed over have their checks
abbrev pub invariant-loop-block : goal.invariant-loop-block
invariant-loop-block l =
    (first_fault check_fault l.block-iterator.a.start l.block-iterator.b.rest.now ≡ first_fault check_fault 0 l.blocks)
    × (l.block-iterator.a.start + length l.block-iterator.b.rest.now ≤ 17)
