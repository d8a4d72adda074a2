use Rattle.std.proofs.Common.{◌≡◌}
use Rattle.block.specs.Reading.{layout, judged}
use Rattle.block.specs.Reader.{ahead}
use Rattle.block.proofs.reader.judge.Given as goal

-- what is ahead decides as the whole layout does
abbrev pub invariant-loop-field : goal.invariant-loop-field
invariant-loop-field l =
    (goal.iterator-loop-field).can_next l.field-iterator
    × (goal.iterator-loop-field).is_finite l.field-iterator
    × (judged (ahead l.field-iterator) ≡ judged (layout l.block))
