use Rattle.std.proofs.Common.{◌≡◌}
use Rattle.block.specs.Reading.{layout}
use Rattle.block.specs.Reader.{ahead}
use Rattle.message.specs.Scanning.{reported, report}
use Rattle.message.proofs.scan.scan.Given as goal

-- the pass so far and the fields ahead come to what the whole layout comes to
abbrev pub invariant-loop-field : goal.invariant-loop-field
invariant-loop-field l = reported l.pass.found l.pass.slots.now (ahead l.field-iterator) ≡ report l.slots (layout l.block)
