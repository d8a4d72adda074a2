use Rattle.std.proofs.Common.{◌≤◌, length, IfSome}
use Rattle.clearing.proofs.Script.lines_with.Given as goal

-- the book stays sound, and no line comes back
abbrev pub invariant-loop-line : goal.invariant-loop-line
invariant-loop-line g l =
    IfSome l.book g.B.CaseBook.sound × (length l.self.lines.rest.now ≤ length l.fn.self.lines.rest.now)

abbrev pub decreases-loop-line : goal.decreases-loop-line
decreases-loop-line g l = length l.self.lines.rest.now
