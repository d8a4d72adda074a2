use Rattle.std.proofs.Common.{◌≡◌, length, take}
use Rattle.std.specs.Simd.{first_chunks}
use Rattle.image.proofs.Images.{image_blocks}
use Rattle.image.proofs.saving.save.Given as goal

-- the blocks are those of the cases so far, and then blank
abbrev pub invariant-loop-at : goal.invariant-loop-at
invariant-loop-at g l =
    let room = g.B.CaseBook.room l.book in
    first_chunks 512 room l.bytes ≡ image_blocks room (take (length l.yielded) (g.B.CaseBook.cases l.book))
