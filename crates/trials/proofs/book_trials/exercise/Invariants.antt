use Rattle.trials.proofs.book_trials.exercise.Given as goal

-- the book is sound
abbrev pub invariant-loop-row : goal.invariant-loop-row
invariant-loop-row g l = g.B.CaseBook.sound l.book
