use Rattle.std.proofs.Common.{ℕ, ◌<◌, ◌≤◌, get_or}
use Rattle.caption_run.proofs.begin.letters_refusal.Given as goal

-- none of the letters passed is greater than all of them or-ed together
abbrev pub invariant-loop-letter : goal.invariant-loop-letter
invariant-loop-letter l = (j : ℕ) → j < l.letter-index → get_or l.word j 0 ≤ l.all
