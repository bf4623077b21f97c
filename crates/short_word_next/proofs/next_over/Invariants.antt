use mathlib.Core.Option.{none}
use Rattle.std.proofs.Common.{◌≡◌, drop}
use Rattle.short_words.specs.NextWords.{next_as_long}
use Rattle.short_word_next.proofs.next_over.Given as goal

-- from place i on no letter has a greater one
abbrev pub invariant-loop-i : goal.invariant-loop-i
invariant-loop-i l = next_as_long l.letters l.least (drop l.i l.word) ≡ none
