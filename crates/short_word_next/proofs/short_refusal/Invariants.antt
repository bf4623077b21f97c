use Rattle.std.proofs.Common.{◌≡◌, drop}
use Rattle.short_words.specs.ShortWords.{all_in_set}
use Rattle.short_word_next.proofs.short_refusal.Given as goal

-- the letters passed are of the set, so that those from here on decide
abbrev pub invariant-loop-letter : goal.invariant-loop-letter
invariant-loop-letter l = all_in_set l.letters (drop l.letter-index l.word) ≡ all_in_set l.letters l.word
