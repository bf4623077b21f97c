use Rattle.captions.specs.Tables.{pair_count}
use Rattle.step_quick.specs.Quick.{found_place}
use Rattle.word_plain_letters.specs.PlainLetters.{Stand}
use Rattle.word_plain_letters.proofs.give_plain.Given as goal

-- the letters so far stand, and `l` is the left that is next
abbrev pub invariant-loop-i : goal.invariant-loop-i
invariant-loop-i l =
    Stand (found_place l.pairs) (pair_count l.pairs) l.word l.read l.given l.left l.initial.items l.k l.l l.i l.items
