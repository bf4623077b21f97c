use Rattle.word_plain_letters.specs.PlainLetters.{Stand}
use Rattle.index_plain_letters.specs.IndexedLetters.{bit_place}
use Rattle.index_plain_letters.proofs.set_plain.Given as goal

-- the letters so far stand, and `l` is the left that is next
abbrev pub invariant-loop-i : goal.invariant-loop-i
invariant-loop-i l = Stand (bit_place l.index) 0 l.word l.read l.given l.left l.initial.items l.k l.l l.i l.items
