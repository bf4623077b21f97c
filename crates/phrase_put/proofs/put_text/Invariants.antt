use lib.ListN.{take}
use Rattle.phrases.specs.Phrases.{PutsText}
use Rattle.phrase_put.proofs.put_text.Given as goal

-- what is put is the text so far
abbrev pub invariant-loop-b : goal.invariant-loop-b
invariant-loop-b l = PutsText l.fn.out l.at (take l.b-index l.text) l.next l.out
