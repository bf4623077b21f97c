use Rattle.columns.specs.Replying.{bytes_of}
use Rattle.text_lines.specs.Writing.{lines_from, Puts}
use Rattle.text_lines.proofs.put_lines.Given as goal

-- the first i lines are written, up to `next`
abbrev pub invariant-loop-i : goal.invariant-loop-i
invariant-loop-i l = Puts (bytes_of (lines_from l.letter l.n l.numbers l.k l.i)) l.fn.out l.at l.next l.out
