-- The loop's invariant is `Standing` of proofs/Searching: no removal below i alters anything.
use Rattle.blame_search.proofs.Searching.{Standing}
use Rattle.blame_search.proofs.search.Given as goal

abbrev pub invariant-loop-i : goal.invariant-loop-i
invariant-loop-i l =
    Standing l.instructions l.kerns l.entries l.numbers l.word l.options l.pairs l.ops l.fn.pairs_without l.fn.ops_without l.fn.edited l.fn.work
    l.pairs_without l.ops_without l.edited l.work l.i
