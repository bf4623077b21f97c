-- `compile_lists::write_pairs` meets its contract. The invariant: the numbers of the finished ones among the rows passed stand at the front, and the rest is as
-- it was.
-- Assumes nothing.
use mathlib.Core.Path.{sym, ◌∙◌}
use Prim.Native.Nat.{◌-◌}
use native.Mathlib.Omega.{arith}
use Rattle.words.proofs.Lists.{appending_length}
use Rattle.compiling.proofs.OpTables.{WritingPairs, pairs_none, pairs_room, pairs_finished, pairs_never, pairs_all}
use borrow.Author.Rules.{rules}
use Rattle.compile_lists.proofs.write_pairs.Statement.{statement}
use Rattle.compile_lists.proofs.write_pairs.Tie as tie
use Rattle.compile_lists.proofs.write_pairs.Lts.{then-get-eq2, else-get-eq2}

abbrev invariant-loop : tie.invariant-loop-k
invariant-loop work n m pairs₀ end₀ k₀ pairs end k = WritingPairs n work pairs₀ pairs end k

abbrev decreases-loop : tie.decreases-loop-k
decreases-loop work n m pairs₀ end₀ k₀ pairs end k = n - k

loop-holds : tie.Need-loop-k-init invariant-loop decreases-loop
loop-holds c =
    let a = c.args in
    pairs_none a.n a.work.now a.pairs.now

get-requires : tie.Need-get-requires invariant-loop decreases-loop
get-requires c κs = search rules

put-pair-requires : tie.Need-put_pair-requires invariant-loop decreases-loop
put-pair-requires c κs =
    let h = c.loop-k-test.true in (
      omega (arith, c.requires.0.encoded.ascending.few),
      c.requires.0.encoded.ascending.left c.loop-k.k h,
      pairs_room c.args.n c.args.m c.args.work.now c.requires.0 c.args.pairs.now c.loop-k.pairs c.loop-k.end c.loop-k.k c.loop-k.invariant
          h c.requires.1,
    )

add-end : tie.Need-overflow_add-end invariant-loop decreases-loop
add-end c =
    omega (arith, c.loop-k.invariant.few, c.loop-k-test.true, c.requires.0.encoded.ascending.few)

add-k : tie.Need-overflow_step-k invariant-loop decreases-loop
add-k c = omega (arith, c.loop-k-test.true, c.ranges.n)

loop-less : tie.Need-loop-k-smaller invariant-loop decreases-loop
loop-less c = omega (arith, c.loop-k-test.true)

loop-again : tie.Need-loop-k-preserved invariant-loop decreases-loop
loop-again c =
    let h = c.loop-k-test.true in
    let g = c.get.ensures in
    elim c.if-get-eq2.branch [
      | then-get-eq2 w ↦
          pairs_finished c.args.n c.args.m c.args.work.now c.requires.0 c.args.pairs.now c.loop-k.pairs c.loop-k.end c.loop-k.k
          c.loop-k.invariant h c.requires.1 c.if-get-eq2.pairs c.if-get-eq2.end (sym g ∙ w.if-get-eq2.true) (w.pairs-is ∙ w.put_pair.ensures) w.end-is
      | else-get-eq2 w ↦
          pairs_never c.args.n c.args.m c.args.work.now c.requires.0 c.args.pairs.now c.loop-k.pairs c.loop-k.end c.loop-k.k
          c.loop-k.invariant h c.if-get-eq2.pairs c.if-get-eq2.end (λ e. w.if-get-eq2.false (g ∙ e)) w.pairs-is w.end-is
    ]

same_length : tie.Need-shape_of-pairs invariant-loop decreases-loop
same_length c =
    appending_length c.args.pairs.now c.loop-k.invariant.appended

returns : tie.Need-returns invariant-loop decreases-loop
returns c =
    pairs_all c.args.n c.args.m c.args.work.now c.requires.0 c.args.pairs.now c.loop-k.pairs c.loop-k.end
    c.loop-k.k c.loop-k.invariant c.loop-k-test.false c.requires.2

pub write_pairs_spec : {M : Type 1} → statement M
write_pairs_spec =
    tie.close
    (tie.spec
    invariant-loop
    decreases-loop
    loop-holds
    get-requires
    put-pair-requires
    add-end
    add-k
    loop-less
    loop-again
    same_length
    returns)
