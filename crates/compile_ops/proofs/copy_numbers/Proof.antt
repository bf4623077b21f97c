-- `compile_ops::copy_numbers` meets its contract. The invariant: the numbers passed are copied, and nothing else has changed; the places that are read and
-- those that are written do not meet.
-- Assumes nothing.
use mathlib.Core.Path.{◌≡◌, refl, ap, ◌∙◌}
use Prim.Native.Nat.{ℕ, ◌-◌, ◌≤◌}
use native.Mathlib.Omega.{arith}
use lib.ListN.{length, take, drop}
use lib.Seq.{sets, length-sets}
use Rattle.compiling.proofs.OpTables.{copy_more}
use Rattle.compile_ops.proofs.copy_numbers.Statement.{statement}
use Rattle.compile_ops.proofs.copy_numbers.Tie as tie

abbrev invariant-loop : tie.invariant-loop-i
invariant-loop ops₀ from to count i₀ ops i = (ops ≡ sets ops₀ to (take i (drop from ops₀))) × (i ≤ count)

abbrev decreases-loop : tie.decreases-loop-i
decreases-loop ops₀ from to count i₀ ops i = count - i

loop-holds : tie.Need-loop-i-init invariant-loop decreases-loop
loop-holds c = (refl, omega arith)

add-word-at : tie.Need-overflow_add-from invariant-loop decreases-loop
add-word-at c = omega (arith, c.requires.0, c.well_formed.0.0, c.loop-i-test.true)

word-at-requires : tie.Need-word_at-word-requires invariant-loop decreases-loop
word-at-requires c κs = tt

add-put-word : tie.Need-overflow_add-to invariant-loop decreases-loop
add-put-word c =
    omega (
      arith,
      c.requires.1,
      c.well_formed.0.0,
      c.loop-i-test.true,
    )

put-word-requires : tie.Need-put_word-requires invariant-loop decreases-loop
put-word-requires c κs = tt

add-i : tie.Need-overflow_step-i invariant-loop decreases-loop
add-i c = omega (arith, c.loop-i-test.true, c.ranges.count)

loop-less : tie.Need-loop-i-smaller invariant-loop decreases-loop
loop-less c = omega (arith, c.loop-i-test.true)

loop-again : tie.Need-loop-i-preserved invariant-loop decreases-loop
loop-again c =
    let a = c.args in (
      copy_more a.ops.now a.from a.to a.count c.requires.0 c.requires.2 c.loop-i.ops c.put_word.new.s c.loop-i.i
          c.word_at-word.result c.loop-i-test.true c.loop-i.invariant.0
          c.word_at-word.ensures c.put_word.ensures,
      omega (arith, c.loop-i-test.true),
    )

same_length : tie.Need-shape_of-ops invariant-loop decreases-loop
same_length c =
    let a = c.args in
    ap length c.loop-i.invariant.0 ∙ length-sets a.ops.now a.to (take c.loop-i.i (drop a.from a.ops.now))

returns : tie.Need-returns invariant-loop decreases-loop
returns c =
    let a = c.args in
    let e : c.loop-i.i ≡ a.count = omega (arith, c.loop-i.invariant.1, c.loop-i-test.false) in
    c.loop-i.invariant.0 ∙ ap (λ (x : ℕ). sets a.ops.now a.to (take x (drop a.from a.ops.now))) e

pub copy_numbers_spec : {M : Type 1} → statement M
copy_numbers_spec =
    tie.close
    (tie.spec
    invariant-loop
    decreases-loop
    loop-holds
    add-word-at
    word-at-requires
    add-put-word
    put-word-requires
    add-i
    loop-less
    loop-again
    same_length
    returns)
