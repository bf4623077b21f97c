-- The ops of a font whose rows were counted: there is room for them, and what the rows say of them is what the font's definitions say.
-- Assumes nothing.
use mathlib.Core.Path.{◌≡◌, sym, ap, ◌∙◌, subst}
use mathlib.Core.List.{List}
use Prim.Native.Nat.{ℕ, ◌*◌, ◌≤◌}
use native.Mathlib.Omega.{arith}
use lib.IntN.{ℤ, pos}
use lib.Dec.{leb}
use lib.ListN.{length, replicate, length-replicate}
use borrow.Author.Tests.{leb-true}
use Rattle.lang.specs.Every.{both}
use Rattle.lang.specs.Checks.{or_else}
use Rattle.lang.specs.Answers.{padded}
use Rattle.lang.proofs.Every.{both_right}
use Rattle.lang.proofs.Refusals.{or_else_none, unless_none}
use Rattle.reading.specs.Loops.{finished}
use Rattle.fonts.specs.Fonts.{Font}
use Rattle.fonts.specs.Numbers.{ops_before, ops_table}
use Rattle.fonts.specs.Compiled.{Room, room_of, total_ops, font_ops, long_refusal, pairs_refusal, kern_refusal, ops_refusal, loops_refusal, tables_refusal, build_refusal}
use Rattle.compiling.specs.declared.CountedFont.{CountedFont}
use Rattle.compiling.specs.declared.CountedFont.TheVariants.{Sizes, Refused}
use Rattle.compiling.specs.OpRows.{op_total, ops_written}
use Rattle.compile_op_counts.specs.Counting.{FontCounted, CountsBy}
use Rattle.compile_op_counts.proofs.CountedFonts.{counted_reply_lem}
use Rattle.compile_ops.specs.WritesOps.{OpsBy, WritesOps}

-- a font that is not refused has room for its ops
room_for : (f : Font) (room : Room) → build_refusal f room ≡ 0 → 2 * total_ops f ≤ room.ops
room_for f room e =
    let a = (or_else_none (long_refusal f.instructions) (tables_refusal f room) e).1 in
    let b = (or_else_none (pairs_refusal f room) (or_else (kern_refusal f) (or_else (ops_refusal f room) (loops_refusal f room))) a).1 in
    let c = (or_else_none (kern_refusal f) (or_else (ops_refusal f room) (loops_refusal f room)) b).1 in
    let d = (or_else_none (ops_refusal f room) (loops_refusal f room) c).0 in
    let t = unless_none 13 (both (leb (total_ops f) 2147483647) (leb (2 * total_ops f) room.ops)) d in
    leb-true (2 * total_ops f) room.ops (both_right (leb (total_ops f) 2147483647) (leb (2 * total_ops f) room.ops) t)

module _ (f : Font) (w : List ℕ) (n m r : ℕ) (g : FontCounted f w n m r) where
  total_is : op_total n w ≡ total_ops f
  total_is =
      let p = g.pairs_are in
      let q = g.rules_are in
      let k = g.count_is in
      λ i. ops_before (finished (q i) (p i)) (p i) (k i)

  ops_are : ops_written n w ≡ font_ops f
  ops_are =
      let p = g.pairs_are in
      let q = g.rules_are in
      let k = g.count_is in
      λ i. ops_table (finished (q i) (p i)) (p i) (k i)

module _ (f : Font) (pairRoom loopRoom : ℕ) (ops z : List ℤ) (w w₁ : List ℕ) (blank : z ≡ replicate (length ops) (pos 0)) where
  long : length z ≡ length ops
  long = ap length blank ∙ length-replicate (length ops) (pos 0)

  counted : (c : CountedFont) → CountsBy f (room_of pairRoom (length z) loopRoom (length w)) w w₁ c →
      CountsBy f (room_of pairRoom (length ops) loopRoom (length w)) w w₁ c
  counted c = subst (λ (k : ℕ). CountsBy f (room_of pairRoom k loopRoom (length w)) w w₁ c) long

  writes : (ops' : List ℤ) (c : CountedFont) → CountsBy f (room_of pairRoom (length z) loopRoom (length w)) w w₁ c → OpsBy f ops ops' c →
      WritesOps f pairRoom loopRoom ops w ops' w₁ c
  writes ops' c p o =
      let d = counted c p in
      record { reply = counted_reply_lem f (room_of pairRoom (length ops) loopRoom (length w)) w w₁ c d; written = o; rows = d }

  pub unfit : (k : ℕ) → CountsBy f (room_of pairRoom (length z) loopRoom (length w)) w w₁ (Refused k) → WritesOps f pairRoom loopRoom ops w z w₁ (Refused k)
  unfit k p = writes z (Refused k) p blank

  module _ (n m total r : ℕ) (p : CountsBy f (room_of pairRoom (length z) loopRoom (length w)) w w₁ (Sizes n m total r)) where
    pub op_room : 2 * op_total n w₁ ≤ length z
    op_room = omega (arith, room_for f (room_of pairRoom (length z) loopRoom (length w)) p.0, total_is f w₁ n m r p.4)

    pub blank_still : z ≡ replicate (length z) (pos 0)
    blank_still = blank ∙ ap (λ (k : ℕ). replicate k (pos 0)) (sym long)

    pub written : (ops' : List ℤ) → ops' ≡ padded (pos 0) (length z) (ops_written n w₁) → WritesOps f pairRoom loopRoom ops w ops' w₁ (Sizes n m total r)
    written ops' e =
        writes ops' (Sizes n m total r) p (e ∙ (let a = long in let b = ops_are f w₁ n m r p.4 in λ i. padded (pos 0) (a i) (b i)))
