-- The stages put together: what is refused, and what the lists hold, of a font whose rows were counted and whose ops were written.
-- Assumes nothing.
use mathlib.Core.Path.{◌≡◌, refl, sym, ap, ◌∙◌}
use mathlib.Core.List.{List, [], ◌∷◌}
use Prim.Native.Nat.{ℕ, zero, suc, ◌*◌, ◌/◌, ◌<◌, ◌≤◌}
use native.Mathlib.Omega.{arith}
use lib.IntN.{ℤ, pos}
use lib.ListN.{length, replicate, length-replicate}
use Rattle.words.specs.Lists.{tabulate}
use Rattle.lang.specs.Checks.{or_else}
use Rattle.lang.specs.Answers.{padded, reply_of}
use Rattle.lang.proofs.Refusals.{or_else_none, room_fits}
use Rattle.fonts.specs.declared.Compiled.TheVariants.{Tables, Refused}
use Rattle.fonts.specs.Fonts.{Font}
use Rattle.fonts.specs.Numbers.{loop_numbers}
use Rattle.fonts.specs.Compiled.{Room, room_of, room_in, loops_of_font, long_refusal, pairs_refusal, kern_refusal, ops_refusal, loops_refusal, tables_refusal}
use Rattle.fonts.specs.Compiled.{build_refusal, compiled_reply, font_counts, ListsWritten}
use Rattle.compiling.specs.declared.CountedFont.TheVariants as counted
use Rattle.compiling.specs.Rows.{at, pair_at}
use Rattle.compiling.specs.OpRows.{pairs_written}
use Rattle.compiling.proofs.LoopLaws.{listed_count}
use Rattle.compiling.proofs.TableCount.{table_written}
use Rattle.compile_ops.specs.WritesOps.{WritesOps}
use Rattle.compile_lists.specs.Builds.{Builds}

-- a font that is not refused has room for its loops
loop_room_for : (f : Font) (room : Room) → build_refusal f room ≡ 0 → 2 * length (loops_of_font f) ≤ room.loops
loop_room_for f room e =
    let a = (or_else_none (long_refusal f.instructions) (tables_refusal f room) e).1 in
    let b = (or_else_none (pairs_refusal f room) (or_else (kern_refusal f) (or_else (ops_refusal f room) (loops_refusal f room))) a).1 in
    let c = (or_else_none (kern_refusal f) (or_else (ops_refusal f room) (loops_refusal f room)) b).1 in
    room_fits (2 * length (loops_of_font f)) room.loops (or_else_none (ops_refusal f room) (loops_refusal f room) c).1

-- the pair table and the loop list were zeroed
module _ (f : Font) (ps os ls zp zl : List ℤ) (w w₁ : List ℕ) (bp : zp ≡ replicate (length ps) (pos 0)) (bl : zl ≡ replicate (length ls) (pos 0)) (os' : List ℤ)
  where
    pair-long : length zp ≡ length ps
    pair-long = ap length bp ∙ length-replicate (length ps) (pos 0)

    loop-long : length zl ≡ length ls
    loop-long = ap length bl ∙ length-replicate (length ls) (pos 0)

    pub pairs_blank : zp ≡ replicate (length zp) (pos 0)
    pairs_blank = bp ∙ ap (λ (k : ℕ). replicate k (pos 0)) (sym pair-long)

    pub loops_blank : zl ≡ replicate (length zl) (pos 0)
    loops_blank = bl ∙ ap (λ (k : ℕ). replicate k (pos 0)) (sym loop-long)

    room_is : room_of (length zp) (length os) (length zl) (length w) ≡ room_in ps os ls w
    room_is = let a = pair-long in let b = loop-long in λ i. room_of (a i) (length os) (b i) (length w)

    unfit-by : (k j : ℕ) → j ≡ k → 0 < k → os' ≡ replicate (length os) (pos 0) →
        (compiled_reply (Refused k) ≡ reply_of j (font_counts f)) × ListsWritten f j ps os ls zp os' zl
    unfit-by zero j e h o = absurd (omega arith)
    unfit-by (suc k) j e h o = rw e (refl, record { table = bp; ops_table_lem = o; loop_list_lem = bl })

    pub unfit : (k : ℕ) → WritesOps f (length zp) (length zl) os w os' w₁ (counted.Refused k) → Builds f ps os ls w (Refused k) zp os' zl w₁
    unfit k p =
        let c = p.rows in
        let q = unfit-by k (build_refusal f (room_in ps os ls w)) (sym (ap (build_refusal f) room_is) ∙ c.0) c.1 p.written in
        record { answer = q.0; lists = q.1; cleared = c.2 }

    module _ (n m total r : ℕ) (p : WritesOps f (length zp) (length zl) os w os' w₁ (counted.Sizes n m total r)) where
      pub loop_room : 2 * r ≤ length zl
      loop_room = omega (arith, loop_room_for f (room_of (length zp) (length os) (length zl) (length w)) p.rows.0, listed_count r w₁ p.rows.4.loops_are)

      pub few : r ≤ 65792
      few = omega (arith, p.rows.4.few, p.rows.4.ready.encoded.ascending.few)

      pub built : (numbers : ℕ) (ps' ls' : List ℤ) (w₂ : List ℕ) → numbers ≡ length (pairs_written n w₁) → ps' ≡ padded (pos 0) (length zp) (pairs_written n w₁) →
          ls' ≡ padded (pos 0) (length zl) (loop_numbers (tabulate r (λ i. pair_at w₁ (at w₁ i 8)))) → w₂ ≡ replicate (length w₁) 0 →
          Builds f ps os ls w (Tables (numbers / 6) total r) ps' os' ls' w₂
      built numbers ps' ls' w₂ c a b z =
          let g = p.rows.4 in
          let e : build_refusal f (room_in ps os ls w) ≡ 0 = sym (ap (build_refusal f) room_is) ∙ p.rows.0 in
          let t = table_written f n w₁ g.pairs_are g.rules_are g.count_is in
          record {
            answer =
                rw e
                (let x = c ∙ ap length t in let y = p.rows.2 in let v = listed_count r w₁ g.loops_are in
                λ i. reply_of 0 (pos (x i / 6) ∷ pos (y i) ∷ pos (v i) ∷ []));
            lists =
                rw e
                (record {
                  table = a ∙ (let x = pair-long in λ i. padded (pos 0) (x i) (t i));
                  ops_table_lem = p.written;
                  loop_list_lem = b ∙ (let x = loop-long in let y = g.loops_are in λ i. padded (pos 0) (x i) (loop_numbers (y i)));
                });
            cleared = z ∙ ap (λ (k : ℕ). replicate k 0) p.rows.1;
          }
