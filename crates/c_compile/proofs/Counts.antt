-- A font compiled, with its counts: refused by compile, refused by 15, or taken.
-- Assumes nothing.
use mathlib.Core.Path.{◌≡◌, refl, sym, ap, ◌∙◌}
use mathlib.Core.List.{List, [], ◌∷◌}
use Prim.Native.Nat.{ℕ, zero, suc, ◌≤◌, ◌<◌}
use native.Mathlib.Omega.{arith}
use lib.IntN.{ℤ, pos}
use lib.ListN.{length, replicate}
use lib.Seq.{sets}
use Rattle.lang.specs.Checks.{lower}
use Rattle.lang.specs.Answers.{room_refusal}
use Rattle.lang.proofs.Refusals.{room_is, room_short, lower_none}
use Rattle.lang.proofs.Filled.{refused_list}
use Rattle.fonts.specs.declared.Compiled.TheVariants.{Tables, Refused}
use Rattle.fonts.specs.Fonts.{Font}
use Rattle.fonts.specs.Compiled.{Room, room_in, sized_refusal, font_table, font_ops, font_loops, table_pairs, total_ops, loops_of_font}
use Rattle.fonts.specs.Compiled.{ListsWritten, Compiles}
use Rattle.c_compile.specs.Counts.{counts_of, counts_refusal, CompilesCounts}
use Rattle.c_compile.proofs.Replies.{replied_refused, replied_taken}
use Rattle.c_states.proofs.Writing.{zeroed_length, written_front_lem}

-- lists that are zeros by one number are zeros by another
zeros_too : (f : Font) (m n : ℕ) {pairs ops loops pairs' ops' loops' : List ℤ} → (m ≡ 0 → ⊥) → (n ≡ 0 → ⊥) →
    ListsWritten f m pairs ops loops pairs' ops' loops' → ListsWritten f n pairs ops loops pairs' ops' loops'
zeros_too f zero n h k w = absurd (h refl)
zeros_too f (suc m) zero h k w = absurd (k refl)
zeros_too f (suc m) (suc n) h k w = record { table = w.table; «ops_table_lem» = w.«ops_table_lem»; «loop_list_lem» = w.«loop_list_lem» }

module _ (f : Font) (size : ℕ) (pairs ops loops : List ℤ) (work counts : List ℕ) (pairs' ops' loops' : List ℤ) (work' zeros : List ℕ)
    (blank : zeros ≡ replicate (length counts) 0) where
  abbrev room : Room
  room = room_in pairs ops loops work

  abbrev Compiled·as : ℕ → List ℤ → List ℤ → List ℤ → List ℕ → Type 0
  Compiled·as r p o l c = CompilesCounts f size pairs ops loops work counts r p o l work' c

  same_room : length zeros ≡ length counts
  same_room = zeroed_length 0 (length counts) blank

  pub counts_refused : (n : ℕ) → Compiles f size pairs ops loops work (Refused n) pairs' ops' loops' work' → (r : ℕ) →
      r ≡ lower n (room_refusal 3 (length zeros)) → Compiled·as r pairs' ops' loops' zeros
  counts_refused n h r g =
      let m = sized_refusal f room size in
      let q = replied_refused m n (pos (table_pairs f)) (pos (total_ops f) ∷ pos (length (loops_of_font f)) ∷ []) h.answer in
      let e : r ≡ counts_refusal f size room (length counts) = g ∙ (λ i. lower (q.0 i) (room_refusal 3 (same_room i))) in
      let k : r ≡ 0 → ⊥ = λ z. q.1 (q.0 ∙ (lower_none m (room_refusal 3 (length counts)) (sym e ∙ z)).0) in
      record {
        number = e;
        lists = zeros_too f m (counts_refusal f size room (length counts)) (λ z. q.1 (q.0 ∙ z)) (λ z. k (e ∙ z)) h.lists;
        cleared = h.cleared;
        counted = refused_list 0 (length counts) (counts_of f) e k blank;
      }

  module _ (p o l : ℕ) (h : Compiles f size pairs ops loops work (Tables p o l) pairs' ops' loops' work') where
    taken : (sized_refusal f room size ≡ 0) × (p ≡ table_pairs f) × (o ≡ total_ops f) × (l ≡ length (loops_of_font f))
    taken =
        let q = replied_taken (sized_refusal f room size) (pos (table_pairs f)) (pos (total_ops f) ∷ pos (length (loops_of_font f)) ∷ []) h.answer in
        let v = q.1 in
        let a : p ≡ table_pairs f = cc in
        let b : o ≡ total_ops f = cc in
        let c : l ≡ length (loops_of_font f) = cc in
        (q.0, a, b, c)

    -- nothing is refused but by the counts
    by-counts : counts_refusal f size room (length counts) ≡ room_refusal 3 (length counts)
    by-counts = ap (λ (m : ℕ). lower m (room_refusal 3 (length counts))) taken.0

    pub counts_short : length zeros < 3 → (p' o' l' : List ℤ) → p' ≡ replicate (length pairs') (pos 0) → o' ≡ replicate (length ops') (pos 0) →
        l' ≡ replicate (length loops') (pos 0) →
        length pairs' ≡ length pairs → length ops' ≡ length ops → length loops' ≡ length loops → Compiled·as 15 p' o' l' zeros
    counts_short s p' o' l' zp zo zl kp ko kl =
        let n : 15 ≡ counts_refusal f size room (length counts) = sym (by-counts ∙ room_short 3 (length counts) (omega (arith, same_room, s))) in
        record {
          number = n;
          lists =
              record {
                table = refused_list (pos 0) (length pairs) (font_table f) n (λ z. omega (arith, z)) (zp ∙ ap (λ (j : ℕ). replicate j (pos 0)) kp);
                «ops_table_lem» = refused_list (pos 0) (length ops) (font_ops f) n (λ z. omega (arith, z)) (zo ∙ ap (λ (j : ℕ). replicate j (pos 0)) ko);
                «loop_list_lem» = refused_list (pos 0) (length loops) (font_loops f) n (λ z. omega (arith, z)) (zl ∙ ap (λ (j : ℕ). replicate j (pos 0)) kl);
              };
          cleared = h.cleared;
          counted = refused_list 0 (length counts) (counts_of f) n (λ z. omega (arith, z)) blank;
        }

    pub counts_taken : 3 ≤ length zeros → (counts' : List ℕ) → counts' ≡ sets zeros 0 (p ∷ o ∷ l ∷ []) → Compiled·as 0 pairs' ops' loops' counts'
    counts_taken s counts' e =
        let t = taken in
        let n : counts_refusal f size room (length counts) ≡ 0 = by-counts ∙ room_is 3 (length counts) (omega (arith, same_room, s)) in
        record {
          number = sym n;
          lists = rw n (rw t.0 at h.lists);
          cleared = h.cleared;
          counted =
              written_front_lem 0 (length counts) (counts_of f) n blank (omega (arith, same_room, s)) (e ∙ (λ j. sets zeros 0 (t.1 j ∷ t.2 j ∷ t.3 j ∷ [])));
        }
