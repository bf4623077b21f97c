-- Compiling as a whole: a font that is refused by 1 to 5, and one that is not, by the size's number.
-- Assumes nothing.
use mathlib.Core.Path.{◌≡◌, refl, sym, ap, ◌∙◌, subst}
use mathlib.Core.List.{List}
use Prim.Native.Nat.{ℕ, zero, suc}
use lib.IntN.{ℤ, pos}
use lib.ListN.{length, replicate}
use borrow.Author.Tests.{le-leb}
use Rattle.lang.specs.Checks.{or_else, program_refusal, kerns_refusal, entries_refusal, absent_refusal, design_refusal}
use Rattle.lang.specs.Records.{count}
use Rattle.lang.specs.Answers.{reply_of}
use Rattle.lang.proofs.Refusals.{second_none, or_else_none, program_size}
use Rattle.fonts.specs.declared.Compiled.{Compiled}
use Rattle.fonts.specs.declared.Compiled.TheVariants.{Tables, Refused}
use Rattle.fonts.specs.Fonts.{Font, font_of}
use Rattle.fonts.specs.Compiled.{room_in, long_refusal, font_refusal, tables_refusal, build_refusal, compile_refusal, compiled_reply, font_counts, ListsWritten}
use Rattle.fonts.specs.Compiled.{sized_refusal, Compiles}
use Rattle.fonts.proofs.Replies.{taken_unlike}
use Rattle.compile_lists.specs.Builds.{Builds}
use Rattle.c_values.specs.Telling.{kept}
use Rattle.compile.specs.Late.{late_answer}

-- the same of the font as it was lent
pub number_as : (s kerns entries : List ℤ) (b b' l l' d d' : ℤ) (k : ℕ) → k ≡ font_refusal (font_of s kerns entries b l d) → b ≡ b' → l ≡ l' → d ≡ d' →
    k ≡ font_refusal (font_of s kerns entries b' l' d')
number_as s kerns entries b b' l l' d d' k e x y z = e ∙ (λ i. font_refusal (font_of s kerns entries (x i) (y i) (z i)))

module _ (f : Font) (n : ℕ) (ps os ls : List ℤ) (work : List ℕ) where
  abbrev z : List ℤ → List ℤ
  z xs = replicate (length xs) (pos 0)

  refused_by : (k m : ℕ) → m ≡ k → (k ≡ 0 → ⊥) → (compiled_reply (Refused k) ≡ reply_of m (font_counts f)) × ListsWritten f m ps os ls (z ps) (z os) (z ls)
  refused_by zero m e h = absurd (h refl)
  refused_by (suc k) m e h = rw e (refl, record { table = refl; ops_table_lem = refl; loop_list_lem = refl })

  pub refused : (k : ℕ) → k ≡ font_refusal f → (k ≡ 0 → ⊥) → (ps' os' ls' : List ℤ) (work' : List ℕ) → ps' ≡ z ps → os' ≡ z os → ls' ≡ z ls →
      work' ≡ replicate (length work) 0 → Compiles f n ps os ls work (Refused k) ps' os' ls' work'
  refused k e h ps' os' ls' work' p o l w =
      let q = refused_by k (sized_refusal f (room_in ps os ls work) n)
      (ap (λ (x : ℕ). or_else (or_else x (tables_refusal f (room_in ps os ls work))) n) (sym e) ∙ first k h) h in
      record { answer = q.0; lists = rw (p, o, l) q.1; cleared = w }
    where
      first : (j : ℕ) → (j ≡ 0 → ⊥) → or_else (or_else j (tables_refusal f (room_in ps os ls work))) n ≡ j
      first zero i = absurd (i refl)
      first (suc j) i = refl

  -- a font that is not refused by 1 to 5 has at most 32,767 instructions, and so what the stages refuse is what compile refuses
  same_number : 0 ≡ font_refusal f → build_refusal f (room_in ps os ls work) ≡ compile_refusal f (room_in ps os ls work)
  same_number e =
      let t = tables_refusal f (room_in ps os ls work) in
      let edges = or_else (absent_refusal 255 f.boundary) (or_else (absent_refusal 65535 f.left) (design_refusal f.design)) in
      let q = (or_else_none (program_refusal f.instructions) (or_else (kerns_refusal f.kerns) (or_else (entries_refusal 65535 f.entries) edges)) (sym e)).0 in
      let l : long_refusal f.instructions ≡ 0 = rw (le-leb (count f.instructions) 32767 (program_size f.instructions q)) in
      ap (λ (x : ℕ). or_else x t) (l ∙ e)

  module _ (r : Compiled) (ps' os' ls' : List ℤ) (kp : length ps' ≡ length ps) (ko : length os' ≡ length os) (kl : length ls' ≡ length ls) where
    -- the size's number after any other
    late-reply : (m k : ℕ) → compiled_reply r ≡ reply_of m (font_counts f) → compiled_reply (late_answer k r) ≡ reply_of (or_else m k) (font_counts f)
    late-reply m zero e = e ∙ ap (λ (x : ℕ). reply_of x (font_counts f)) (sym (second_none m))
    late-reply m (suc k) e = by m r e
      where
        by : (j : ℕ) (t : Compiled) → compiled_reply t ≡ reply_of j (font_counts f) →
            compiled_reply (late_answer (suc k) t) ≡ reply_of (or_else j (suc k)) (font_counts f)
        by zero (Tables p o l) q = refl
        by zero (Refused j) q = taken_unlike (sym q)
        by (suc j) (Tables p o l) q = taken_unlike q
        by (suc j) (Refused i) q = q

    late-lists : (m k : ℕ) → ListsWritten f m ps os ls ps' os' ls' →
        ListsWritten f (or_else m k) ps os ls (kept k (pos 0) ps') (kept k (pos 0) os') (kept k (pos 0) ls')
    late-lists m zero w = rw (second_none m) w
    late-lists zero (suc k) w = rw (kp, ko, kl) (record { table = refl; ops_table_lem = refl; loop_list_lem = refl })
    late-lists (suc m) (suc k) w = rw (kp, ko, kl) (record { table = refl; ops_table_lem = refl; loop_list_lem = refl })

    pub compiled : (work' : List ℕ) → 0 ≡ font_refusal f → Builds f ps os ls work r ps' os' ls' work' → (t : Compiled) → t ≡ late_answer n r →
        (pt ot lt : List ℤ) → pt ≡ kept n (pos 0) ps' → ot ≡ kept n (pos 0) os' → lt ≡ kept n (pos 0) ls' → Compiles f n ps os ls work t pt ot lt work'
    compiled work' e b t a pt ot lt x y w =
        let m = same_number e in
        let c = compile_refusal f (room_in ps os ls work) in
        record {
          answer = ap compiled_reply a ∙ late-reply c n (b.answer ∙ ap (λ (x : ℕ). reply_of x (font_counts f)) m);
          lists = rw (x, y, w) (late-lists c n (subst (λ (x : ℕ). ListsWritten f x ps os ls ps' os' ls') m b.lists));
          cleared = b.cleared;
        }
