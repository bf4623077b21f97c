-- Where a file is answered with a font, compile accepts the font that it means, and demand 3 holds of it. The statements are specs/Purpose.
-- Assumes nothing.
use mathlib.Core.Path.{◌≡◌, refl, sym, ap, subst, ◌∙◌}
use mathlib.Core.List.{List, [], ◌∷◌, Memᴰ}
use Prim.Native.Nat.{ℕ, zero, suc, ◌+◌, ◌*◌, ◌<◌}
use native.Mathlib.Omega.{arith}
use lib.IntN.{ℤ, pos}
use lib.ListN.{length, get_or, take, drop}
use lib.Seq.{get_or-take}
use Rattle.lang.specs.Answers.{reply_of}
use Rattle.lang.proofs.Refusals.{second_is, or_else_none}
use Rattle.reading.specs.Depth.{Pair}
use Rattle.reading.proofs.Steps.{more_not_done}
use Rattle.fonts.specs.declared.Compiled.TheVariants.{Tables}
use Rattle.fonts.specs.Numbers.{left_number, loop_numbers}
use Rattle.fonts.specs.Compiled.{room_in, sized_refusal, compile_refusal, font_counts, ListsWritten, Compiles}
use Rattle.captions.specs.Demand3.{Demand3}
use Rattle.captions.proofs.Theorems.{demand_3}
use Rattle.file_fonts.specs.Meant.{meant_font, read_font_refusal}
use Rattle.file_font.proofs.Reading.{taken_known}
use Rattle.font_checks.specs.declared.Checked.TheVariants as Answer
use Rattle.font_checks.specs.Checked.{check_refusal, ChecksFile}
use Rattle.font_checks.specs.Purpose.{NoLoopFile, NamedLoop, LoopFile}

-- ---- compile accepts the font that the file means, with neither a size nor a magnification

module _ (file : List ℕ) (is ks es ls pairs ops loops : List ℤ) (work : List ℕ) (i k e n : ℕ) (b f d : ℤ) (p o l : ℕ)
    (is' ks' es' ls' pairs' ops' loops' : List ℤ) (work' : List ℕ)
    (c : ChecksFile file is ks es ls pairs ops loops work (Answer.Font i k e n b f d p o l) is' ks' es' ls' pairs' ops' loops' work') where
  checked_compiles : Compiles (meant_font file) 0 pairs ops loops work (Tables p o l) pairs' ops' loops' work'
  checked_compiles =
      let t = taken_known (check_refusal file is ks es ls pairs ops loops work) _ _ c.answer in
      let v : pos p ∷ pos o ∷ pos l ∷ [] ≡ font_counts (meant_font file) = ap (λ (xs : List ℤ). drop 7 xs) t.1 in
      let room = room_in pairs ops loops work in
      let r = (or_else_none (read_font_refusal file (length is) (length ks) (length es) (length ls)) (compile_refusal (meant_font file) room) t.0).1 in
      let z : sized_refusal (meant_font file) room 0 ≡ 0 = second_is (compile_refusal (meant_font file) room) 0 r in
      record {
        answer = ap (λ (xs : List ℤ). reply_of 0 xs) v ∙ ap (λ (m : ℕ). reply_of m (font_counts (meant_font file))) (sym z);
        lists = subst (λ (m : ℕ). ListsWritten (meant_font file) m pairs ops loops pairs' ops' loops') (t.0 ∙ sym z) c.tables;
        cleared = c.cleared;
      }

  checked_demand : Demand3 (meant_font file) l (take (6 * p) pairs') (take (2 * o) ops') (take (2 * l) loops')
  checked_demand = demand_3 (meant_font file) 0 pairs ops loops work p o l pairs' ops' loops' work' checked_compiles

-- ---- no loop

pub no_loop_file : NoLoopFile
no_loop_file file is ks es ls pairs ops loops work i k e n b f d p o is' ks' es' ls' pairs' ops' loops' work' c =
    let q = checked_demand file is ks es ls pairs ops loops work i k e n b f d p o 0 is' ks' es' ls' pairs' ops' loops' work' c in
    record {
      demand = q;
      every_ends = q.no_loop.0 refl;
      none_never = λ x y h. let s = q.no_loop.0 refl x y in more_not_done (sym (h s.steps) ∙ s.ends);
    }

-- ---- loops

-- two places on
two_on : (x y : ℤ) (xs : List ℤ) (i j : ℕ) → j ≡ suc (suc i) → get_or (x ∷ y ∷ xs) j (pos 0) ≡ get_or xs i (pos 0)
two_on x y xs i j e = rw e

-- place j of a loop list is one of its pairs
loop_at : (qs : List Pair) (j : ℕ) → j < length qs →
    (q : Pair) × Memᴰ q qs × (get_or (loop_numbers qs) (2 * j) (pos 0) ≡ left_number q.left)
    × (get_or (loop_numbers qs) (2 * j + 1) (pos 0) ≡ pos q.right)
unfolding loop_numbers
loop_at [] j h = absurd (omega (arith, h))
loop_at (q ∷ qs) zero h = (q, Memᴰ.head refl, refl, refl)
loop_at (q ∷ qs) (suc j) h =
    let r = loop_at qs j (omega (arith, h)) in
    let a : 2 * suc j ≡ suc (suc (2 * j)) = omega arith in
    let b : 2 * suc j + 1 ≡ suc (suc (2 * j + 1)) = omega arith in (
      r.0,
      Memᴰ.tail r.1,
      two_on _ _ (loop_numbers qs) (2 * j) (2 * suc j) a ∙ r.2,
      two_on _ _ (loop_numbers qs) (2 * j + 1) (2 * suc j + 1) b ∙ r.3,
    )

-- the loop list that demand 3 speaks of is the front of one
named : (file : List ℕ) (l : ℕ) (pairs ops loops : List ℤ) → Demand3 (meant_font file) l pairs ops (take (2 * l) loops) → (j : ℕ) → j < l →
    NamedLoop file loops j
named file l pairs ops loops d j h =
    let r = loop_at d.reported j (omega (arith, h, d.loop_list_lem.1)) in
    let n = d.reported_never r.0 r.1 in
    let s : (m : ℕ) → m < 2 * l → get_or loops m (pos 0) ≡ get_or (loop_numbers d.reported) m (pos 0) =
    λ m g. sym (get_or-take (2 * l) loops m (pos 0) g) ∙ ap (λ (xs : List ℤ). get_or xs m (pos 0)) d.loop_list_lem.0 in
    record {
      left = r.0.left;
      right = r.0.right;
      left_stands_lem = s (2 * j) (omega (arith, h)) ∙ r.2;
      right_stands = s (2 * j + 1) (omega (arith, h)) ∙ r.3;
      left_fits = n.0;
      right_fits = n.1;
      never = n.2;
    }

pub loop_file : LoopFile
loop_file file is ks es ls pairs ops loops work i k e n b f d p o l is' ks' es' ls' pairs' ops' loops' work' c =
    let q = checked_demand file is ks es ls pairs ops loops work i k e n b f d p o l is' ks' es' ls' pairs' ops' loops' work' c in
    (q, λ j h. named file l (take (6 * p) pairs') (take (2 * o) ops') loops' q j h)
