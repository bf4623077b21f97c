-- Without a warning of kind 10 the repaired font has no loop, at any design size, and compile reports none.
-- Assumes nothing.
use mathlib.Core.Path.{◌≡◌, refl, sym, ap, ◌∙◌}
use mathlib.Core.List.{List, [], ◌∷◌, ◌++◌}
use Prim.Native.Nat.{ℕ, zero, suc, ◌-◌, ◌*◌, ◌/◌, ◌%◌}
use native.Mathlib.Omega.{arith}
use lib.IntN.{ℤ, pos}
use lib.ListN.{length, length-append, replicate}
use lib.Seq.{get_or_at}
use Rattle.lang.specs.Answers.{reply_of, list_of}
use Rattle.reading.specs.Depth.{Pair}
use Rattle.fonts.specs.declared.Compiled.TheVariants.{Tables}
use Rattle.fonts.specs.Fonts.{Font}
use Rattle.fonts.specs.Numbers.{left_number, loop_numbers}
use Rattle.fonts.specs.Compiled.{loops_of_font, font_loops, font_counts, sized_refusal, room_in, compiled_reply}
use Rattle.fonts.proofs.Replies.{values_known, taken_unlike}
use Rattle.fonts.proofs.Theorems.{loops_at_any_size}
use Rattle.repairs.specs.Repaired.{repaired_font}
use Rattle.repairs.specs.Warnings.{loop_warnings, repair_warnings}
use Rattle.repairs.specs.Purpose.{compiled_at, NoneOfKind, CompilesWithoutLoop, NoLoopAtAnySize}
use Rattle.repairs.proofs.Pushing.{repair_fours}

-- ---- no warning of kind 10 after others

no_tens : (xs : List ℤ) (ps : List Pair) → length xs % 4 ≡ 0 → NoneOfKind 10 (xs ++ loop_warnings ps) → ps ≡ []
unfolding loop_warnings
no_tens xs [] e h = refl
no_tens xs (p ∷ ps) e h =
    let ws = loop_warnings ps in
    let rest : List ℤ = left_number p.left ∷ pos p.right ∷ pos 0 ∷ ws in
    let at : length xs ≡ 4 * (length xs / 4) = omega arith in
    absurd (h (length xs / 4) (omega (arith, length-append xs (pos 10 ∷ rest))) (get_or_at xs (pos 10) rest (pos 0) (4 * (length xs / 4)) at))

-- ---- what compile reports of a font without loops

module _ (f : Font) (empty : loops_of_font f ≡ []) where
  numbers_none : font_loops f ≡ []
  unfolding loop_numbers
  numbers_none = ap loop_numbers empty

  counts_none : (n p o l : ℕ) → compiled_reply (Tables p o l) ≡ reply_of n (font_counts f) → l ≡ 0
  counts_none zero p o l e =
      let q = values_known e in
      let z : l ≡ length (loops_of_font f) = cc in
      z ∙ ap length empty
  counts_none (suc n) p o l e = taken_unlike e

  zeros : (n m : ℕ) → list_of n (pos 0) m (font_loops f) ≡ replicate m (pos 0)
  zeros zero m =
      let e : m - 0 ≡ m = omega arith in
      ap (λ (xs : List ℤ). xs ++ replicate (m - length xs) (pos 0)) numbers_none ∙ ap (λ (k : ℕ). replicate k (pos 0)) e
  zeros (suc n) m = refl

  without_loop : CompilesWithoutLoop f
  without_loop =
      record {
        none = numbers_none;
        reported =
            λ size pairs ops loops work r pairs' ops' loops' work' c.
            let n = sized_refusal f (room_in pairs ops loops work) size in
            record {
              counted = λ p o l e. counts_none n p o l (ap compiled_reply (sym e) ∙ c.answer);
              listed = c.lists.loop_list_lem ∙ zeros n (length loops);
            };
      }

pub no_loop_at_any_size : NoLoopAtAnySize
no_loop_at_any_size d h size =
    without_loop (compiled_at d size)
    (loops_at_any_size (repaired_font d) size ∙ no_tens (repair_warnings d) (loops_of_font (repaired_font d)) (repair_fours d) h)
