-- A list that was zeroed, and in which a number is put: where it is too short it is zeroed again.
-- Assumes nothing.
use mathlib.Core.Path.{◌≡◌, ap, ◌∙◌}
use mathlib.Core.List.{List, ◌++◌}
use Prim.Native.Nat.{ℕ, ◌+◌, ◌<◌, ◌≤◌}
use native.Mathlib.Omega.{arith}
use lib.IntN.{ℤ}
use lib.ListN.{length, drop, replicate, length-replicate}
use lib.Seq.{length-sets}
use mir.Syntax.{w32}
use mir.Val.{of_z, to_z, SFits}
use mir.ValLaws.{to_z-of_z}
use borrow.Author.Tests.{le-leb, lt-leb}
use Rattle.words.specs.Words.{word_of, number_of}
use Rattle.words.proofs.Bits.{number_word}
use Rattle.words.proofs.Lists.{sets_front, drop_replicate}
use Rattle.lang.specs.declared.Written.TheVariants.{Count, Refused}
use Rattle.points.specs.Printing.{scaled_text, PrintsScaled}
use Rattle.point_print.specs.Putting.{PutsBytes}

module _ (value : ℤ) (out zeroed : List ℕ) (w count : ℕ) (put : List ℕ) (f : SFits w32 value) (z : zeroed ≡ replicate (length out) 0)
    (word : w ≡ word_of (to_z w32 (of_z w32 value))) (p : PutsBytes zeroed 0 (scaled_text (number_of w)) count put) where
  number_is : number_of w ≡ value
  number_is = ap number_of (word ∙ ap word_of (to_z-of_z w32 value f)) ∙ number_word value f

  puts : PutsBytes zeroed 0 (scaled_text value) count put
  puts = rw number_is at p

  count_is : count ≡ length (scaled_text value)
  count_is = omega (arith, puts.next)

  zeroed_long : length zeroed ≡ length out
  zeroed_long = ap length z ∙ length-replicate (length out) 0

  pub long : length put ≡ length out
  long = ap length puts.list ∙ length-sets zeroed 0 (scaled_text value) ∙ zeroed_long

  pub too_short : {d : List ℕ} → length put < count → d ≡ replicate (length put) 0 → PrintsScaled value out (Refused 15) d
  too_short {d} h e =
      let l : length out < length (scaled_text value) = omega (arith, long, count_is) in
      record { answer = rw (lt-leb (length (scaled_text value)) (length out) l); list = rw (lt-leb (length (scaled_text value)) (length out) l) (e ∙ rw long) }

  pub printed : count ≤ length put → PrintsScaled value out (Count count) put
  printed h =
      let l : length (scaled_text value) ≤ length out = omega (arith, long, count_is) in
      let k : length (scaled_text value) ≤ length zeroed = omega (arith, zeroed_long) in
      record {
        answer = rw (le-leb (length (scaled_text value)) (length out) l, count_is);
        list =
            rw (le-leb (length (scaled_text value)) (length out) l)
            (puts.list ∙ sets_front (scaled_text value) zeroed k
            ∙ ap (λ (t : List ℕ). scaled_text value ++ t) (ap (drop (length (scaled_text value))) z ∙ drop_replicate (length (scaled_text value)) (length out) 0));
      }
