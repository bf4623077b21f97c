-- Letters that stand by the bits of an index stand by its places. Assumes nothing.
use mathlib.Core.Path.{◌≡◌, refl, ap, ◌∙◌}
use mathlib.Core.Bool.{Bool, true, false, cond}
use mathlib.Core.List.{List}
use Prim.Native.Nat.{ℕ, ◌+◌, ◌≤◌}
use native.Mathlib.Omega.{arith}
use lib.IntN.{ℤ}
use lib.ListN.{length, get_or}
use lib.Seq.{sets}
use borrow.Author.Tests.{le-leb}
use Rattle.captions.specs.Tables.{pair_count}
use Rattle.index.specs.Index.{has_bit}
use Rattle.word_plain_letters.specs.PlainLetters.{six_at, Stand, none_stand, one_stands}
use Rattle.index_plain_letters.specs.IndexedLetters.{index_place, bit_place}

module _ (index : List ℕ) where
  -- a bit that is not set is no pair
  bit_clear : (b : Bool) → ◌≡◌ {A = ℕ} (cond b 1 0) 0 → b ≡ false
  bit_clear true e = absurd (omega (arith, e))
  bit_clear false e = refl

  pub bit_place_lem : (l y : ℕ) → has_bit index l y ≡ false → bit_place index l y ≡ 0
  bit_place_lem l y e = ap (λ (b : Bool). cond {A = ℕ} b 1 0) e

  no_place : (pairs : List ℤ) (l y : ℕ) → bit_place index l y ≡ 0 → index_place index pairs l y ≡ pair_count pairs
  no_place pairs l y e = rw (bit_clear (has_bit index l y) e)

  pub stand_by : (pairs : List ℤ) {word : List ℕ} {read given left : ℕ} {items : List ℤ} {k l n : ℕ} {d : List ℤ} →
      Stand (bit_place index) 0 word read given left items k l n d → Stand (index_place index pairs) (pair_count pairs) word read given left items k l n d
  stand_by pairs none_stand = none_stand
  stand_by pairs {word} {read} (one_stands {l} {n} h t f e r) = one_stands (stand_by pairs h) t f (no_place pairs l (get_or word (read + n) 0) e) r

-- six numbers that have room are written
pub six_written : (d d' : List ℤ) (at : ℕ) (vs : List ℤ) → at + 6 ≤ length d → d' ≡ six_at d at vs → d' ≡ sets d at vs
six_written d d' at vs r h = h ∙ ap (λ (b : Bool). cond b (sets d at vs) d) (le-leb (at + 6) (length d) r)

-- letters that stand are letters of the word
pub stand_inside : {place : ℕ → ℕ → ℕ} {none : ℕ} {word : List ℕ} {read given left : ℕ} {items : List ℤ} {k l n : ℕ} {d : List ℤ} → read ≤ length word →
    Stand place none word read given left items k l n d → read + n ≤ length word
stand_inside h none_stand = omega (arith, h)
stand_inside h (one_stands g t f e r) = omega (arith, t)
