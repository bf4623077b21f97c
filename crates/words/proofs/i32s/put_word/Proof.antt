-- `words::i32s::put_word` meets its contract: a store below the length, and nothing past it, are both `set`.
-- Assumes nothing.
use mathlib.Core.Path.{◌≡◌, sym, ap}
use Prim.Native.Nat.{ℕ, ◌<◌, ◌^◌}
use lib.IntN.{ℤ}
use lib.ListN.{set}
use lib.Seq.{set_out}
use mir.Syntax.{w32}
use mir.Val.{of_z, to_z}
use mir.ValLaws.{to_z-of_z}
use Rattle.words.specs.Words.{number_of}
use Rattle.words.proofs.Bits.{number_fits}
use borrow.Author.Rules.{rules}
use Rattle.words.proofs.i32s.put_word.Statement.{statement}
use Rattle.words.proofs.i32s.put_word.Tie as tie

stored : (w : ℕ) (z : ℤ) → z ≡ number_of w → w < 2 ^ 32 → to_z w32 (of_z w32 z) ≡ number_of w
stored w z e l = rw e (to_z-of_z w32 (number_of w) (number_fits w l))

number-of-requires : tie.Need-number_of-x-requires
number-of-requires c κs = search rules

mul-x : tie.Need-offset_bounds-s-i
mul-x c = search rules

slice-set-from-x : tie.Need-bounds-s-i
slice-set-from-x c = search rules

same_length : tie.Need-shape_of-s
same_length c = search rules

returns : tie.Need-returns-then-i-s
returns c =
    let a = c.before.before.args in
    ap (λ (v : ℤ). set a.s.now a.i v) (stored a.w _ c.before.number_of-x.ensures c.before.before.ranges.w.fits)

returns-2 : tie.Need-returns-else-i-s
returns-2 c = let a = c.before.before.args in sym (set_out a.s.now a.i (number_of a.w) c.if-i-s.false)

pub put_word_spec : {M : Type 1} → statement M
put_word_spec =
    tie.close
    (tie.spec
    number-of-requires
    mul-x
    slice-set-from-x
    same_length
    returns
    returns-2)
