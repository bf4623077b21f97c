-- Laws of the design size: what its word stands for, by the tests of it.
-- Assumes nothing.
use mathlib.Core.Path.{◌≡◌, sym, ap, ◌∙◌}
use mathlib.Core.List.{List}
use Prim.Native.Nat.{ℕ, ◌<◌, ◌≤◌}
use native.Mathlib.Omega.{arith}
use borrow.Author.Tests.{le-leb, lt-leb}
use Rattle.words.specs.Words.{number_of}
use Rattle.words.proofs.Bits.{number_pos, number_neg}
use Rattle.files.specs.Lengths.{lengths_of}
use Rattle.files.specs.Commands.{kern_number}
use Rattle.file_fonts.specs.Meant.{ten_points, or_ten_points, file_design}

module _ (file : List ℕ) {h : ℕ} (e : h ≡ (lengths_of file).lh) where
  pub no_design : h < 2 → ten_points ≡ file_design file
  no_design l = rw (lt-leb 2 (lengths_of file).lh (rw e at l))

  module _ (l : 2 ≤ h) (w : ℕ) (k : number_of w ≡ kern_number file 7) where
    word : file_design file ≡ or_ten_points (number_of w)
    word = rw (le-leb 2 (lengths_of file).lh (rw e at l)) (ap or_ten_points (sym k))

    pub small_design : w < 16 → ten_points ≡ file_design file
    small_design s = sym (word ∙ rw (number_pos w (omega (arith, s)), lt-leb 16 w s))

    pub own_design : 16 ≤ w → w < 2147483648 → number_of w ≡ file_design file
    own_design s t = sym (word ∙ rw (number_pos w t, le-leb 16 w s))

    pub negative_design : 2147483648 ≤ w → ten_points ≡ file_design file
    negative_design s = sym (word ∙ rw (number_neg w s))
