-- Laws of the bytes that are the file: those asked for, or all, by the tests of them.
-- Assumes nothing.
use mathlib.Core.Path.{◌≡◌, ap, ◌∙◌}
use mathlib.Core.Bool.{Bool, true, false}
use mathlib.Core.List.{List}
use Prim.Native.Nat.{ℕ, ◌+◌, ◌-◌, ◌*◌, ◌<◌, ◌≤◌}
use lib.Dec.{eqb}
use lib.ListN.{length}
use borrow.Author.Tests.{le-leb, lt-leb}
use Rattle.lang.specs.Every.{every}
use Rattle.files.specs.Lengths.{file_byte, lengths_of}
use Rattle.file_fonts.specs.Meant.{asked_length, file_length}

module _ (bytes : List ℕ) {h : ℕ} (e : h ≡ (lengths_of bytes).lf) where
  four : 4 * h ≡ asked_length bytes
  four = ap (λ (n : ℕ). 4 * n) e

  pub short_length : length bytes < 4 * h → length bytes ≡ file_length bytes
  short_length l = rw (lt-leb (asked_length bytes) (length bytes) (rw four at l))

  module _ (l : 4 * h ≤ length bytes) {b : Bool} (z : b ≡ every (length bytes - 4 * h) (λ i. eqb (file_byte bytes (4 * h + i)) 0)) where
    behind : b ≡ every (length bytes - asked_length bytes) (λ i. eqb (file_byte bytes (asked_length bytes + i)) 0)
    behind = z ∙ ap (λ (n : ℕ). every (length bytes - n) (λ i. eqb (file_byte bytes (n + i)) 0)) four

    pub asked_length_lem : b ≡ true → 4 * h ≡ file_length bytes
    asked_length_lem t = rw (le-leb (asked_length bytes) (length bytes) (rw four at l), ← behind, t) four

    pub whole_length : b ≡ false → length bytes ≡ file_length bytes
    whole_length t = rw (le-leb (asked_length bytes) (length bytes) (rw four at l), ← behind, t)
