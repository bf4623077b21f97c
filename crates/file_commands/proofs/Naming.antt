-- Laws of what a word names, the boundary character or the left entry, where there are words: x, or none.
-- Assumes nothing.
use mathlib.Core.Path.{◌≡◌}
use mathlib.Core.Bool.{cond}
use mathlib.Core.List.{List}
use Prim.Native.Nat.{ℕ}
use native.Mathlib.Omega.{arith}
use lib.IntN.{ℤ, negsuc}
use lib.Dec.{ltb}
use borrow.Author.Tests.{lt-ltb, eq-eqb, ne_eqb}
use Rattle.lang.specs.Every.{both}
use Rattle.files.specs.Commands.{word_byte, is_first255}

module _ (file : List ℕ) (w n : ℕ) (x : ℤ) where
  abbrev named_or : ℤ
  named_or = cond (both (ltb 0 n) (is_first255 file w)) x (negsuc 0)

  pub no_word : n ≡ 0 → negsuc 0 ≡ named_or
  no_word e = rw e

  pub word_names : (n ≡ 0 → ⊥) → word_byte file w 0 ≡ 255 → x ≡ named_or
  word_names h e = rw (lt-ltb 0 n (omega arith), eq-eqb (word_byte file w 0) 255 e)

  pub word_names_none : (n ≡ 0 → ⊥) → (word_byte file w 0 ≡ 255 → ⊥) → negsuc 0 ≡ named_or
  word_names_none h e = rw (lt-ltb 0 n (omega arith), ne_eqb (word_byte file w 0) 255 e)
