-- Bytes written as numbers from the front of a list, one after another.
-- Assumes nothing.
use mathlib.Core.Path.{◌≡◌, ◌∙◌}
use mathlib.Core.List.{List, map, map-append}
use Prim.Native.Nat.{ℕ, ◌+◌, ◌<◌, ◌≤◌, ◌^◌}
use native.Mathlib.Numerals.{add-one}
use native.Mathlib.Omega.{arith}
use lib.IntN.{ℤ, pos}
use lib.ListN.{length, get_or, set, take, length-map, length-take}
use lib.Seq.{sets, take-suc}
use Rattle.words.specs.Words.{number_of}
use Rattle.words.proofs.Bits.{number_pos}
use Rattle.words.proofs.Lists.{sets_append}

-- the first i bytes are written
pub record Widened (bytes : List ℕ) (d₀ d : List ℤ) (i : ℕ) : Type 0 where
  pub within : i ≤ length bytes
  pub is : d ≡ sets d₀ 0 (map pos (take i bytes))

module _ {bytes : List ℕ} {d₀ d : List ℤ} {i : ℕ} (w : Widened bytes d₀ d i) where
  pub widened_more : (d' : List ℤ) (b : ℕ) → i < length bytes → b ≡ get_or bytes i 0 → b < 2 ^ 8 → d' ≡ set d i (number_of b) → Widened bytes d₀ d' (i + 1)
  widened_more d' b h e l s =
      let k : 0 + length (map pos (take i bytes)) ≡ i = simp (length-map, length-take) (omega arith) in
      record {
        within = omega arith;
        is = s ∙ rw (number_pos b (omega arith), w.is, add-one, take-suc bytes i 0 h, map-append, sets_append, k, e);
      }
