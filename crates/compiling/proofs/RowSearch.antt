-- The row of a pair by bisection: on rows that ascend it is the row of the pair.
-- Assumes nothing.
use mathlib.Core.Path.{◌≡◌, refl, sym, ap, ◌∙◌}
use mathlib.Core.List.{List}
use mathlib.Core.Option.{Option, none, some}
use Prim.Native.Nat.{ℕ, ◌+◌, ◌*◌, ◌<◌}
use native.Mathlib.Omega.{arith}
use Rattle.lang.specs.Bisection.{found_by}
use Rattle.lang.proofs.Bisection.{bisect_finds, bisect_misses}
use Rattle.std.specs.Prelude.{Option as Answer, Some, None}
use Rattle.compiling.specs.Rows.{at, row_of, row_key, search_row, found_row, Ascending}
use Rattle.compiling.proofs.RowLaws.{keys_ascend, row_found, row_missing}

pub search_row_lem : (n : ℕ) (w : List ℕ) → Ascending n w → (t r : ℕ) → r < 256 → search_row w n t r ≡ row_of w n t r
search_row_lem n w a t r small = go (row_of w n t r) refl
  where
    go : (o : Option ℕ) → row_of w n t r ≡ o → search_row w n t r ≡ row_of w n t r
    go (some k) e =
        let s = row_found w t r n k e in
        let i : row_key w k ≡ 256 * t + r = omega (arith, s.1.0, s.1.1) in
        ap (found_by (row_key w) n) (sym i) ∙ bisect_finds (row_key w) n (keys_ascend n w a) k s.0 ∙ sym e
    go none e =
        bisect_misses (row_key w) n (256 * t + r)
        (λ k h i. let s : at w k 1 < 256 = a.right k h in row_missing w t r n e k h (omega arith, omega arith))
        ∙ sym e

-- what an answer says of the row of a pair
pub found_is : (o : Option ℕ) (x : Answer ℕ) (j : ℕ) → x ≡ found_row o → x ≡ Some j → o ≡ some j
found_is none x j e i = cc
found_is (some k) x j e i = cc

pub missing_is : (o : Option ℕ) (x : Answer ℕ) → x ≡ found_row o → x ≡ None → o ≡ none
missing_is none x e i = refl
missing_is (some k) x e i = cc
