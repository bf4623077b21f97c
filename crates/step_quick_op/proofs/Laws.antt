-- The tests of the code, as the definitions have them. Assumes nothing.
use mathlib.Core.Path.{◌≡◌, sym, ◌∙◌}
use mathlib.Core.Bool.{true, false}
use mathlib.Core.List.{List}
use Prim.Native.Nat.{ℕ, ◌+◌, ◌<◌, ◌≤◌}
use native.Mathlib.Numerals.{add-one}
use native.Mathlib.Omega.{arith}
use lib.IntN.{ℤ}
use lib.Dec.{ltb, leb, eqb}
use borrow.Author.Tests.{lt-ltb, le-ltb, le-leb, lt-leb, eq-eqb, ne_eqb}
use Rattle.words.specs.Words.{Word, word_of}
use Rattle.captions.specs.Tables.{op_kind, op_value, op_holds}
use Rattle.table_numbers.proofs.Records.{op_code}
use Rattle.step_quick.specs.Quick.{first_plain}

-- ---- the ops of an entry

module _ (ops : List ℤ) (i n : ℕ) where
  pub first_none : n ≡ 0 → false ≡ first_plain ops i n
  first_none e = rw (e, le-ltb 0 0 (omega arith))

  module _ (h : n ≡ 0 → ⊥) {v : ℕ} (p : Word (op_kind ops i) v) where
    some-ops : ltb 0 n ≡ true
    some-ops = lt-ltb 0 n (omega (arith, h))

    pub first_other : (v ≡ 0 → ⊥) → false ≡ first_plain ops i n
    first_other k = rw (some-ops, ← p.is, ne_eqb v 0 k)

    module _ (e : v ≡ 0) {w : ℕ} (q : Word (op_value ops i) w) where
      holds_by : leb w 255 ≡ op_holds ops i
      holds_by = op_code (op_kind ops i) (op_value ops i) v w p (omega (arith, e)) q

      kind_is : eqb (word_of (op_kind ops i)) 0 ≡ true
      kind_is = eq-eqb (word_of (op_kind ops i)) 0 (sym p.is ∙ e)

      pub first_code : 255 < w → false ≡ first_plain ops i n
      first_code k = rw (some-ops, kind_is, ← holds_by, lt-leb w 255 k)

      module _ (k : w ≤ 255) where
        pub first_only : n ≡ 1 → true ≡ first_plain ops i n
        first_only o = rw (some-ops, kind_is, ← holds_by, le-leb w 255 k, lt-leb 2 n (omega (arith, o)))

        pub first_next : (n ≡ 1 → ⊥) → op_holds ops (i + 1) ≡ first_plain ops i n
        first_next o = rw (some-ops, kind_is, ← holds_by, le-leb w 255 k, le-leb 2 n (omega (arith, o, h)), add-one i)
