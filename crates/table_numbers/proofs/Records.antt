-- What fits, from the words that were read.
-- Assumes nothing.
use mathlib.Core.Path.{◌≡◌, refl, ◌∙◌}
use mathlib.Core.Bool.{Bool, true, false, cond}
use mathlib.Core.List.{List}
use Prim.Native.Nat.{ℕ, ◌+◌, ◌<◌, ◌≤◌}
use native.Mathlib.Omega.{arith}
use lib.IntN.{ℤ}
use lib.Dec.{leb, eqb}
use borrow.Author.Tests.{le-leb, lt-leb, eq-eqb, ne_eqb}
use Rattle.words.specs.Words.{Word, word_of}
use Rattle.lang.specs.Every.{both}
use Rattle.lang.specs.Records.{within}
use Rattle.lang.proofs.Records.{within_read}
use Rattle.captions.specs.Tables.{op_count, number, last_flag, last_code, first_op, count_of, record_fits}
use Rattle.table_numbers.specs.Parts.{last_fits}

pub both_assoc : (a b c : Bool) → both (both a b) c ≡ both a (both b c)
both_assoc true b c = refl
both_assoc false b c = refl

-- ---- an op

module _ (kind value : ℤ) (v w : ℕ) (p : Word kind v) where
  abbrev op_test : Bool
  op_test = cond (within 1 kind) (within 255 value) (eqb (word_of kind) 2)

  pub op_code : v ≤ 1 → Word value w → leb w 255 ≡ op_test
  op_code h q = rw (within_read 1 p (omega arith) ∙ le-leb v 1 h, within_read 255 q (omega arith))

  pub op_kern : 1 < v → eqb v 2 ≡ op_test
  op_kern h = rw (within_read 1 p (omega arith) ∙ lt-leb v 1 h, p.is)

-- ---- a pair's last

module _ (code flag right : ℤ) (v w u : ℕ) (p : Word code v) where
  abbrev last_test : Bool
  last_test = both (within 255 code) (both (within 1 flag) (cond (eqb (word_of flag) 1) true (eqb (word_of code) (word_of right))))

  pub no_code : 255 < v → false ≡ last_test
  no_code h = rw (within_read 255 p (omega arith) ∙ lt-leb v 255 h)

  module _ (h : v ≤ 255) (q : Word flag w) where
    pub no_flag : 1 < w → false ≡ last_test
    no_flag k = rw (within_read 255 p (omega arith) ∙ le-leb v 255 h, within_read 1 q (omega arith) ∙ lt-leb w 1 k)

    pub flagged : w ≤ 1 → w ≡ 1 → true ≡ last_test
    flagged k e = rw (within_read 255 p (omega arith) ∙ le-leb v 255 h, within_read 1 q (omega arith) ∙ le-leb w 1 k, ← q.is, eq-eqb w 1 e)

    pub unflagged : w ≤ 1 → (w ≡ 1 → ⊥) → Word right u → eqb v u ≡ last_test
    unflagged k e r = rw (within_read 255 p (omega arith) ∙ le-leb v 255 h, within_read 1 q (omega arith) ∙ le-leb w 1 k, ← q.is, ne_eqb w 1 e, p.is, r.is)

-- ---- a pair's record: its last, and the end of its ops

pub record_by : (pairs ops : List ℤ) (k : ℕ) → both (last_fits pairs k) (leb (first_op pairs k + count_of pairs k) (op_count ops)) ≡ record_fits pairs ops k
record_by pairs ops k =
    go (within 255 (number pairs k 2)) (within 1 (number pairs k 3)) (cond (last_flag pairs k) true (eqb (last_code pairs k) (word_of (number pairs k 1))))
    (leb (first_op pairs k + count_of pairs k) (op_count ops))
  where
    go : (a b c d : Bool) → both (both a (both b c)) d ≡ both a (both b (both c d))
    go a b c d = rw (both_assoc a (both b c) d, both_assoc b c d)

module _ (pairs ops : List ℤ) (k : ℕ) where
  pub record_last : last_fits pairs k ≡ false → false ≡ record_fits pairs ops k
  record_last e = rw e at (record_by pairs ops k)

  pub record_ops : {first count : ℕ} → last_fits pairs k ≡ true → Word (number pairs k 4) first → Word (number pairs k 5) count →
      leb (first + count) (op_count ops) ≡ record_fits pairs ops k
  record_ops e p q = rw (p.is, q.is) (rw e at (record_by pairs ops k))
