-- THE theorem of specs/Purpose. Assumes nothing.
use mathlib.Core.Path.{◌≡◌, refl, sym, ap, ◌∙◌}
use mathlib.Core.Bool.{Bool, true, false, cond}
use mathlib.Core.List.{List, []}
use Prim.Native.Nat.{ℕ, zero, suc, ◌/◌, ◌%◌, ◌<◌, ◌≤◌}
use native.Mathlib.Omega.{arith}
use lib.IntN.{ℤ, pos}
use lib.Dec.{eqb}
use lib.ListN.{length, get_or}
use borrow.Author.Tests.{lt-ltb}
use Rattle.words.proofs.Lists.{tabulate_ext}
use Rattle.lang.specs.Records.{count, field, is_kind}
use Rattle.program_kerns.specs.Kerns.{kern_place, values, kerns_of, unpacked, changed, shared}
use Rattle.program_kerns.specs.SharedKerns.{holds_value, held_value, shared_kerns, all_kerns, shared_number, share_kerns}
use Rattle.kern_share.specs.Purpose.{AsUnpacked}

module _ (s : List ℤ) (none : (i : ℕ) → i < count s → is_kind 1 s i ≡ false) where
  -- only a kern value is held
  holds_is : (i : ℕ) → i < count s → holds_value s 0 i ≡ is_kind 0 s i
  holds_is i h = by (is_kind 0 s i) refl
    where
      by : (t : Bool) → is_kind 0 s i ≡ t → holds_value s 0 i ≡ t
      by true e = rw (e, lt-ltb i (count s) h)
      by false e = rw (e, none i h, lt-ltb i (count s) h)

  held_is : (i : ℕ) → is_kind 0 s i ≡ true → held_value s i ≡ field s i 3
  held_is i e = rw e

  kerns_are : (n : ℕ) → n ≤ count s → shared_kerns s [] n ≡ values s n
  unfolding shared_kerns values
  kerns_are zero h = refl
  kerns_are (suc n) h = rw (holds_is n (omega arith), kerns_are n (omega arith)) (by (is_kind 0 s n) refl)
    where
      by : (t : Bool) → is_kind 0 s n ≡ t → cond t (shared (values s n) (held_value s n)) (values s n) ≡ cond t (shared (values s n) (field s n 3)) (values s n)
      by true e = ap (shared (values s n)) (held_is n e)
      by false e = refl

  number_is : (ks : List ℤ) (j : ℕ) → j / 4 < count s → shared_number s ks 0 j ≡ changed s (is_kind 0 s) (pos 1) (λ i. pos (kern_place (field s i 3) ks)) j
  number_is ks j h = rw (holds_is (j / 4) h) (by (is_kind 0 s (j / 4)) refl)
    where
      by : (t : Bool) → is_kind 0 s (j / 4) ≡ t →
          cond t (cond (eqb (j % 4) 2) (pos 1) (cond (eqb (j % 4) 3) (pos (kern_place (held_value s (j / 4)) ks)) (get_or s j (pos 0)))) (get_or s j (pos 0)) ≡
          cond t (cond (eqb (j % 4) 2) (pos 1) (cond (eqb (j % 4) 3) (pos (kern_place (field s (j / 4) 3) ks)) (get_or s j (pos 0)))) (get_or s j (pos 0))
      by true e = rw (held_is (j / 4) e)
      by false e = refl

pub as_unpacked : AsUnpacked
as_unpacked s w none =
    let k : all_kerns s [] ≡ kerns_of s = kerns_are s none (count s) (omega arith) in (
      tabulate_ext (length s) (shared_number s (all_kerns s []) 0) (changed s (is_kind 0 s) (pos 1) (λ i. pos (kern_place (field s i 3) (kerns_of s))))
          (λ j h. rw k (number_is s none (kerns_of s) j (omega arith))),
      k,
    )
