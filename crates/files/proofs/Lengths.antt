-- Laws of the lengths of a file: what 17 tests of them, and that the lengths of a written file pass.
-- Assumes nothing.
use mathlib.Core.Path.{◌≡◌, refl, sym, subst}
use mathlib.Core.Bool.{true}
use mathlib.Core.List.{List}
use Prim.Native.Nat.{ℕ, suc, ◌*◌, ◌<◌, ◌≤◌}
use native.Mathlib.Omega.{arith}
use lib.Dec.{leb, eqb}
use lib.IntN.{ℤ}
use lib.ListN.{length}
use borrow.Author.Tests.{le-leb, leb-true, eq-eqb, eqb-true}
use Rattle.lang.specs.Every.{both, every}
use Rattle.lang.specs.Records.{count}
use Rattle.lang.proofs.Every.{both_left, both_right, every_at}
use Rattle.lang.proofs.Refusals.{unless_none}
use Rattle.files.specs.declared.FileLengths.{FileLengths}
use Rattle.files.specs.Lengths.{file_half, lengths_of, file_end, lengths_fit, lengths_refusal}
use Rattle.files.specs.Writing.{written_lengths}
use Rattle.files.proofs.Laid.{Laid, laid_lengths}

-- the twelve lengths are at most 32,767, they fit together, and the file has n bytes
pub record Fits (m : FileLengths) (n : ℕ) : Type 0 where
  pub small_lf : m.lf ≤ 32767
  pub small_lh : m.lh ≤ 32767
  pub small_bc : m.bc ≤ 32767
  pub small_ec : m.ec ≤ 32767
  pub small_nw : m.nw ≤ 32767
  pub small_nh : m.nh ≤ 32767
  pub small_nd : m.nd ≤ 32767
  pub small_ni : m.ni ≤ 32767
  pub small_nl : m.nl ≤ 32767
  pub small_nk : m.nk ≤ 32767
  pub small_ne : m.ne ≤ 32767
  pub small_np : m.np ≤ 32767
  pub low : m.bc ≤ suc m.ec
  pub high : m.ec ≤ 255
  pub sum : m.lf ≡ file_end m
  pub whole : n ≡ 4 * m.lf

-- ---- what is known of a file that 17 does not refuse

module _ (file : List ℕ) (ok : lengths_refusal file ≡ 0) where
  tests :
      both (every 12 (λ i. leb (file_half file i) 32767)) (both (lengths_fit (lengths_of file)) (eqb (length file) (4 * (lengths_of file).lf))) ≡ true
  tests =
      unless_none 16 (both (every 12 (λ i. leb (file_half file i) 32767)) (both (lengths_fit (lengths_of file)) (eqb (length file) (4 * (lengths_of file).lf)))) ok

  small : (i : ℕ) → i < 12 → file_half file i ≤ 32767
  small i h =
      leb-true (file_half file i) 32767
      (every_at 12 i (λ j. leb (file_half file j) 32767)
      (both_left (every 12 (λ j. leb (file_half file j) 32767)) (both (lengths_fit (lengths_of file)) (eqb (length file) (4 * (lengths_of file).lf))) tests) h)

  later : both (lengths_fit (lengths_of file)) (eqb (length file) (4 * (lengths_of file).lf)) ≡ true
  later = both_right (every 12 (λ i. leb (file_half file i) 32767)) (both (lengths_fit (lengths_of file)) (eqb (length file) (4 * (lengths_of file).lf))) tests

module _ (m : FileLengths) (n : ℕ) (t : both (lengths_fit m) (eqb n (4 * m.lf)) ≡ true) where
  together : lengths_fit m ≡ true
  together = both_left (lengths_fit m) (eqb n (4 * m.lf)) t

  behind : both (leb m.ec 255) (eqb m.lf (file_end m)) ≡ true
  behind = both_right (leb m.bc (suc m.ec)) (both (leb m.ec 255) (eqb m.lf (file_end m))) together

  low_is : m.bc ≤ suc m.ec
  low_is = leb-true m.bc (suc m.ec) (both_left (leb m.bc (suc m.ec)) (both (leb m.ec 255) (eqb m.lf (file_end m))) together)

  high_is : m.ec ≤ 255
  high_is = leb-true m.ec 255 (both_left (leb m.ec 255) (eqb m.lf (file_end m)) behind)

  sum_is : m.lf ≡ file_end m
  sum_is = eqb-true m.lf (file_end m) (both_right (leb m.ec 255) (eqb m.lf (file_end m)) behind)

  whole_is : n ≡ 4 * m.lf
  whole_is = eqb-true n (4 * m.lf) (both_right (lengths_fit m) (eqb n (4 * m.lf)) t)

pub taken_fits : (file : List ℕ) → lengths_refusal file ≡ 0 → Fits (lengths_of file) (length file)
taken_fits file ok =
    record {
      small_lf = small file ok 0 (omega arith);
      small_lh = small file ok 1 (omega arith);
      small_bc = small file ok 2 (omega arith);
      small_ec = small file ok 3 (omega arith);
      small_nw = small file ok 4 (omega arith);
      small_nh = small file ok 5 (omega arith);
      small_nd = small file ok 6 (omega arith);
      small_ni = small file ok 7 (omega arith);
      small_nl = small file ok 8 (omega arith);
      small_nk = small file ok 9 (omega arith);
      small_ne = small file ok 10 (omega arith);
      small_np = small file ok 11 (omega arith);
      low = low_is (lengths_of file) (length file) (later file ok);
      high = high_is (lengths_of file) (length file) (later file ok);
      sum = sum_is (lengths_of file) (length file) (later file ok);
      whole = whole_is (lengths_of file) (length file) (later file ok);
    }

-- ---- and the other way round

fit_passes : (m : FileLengths) (n : ℕ) → Fits m n → both (lengths_fit m) (eqb n (4 * m.lf)) ≡ true
fit_passes m n f =
    rw (
      le-leb m.bc (suc m.ec) f.low,
      le-leb m.ec 255 f.high,
      eq-eqb m.lf (file_end m) f.sum,
      eq-eqb n (4 * m.lf) f.whole,
    )

small_passes : (file : List ℕ) → Fits (lengths_of file) (length file) → every 12 (λ i. leb (file_half file i) 32767) ≡ true
unfolding every
small_passes file f =
    rw (
      le-leb (file_half file 0) 32767 f.small_lf,
      le-leb (file_half file 1) 32767 f.small_lh,
      le-leb (file_half file 2) 32767 f.small_bc,
      le-leb (file_half file 3) 32767 f.small_ec,
      le-leb (file_half file 4) 32767 f.small_nw,
      le-leb (file_half file 5) 32767 f.small_nh,
      le-leb (file_half file 6) 32767 f.small_nd,
      le-leb (file_half file 7) 32767 f.small_ni,
      le-leb (file_half file 8) 32767 f.small_nl,
      le-leb (file_half file 9) 32767 f.small_nk,
      le-leb (file_half file 10) 32767 f.small_ne,
      le-leb (file_half file 11) 32767 f.small_np,
    )

pub fits_taken : (file : List ℕ) → Fits (lengths_of file) (length file) → lengths_refusal file ≡ 0
fits_taken file f = rw (small_passes file f, fit_passes (lengths_of file) (length file) f)

-- ---- the lengths of a written file

written_fits : {m : FileLengths} {len : ℕ} (n k : ℕ) → Fits m len → (written_lengths m n k).lf ≤ 32767 →
    Fits (written_lengths m n k) (4 * (written_lengths m n k).lf)
written_fits n k f h =
    record {
      small_lf = h;
      small_lh = f.small_lh;
      small_bc = f.small_bc;
      small_ec = f.small_ec;
      small_nw = f.small_nw;
      small_nh = f.small_nh;
      small_nd = f.small_nd;
      small_ni = f.small_ni;
      small_nl = omega arith;
      small_nk = omega arith;
      small_ne = f.small_ne;
      small_np = f.small_np;
      low = f.low;
      high = f.high;
      sum = refl;
      whole = refl;
    }

pub laid_taken : {old file : List ℕ} {s kerns table : List ℤ} {boundary : ℤ} → lengths_refusal old ≡ 0 →
    Laid old file (lengths_of old) s kerns table boundary → (written_lengths (lengths_of old) (count s) (length kerns)).lf ≤ 32767 → lengths_refusal file ≡ 0
laid_taken {old} {file} {s} {kerns} ok v h =
    let e = laid_lengths v h in
    let w = written_fits (count s) (length kerns) (taken_fits old ok) h in
    fits_taken file (subst (λ (m : FileLengths). Fits m (length file)) (sym e) (rw v.long w))
