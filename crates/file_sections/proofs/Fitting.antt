-- Laws of a file that can be written, and of one that can't.
-- Assumes nothing.
use mathlib.Core.Path.{◌≡◌, refl, sym, ap, ◌∙◌}
use mathlib.Core.Bool.{Bool, true, false, cond}
use mathlib.Core.List.{List}
use Prim.Native.Nat.{ℕ, ◌*◌, ◌<◌, ◌≤◌}
use native.Mathlib.Omega.{arith}
use lib.Dec.{leb, eqb}
use lib.IntN.{ℤ}
use lib.ListN.{length}
use lib.Seq.{sets}
use borrow.Author.Tests.{lt-leb, le-leb, leb-true, eq-eqb, eqb-true}
use Rattle.lang.specs.Every.{both}
use Rattle.lang.specs.Records.{count}
use Rattle.lang.proofs.Every.{both_left, both_right}
use Rattle.files.specs.Lengths.{lengths_of, lengths_refusal, file_end}
use Rattle.files.specs.Writing.{written_size, joined_file}
use Rattle.files.proofs.Lengths.{taken_fits}
use Rattle.file_sections.specs.Fitting.{file_fits, file_in_front}

both_false : (a b : Bool) → both a (both false b) ≡ false
both_false true b = refl
both_false false b = refl

module _ (old : List ℕ) (n k room : ℕ) where
  -- a file that would be too long
  pub too_long : 32767 < written_size old n k → false ≡ file_fits old n k room
  too_long h =
      sym (rw (lt-leb (written_size old n k) 32767 h) (both_false (eqb (lengths_refusal old) 0) (leb (4 * written_size old n k) room)))

  -- the room decides
  pub room_decides : (size : ℕ) → size ≡ written_size old n k → lengths_refusal old ≡ 0 → size ≤ 32767 → leb (4 * size) room ≡ file_fits old n k room
  room_decides size e z h =
      sym (rw (eq-eqb (lengths_refusal old) 0 z, le-leb (written_size old n k) 32767 (omega (arith, e, h))) (ap (λ (m : ℕ). leb (4 * m) room) (sym e)))

  -- ---- what is known of a file that fits

  module _ (t : file_fits old n k room ≡ true) where
    pub fits_taken : lengths_refusal old ≡ 0
    fits_taken =
        eqb-true (lengths_refusal old) 0
        (both_left (eqb (lengths_refusal old) 0) (both (leb (written_size old n k) 32767) (leb (4 * written_size old n k) room)) t)

    later : both (leb (written_size old n k) 32767) (leb (4 * written_size old n k) room) ≡ true
    later = both_right (eqb (lengths_refusal old) 0) (both (leb (written_size old n k) 32767) (leb (4 * written_size old n k) room)) t

    pub fits_small : written_size old n k ≤ 32767
    fits_small = leb-true (written_size old n k) 32767 (both_left (leb (written_size old n k) 32767) (leb (4 * written_size old n k) room) later)

    pub fits_room : 4 * written_size old n k ≤ room
    fits_room = leb-true (4 * written_size old n k) room (both_right (leb (written_size old n k) 32767) (leb (4 * written_size old n k) room) later)

    -- the old file is as long as its lengths say
    pub fits_whole : length old ≡ 4 * file_end (lengths_of old)
    fits_whole = let f = taken_fits old fits_taken in omega (arith, f.whole, f.sum)

-- ---- the bytes that are lent

pub in_front_lem : (old : List ℕ) (s kerns table : List ℤ) (boundary : ℤ) (out : List ℕ) {d : List ℕ} →
    file_fits old (count s) (length kerns) (length out) ≡ true → d ≡ sets out 0 (joined_file old (lengths_of old) s kerns table boundary) →
    d ≡ file_in_front old s kerns table boundary out
in_front_lem old s kerns table boundary out t e = rw t e

pub left_as_it_came : (old : List ℕ) (s kerns table : List ℤ) (boundary : ℤ) (out : List ℕ) →
    file_fits old (count s) (length kerns) (length out) ≡ false → out ≡ file_in_front old s kerns table boundary out
left_as_it_came old s kerns table boundary out t = rw t
