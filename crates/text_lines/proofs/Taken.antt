-- Lines that are taken, for which there is room, and lines that are not.
-- Assumes nothing.
use mathlib.Core.Path.{◌≡◌, sym, ap, ◌∙◌}
use mathlib.Core.Bool.{Bool, true, false, cond}
use mathlib.Core.List.{List}
use Prim.Native.Nat.{ℕ, ◌+◌, ◌-◌, ◌*◌, ◌/◌, ◌^◌, ◌<◌, ◌≤◌}
use native.Mathlib.Nat.{le_of_lt, mul-le-mul, mul-add, mul_comm, le-div_iff_mul-le}
use native.Mathlib.Omega.{arith}
use lib.IntN.{ℤ}
use lib.Dec.{leb}
use lib.ListN.{length}
use lib.Seq.{sets}
use borrow.Author.Tests.{le-leb, leb-true}
use Rattle.lang.specs.Every.{both}
use Rattle.lang.proofs.Every.{both_left, both_right}
use Rattle.columns.specs.Replying.{bytes_of}
use Rattle.text_lines.specs.Writing.{line_at, lines_from, HasRoom, Puts, lines_fit, PutsWhere}
use Rattle.text_lines.proofs.Bytes.{lines_room}
use Rattle.text_lines.proofs.Steps.{puts_length, at_length, run_length}

-- ---- what is tested

-- lines that are taken
record Fit (n k count at room : ℕ) : Type 0 where
  six : n ≤ 6
  first : k ≤ 2 ^ 60
  place : at ≤ room
  all : count * (12 * n + 2) ≤ room - at

fit_of : (n k count at room : ℕ) → lines_fit n k count at room ≡ true → Fit n k count at room
fit_of n k count at room t =
    let c = leb count ((room - at) / (12 * n + 2)) in
    let r₁ : both (leb k (2 ^ 60)) (both (leb at room) c) ≡ true = both_right (leb n 6) _ t in
    let r₂ : both (leb at room) c ≡ true = both_right (leb k (2 ^ 60)) _ r₁ in
    record {
      six = leb-true n 6 (both_left (leb n 6) _ t);
      first = leb-true k (2 ^ 60) (both_left (leb k (2 ^ 60)) _ r₁);
      place = leb-true at room (both_left (leb at room) _ r₂);
      all =
          (le-div_iff_mul-le {k = 12 * n + 2} {x = count} {y = room - at} (omega arith)).0
          (leb-true count ((room - at) / (12 * n + 2)) (both_right (leb at room) _ r₂));
    }

-- there is room for each line, and every place among the numbers fits
module _ (letter n : ℕ) (numbers : List ℤ) (k count : ℕ) (l : List ℕ) (at : ℕ) (t : lines_fit n k count at (length l) ≡ true) where
  fit : Fit n k count at (length l)
  fit = fit_of n k count at (length l) t

  pub line_fits : {d : List ℕ} {next : ℕ} (i : ℕ) → i < count → Puts (bytes_of (lines_from letter n numbers k i)) l at next d → next + 2 + 12 * n ≤ length d
  line_fits i h p =
      omega (
        arith,
        lines_room (λ j. line_at letter n numbers (k + j)) i count h,
        at_length letter n numbers k l at i,
        fit.place,
        fit.all,
        run_length letter n numbers k l at count,
        p.next,
        puts_length p,
      )

  pub six_numbers : n ≤ 6
  six_numbers = fit.six

  pub place_fits : length l < 2 ^ 63 → (i : ℕ) → i < count → n * (k + i) + 6 < 2 ^ 64
  place_fits f i h =
      let p : n * k ≤ 6 * 2 ^ 60 = mul-le-mul fit.six fit.first in
      let w : n ≤ 12 * n + 2 = omega arith in
      let q : i * n ≤ count * (12 * n + 2) = mul-le-mul (le_of_lt h) w in
      omega (arith, p, q, fit.six, fit.all, mul-add n k i, mul_comm n i)

-- the line of a pair
pub pair_fits : (k at room : ℕ) → lines_fit 5 k 1 at room ≡ true → (at + 62 ≤ room) × (k ≤ 2 ^ 60)
pair_fits k at room t = let f = fit_of 5 k 1 at room t in (omega (arith, f.place, f.all), f.first)

-- ---- what is written

module _ {bytes l d : List ℕ} {at r : ℕ} (t : Bool) where
  pub where_taken : t ≡ true → Puts bytes l at r d → PutsWhere t bytes l at r d
  where_taken e p =
      record {
        next = p.next ∙ sym (ap (λ (b : Bool). cond b (at + length bytes) at) e);
        written = p.written ∙ sym (ap (λ (b : Bool). cond b (sets l at bytes) l) e);
      }

  pub where_puts : t ≡ true → PutsWhere t bytes l at r d → Puts bytes l at r d
  where_puts e p =
      record { next = p.next ∙ ap (λ (b : Bool). cond b (at + length bytes) at) e; written = p.written ∙ ap (λ (b : Bool). cond b (sets l at bytes) l) e }

pub where_left : (t : Bool) (bytes l : List ℕ) (at : ℕ) → t ≡ false → PutsWhere t bytes l at at l
where_left t bytes l at e =
    record { next = sym (ap (λ (b : Bool). cond b (at + length bytes) at) e); written = sym (ap (λ (b : Bool). cond b (sets l at bytes) l) e) }

-- ---- at most six numbers each, a first line whose index fits, and room: they are taken

fit_taken : (n k count at room : ℕ) → Fit n k count at room → lines_fit n k count at room ≡ true
fit_taken n k count at room f =
    let d : count ≤ (room - at) / (12 * n + 2) = (le-div_iff_mul-le {k = 12 * n + 2} {x = count} {y = room - at} (omega arith)).1 f.all in
    rw (le-leb n 6 f.six, le-leb k (2 ^ 60) f.first, le-leb at room f.place, le-leb count ((room - at) / (12 * n + 2)) d)

pub taken_is : (letter n : ℕ) (numbers : List ℤ) (k count : ℕ) (l : List ℕ) (at : ℕ) → n ≤ 6 → k ≤ 2 ^ 60 →
    HasRoom (bytes_of (lines_from letter n numbers k count)) l at → lines_fit n k count at (length l) ≡ true
taken_is letter n numbers k count l at s c r =
    let q = run_length letter n numbers k l at count in
    fit_taken n k count at (length l) (record { six = s; first = c; place = omega (arith, r); all = omega (arith, r, q) })

pub pair_taken : (k at room : ℕ) → k ≤ 2 ^ 60 → at + 62 ≤ room → lines_fit 5 k 1 at room ≡ true
pair_taken k at room c r = fit_taken 5 k 1 at room (record { six = omega arith; first = c; place = omega arith; all = omega arith })
