-- A list of warnings is empty only where every part of it is, and then every test is false.
-- Assumes nothing.
use mathlib.Core.Path.{◌≡◌, refl}
use mathlib.Core.Bool.{Bool, true, false, cond}
use mathlib.Core.List.{List, [], ◌++◌, append-eq-nil_iff}
use Prim.Native.Nat.{ℕ, zero, suc, ◌/◌, ◌<◌}
use native.Mathlib.Omega.{arith}
use lib.IntN.{ℤ, pos}
use lib.ListN.{length}
use borrow.Author.Count.{below_more}
use Rattle.lang.specs.Records.{count, field}
use Rattle.repairs.specs.Damaged.{Damaged, program_of, left_goes}
use Rattle.repairs.specs.Repaired.{skip_goes, redirect_warns, is_ligature, right_goes, kern_goes, inserted_by, product_goes, tag_goes}
use Rattle.repairs.specs.Warnings.{warn_if, warning, left_warning, entry_warnings, skip_warnings, step_warnings, steps_warnings, repair_warnings}

append_none : (x y : List ℤ) → x ++ y ≡ [] → (x ≡ []) × (y ≡ [])
append_none x y e = (append-eq-nil_iff {p = x} {q = y}).0 e

warn_none : (t : Bool) (kind : ℕ) (at old new : ℤ) → warn_if t (warning kind at old new) ≡ [] → t ≡ false
warn_none true kind at old new e = absurd (let z : ◌≡◌ {A = ℕ} 0 1 = cc in omega arith)
warn_none false kind at old new e = refl

-- ---- every step below k

pub skip_none : (d : Damaged) (k : ℕ) → skip_warnings (program_of d) k ≡ [] → (i : ℕ) → i < k → skip_goes (program_of d) i ≡ false
unfolding skip_warnings
skip_none d zero e i h = absurd (omega arith)
skip_none d (suc k) e i h =
    let p = append_none (skip_warnings (program_of d) k) (warn_if (skip_goes (program_of d) k) (warning 3 (pos k) (pos 0) (pos 0))) e in
    below_more (λ (i : ℕ). skip_goes (program_of d) i ≡ false) k (skip_none d k p.0) (warn_none (skip_goes (program_of d) k) 3 (pos k) (pos 0) (pos 0) p.1) i
    (omega arith)

-- step i is not repaired, but for its skip
pub record StepSound (d : Damaged) (i : ℕ) : Type 0 where
  pub right : right_goes (program_of d) i ≡ false
  pub kern_index : kern_goes (program_of d) i ≡ false
  pub product : product_goes (program_of d) i ≡ false
  pub tag : tag_goes (program_of d) i ≡ false

step_none : (d : Damaged) (i : ℕ) → step_warnings (program_of d) i ≡ [] → StepSound d i
step_none d i e =
    let s = d.instructions in
    let at = warn_if (redirect_warns (program_of d) i) (warning 9 (pos i) (pos 0) (pos 0)) in
    let right = warn_if (right_goes (program_of d) i) (warning (cond (is_ligature (program_of d) i) 4 5) (pos i) (field s i 1) (pos d.replacement)) in
    let kern = warn_if (kern_goes (program_of d) i) (warning 7 (pos i) (pos 0) (pos 0)) in
    let product = warn_if (product_goes (program_of d) i) (warning 6 (pos i) (pos (inserted_by (program_of d) i)) (pos d.replacement)) in
    let tag = warn_if (tag_goes (program_of d) i) (warning 8 (pos i) (pos 0) (pos 0)) in
    let t = append_none (at ++ right ++ kern ++ product) tag e in
    let p = append_none (at ++ right ++ kern) product t.0 in
    let k = append_none (at ++ right) kern p.0 in
    record {
      right =
          warn_none (right_goes (program_of d) i) (cond (is_ligature (program_of d) i) 4 5) (pos i) (field s i 1) (pos d.replacement)
          (append_none at right k.0).1;
      kern_index = warn_none (kern_goes (program_of d) i) 7 (pos i) (pos 0) (pos 0) k.1;
      product = warn_none (product_goes (program_of d) i) 6 (pos i) (pos (inserted_by (program_of d) i)) (pos d.replacement) p.1;
      tag = warn_none (tag_goes (program_of d) i) 8 (pos i) (pos 0) (pos 0) t.1;
    }

steps_none : (d : Damaged) (k : ℕ) → steps_warnings (program_of d) k ≡ [] → (i : ℕ) → i < k → StepSound d i
unfolding steps_warnings
steps_none d zero e i h = absurd (omega arith)
steps_none d (suc k) e i h =
    let p = append_none (steps_warnings (program_of d) k) (step_warnings (program_of d) k) e in
    below_more (λ (i : ℕ). StepSound d i) k (steps_none d k p.0) (step_none d k p.1) i (omega arith)

-- ---- the whole program

pub record ProgramSound (d : Damaged) : Type 0 where
  pub left : left_goes d ≡ false
  pub skips : (i : ℕ) → i < count d.instructions → skip_goes (program_of d) i ≡ false
  pub steps : (i : ℕ) → i < count d.instructions → StepSound d i

pub none_warned : (d : Damaged) → repair_warnings d ≡ [] → ProgramSound d
none_warned d e =
    let n = count d.instructions in
    let entries = entry_warnings d (length d.entries / 2) in
    let s = append_none (left_warning d ++ entries ++ skip_warnings (program_of d) n) (steps_warnings (program_of d) n) e in
    let k = append_none (left_warning d ++ entries) (skip_warnings (program_of d) n) s.0 in
    record {
      left = warn_none (left_goes d) 1 (pos 0) (pos 0) (pos 0) (append_none (left_warning d) entries k.0).0;
      skips = skip_none d n k.1;
      steps = steps_none d n s.1;
    }
