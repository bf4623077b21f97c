-- Laws of warnings that are written one after the other: none, some and then others, and one by a test.
-- Assumes nothing.
use mathlib.Core.Path.{◌≡◌, refl, sym, ap, ◌∙◌}
use mathlib.Core.Bool.{Bool, true, false, cond, not}
use mathlib.Core.List.{List, [], ◌∷◌, ◌++◌}
use Prim.Native.Nat.{ℕ, zero, suc, ◌+◌, ◌*◌, ◌/◌, ◌%◌, ◌<◌}
use native.Mathlib.Omega.{arith}
use lib.IntN.{ℤ, pos}
use lib.Dec.{ltb}
use lib.ListN.{length, length-append, set}
use lib.Seq.{sets, length-sets}
use borrow.Author.Tests.{lt-ltb}
use Rattle.words.proofs.Lists.{sets_append}
use Rattle.lang.specs.Every.{both}
use Rattle.reading.specs.Depth.{Pair}
use Rattle.lang.specs.Records.{count, field}
use Rattle.lang.specs.Checks.{char_at}
use Rattle.fonts.specs.Compiled.{loops_of_font}
use Rattle.repairs.specs.Damaged.{Damaged, DamagedProgram, program_of, unpacks, left_goes}
use Rattle.repairs.specs.Repaired.{skip_goes, redirect_warns, is_ligature, right_goes, kern_goes, product_goes, tag_goes, inserted_by, repaired_font}
use Rattle.repairs.specs.Warnings.{warning, warn_if, left_warning, entry_warnings, skip_warnings, step_warnings, steps_warnings, loop_warnings}
use Rattle.repairs.specs.Warnings.{repair_warnings, warnings_of}
use Rattle.repairs.specs.Pushed.{Pushed}

-- stores after others, which end where they begin
pub sets_after : {A : Type 0} (xs ys l : List A) (i j : ℕ) {l₁ l₂ : List A} → l₁ ≡ sets l i xs → j ≡ i + length xs → l₂ ≡ sets l₁ j ys →
    l₂ ≡ sets l i (xs ++ ys)
sets_after {A} xs ys l i j e f g =
    g ∙ ap (λ (m : List A). sets m j ys) e ∙ ap (λ (k : ℕ). sets (sets l i xs) k ys) f ∙ sym (sets_append xs ys l i)

-- four stores, one after the other
pub four_written : (i : ℕ) (l : List ℤ) {l₁ l₂ l₃ l₄ : List ℤ} {a b c d x y z v : ℤ} → a ≡ x → b ≡ y → c ≡ z → d ≡ v → l₁ ≡ set l (4 * i) a →
    l₂ ≡ set l₁ (4 * i + 1) b → l₃ ≡ set l₂ (4 * i + 2) c → l₄ ≡ set l₃ (4 * i + 3) d → l₄ ≡ sets l (4 * i) (x ∷ y ∷ z ∷ v ∷ [])
four_written i l p q r t e₁ e₂ e₃ e₄ =
    let one : 4 * i + 1 ≡ suc (4 * i) = omega arith in
    let two : 4 * i + 2 ≡ suc (suc (4 * i)) = omega arith in
    let three : 4 * i + 3 ≡ suc (suc (suc (4 * i))) = omega arith in
    rw (e₄, e₃, e₂, e₁, p, q, r, t, one, two, three)

pub pushed_none : (w : List ℤ) (n : ℕ) → Pushed w n [] w n
pushed_none w n = record { count = omega arith; list = refl }

pub pushed_append : (w : List ℤ) (n : ℕ) (xs w₁ : List ℤ) (m : ℕ) (ys w₂ : List ℤ) (r : ℕ) → Pushed w n xs w₁ m → Pushed w₁ m ys w₂ r →
    Pushed w n (xs ++ ys) w₂ r
pushed_append w n xs w₁ m ys w₂ r a b =
    record {
      count = omega (arith, a.count, b.count, length-append xs ys);
      list = sets_after xs ys w (4 * n) (4 * m) a.list a.count b.list;
    }

pub pushed_length : (w : List ℤ) (n : ℕ) (ws w' : List ℤ) (r : ℕ) → Pushed w n ws w' r → length w' ≡ length w
pushed_length w n ws w' r p = ap length p.list ∙ length-sets w (4 * n) ws

-- a count below 2^32 does not keep a warning off
pub below_full : (t : Bool) (n : ℕ) → n < 4294967296 → both t (ltb n 4294967296) ≡ t
below_full true n h = lt-ltb n 4294967296 h
below_full false n h = refl

pub pushed_if : (w : List ℤ) (n : ℕ) (t : Bool) (ws w' : List ℤ) (r : ℕ) → n < 4294967296 → Pushed w n (warn_if (both t (ltb n 4294967296)) ws) w' r →
    Pushed w n (warn_if t ws) w' r
pushed_if w n t ws w' r h p = rw (below_full t n h) at p

-- four numbers a loop
pub loop_count : (ps : List Pair) → length (loop_warnings ps) ≡ 4 * length ps
unfolding loop_warnings
loop_count [] = refl
loop_count (p ∷ ps) = omega (arith, loop_count ps)

-- ---- warnings are in fours

four_append : (xs ys : List ℤ) → length xs % 4 ≡ 0 → length ys % 4 ≡ 0 → length (xs ++ ys) % 4 ≡ 0
four_append xs ys e f = omega (arith, length-append xs ys)

four_warn : (t : Bool) (kind : ℕ) (at old new : ℤ) → length (warn_if t (warning kind at old new)) % 4 ≡ 0
four_warn true kind at old new = refl
four_warn false kind at old new = refl

four_entries : (d : Damaged) (k : ℕ) → length (entry_warnings d k) % 4 ≡ 0
unfolding entry_warnings
four_entries d zero = refl
four_entries d (suc k) =
    four_append (entry_warnings d k) (warn_if (not (unpacks d k)) (warning 2 (char_at d.entries k) (pos 0) (pos 0))) (four_entries d k)
    (four_warn (not (unpacks d k)) 2 (char_at d.entries k) (pos 0) (pos 0))

four_skips : (p : DamagedProgram) (k : ℕ) → length (skip_warnings p k) % 4 ≡ 0
unfolding skip_warnings
four_skips p zero = refl
four_skips p (suc k) =
    four_append (skip_warnings p k) (warn_if (skip_goes p k) (warning 3 (pos k) (pos 0) (pos 0))) (four_skips p k)
    (four_warn (skip_goes p k) 3 (pos k) (pos 0) (pos 0))

four_step : (p : DamagedProgram) (i : ℕ) → length (step_warnings p i) % 4 ≡ 0
four_step p i =
    let a = warn_if (redirect_warns p i) (warning 9 (pos i) (pos 0) (pos 0)) in
    let b = warn_if (right_goes p i) (warning (cond (is_ligature p i) 4 5) (pos i) (field p.instructions i 1) (pos p.replacement)) in
    let c = warn_if (kern_goes p i) (warning 7 (pos i) (pos 0) (pos 0)) in
    let e = warn_if (product_goes p i) (warning 6 (pos i) (pos (inserted_by p i)) (pos p.replacement)) in
    let f = warn_if (tag_goes p i) (warning 8 (pos i) (pos 0) (pos 0)) in
    four_append (a ++ b ++ c ++ e) f
    (four_append (a ++ b ++ c) e
    (four_append (a ++ b) c
    (four_append a b (four_warn (redirect_warns p i) 9 (pos i) (pos 0) (pos 0))
    (four_warn (right_goes p i) (cond (is_ligature p i) 4 5) (pos i) (field p.instructions i 1) (pos p.replacement)))
    (four_warn (kern_goes p i) 7 (pos i) (pos 0) (pos 0)))
    (four_warn (product_goes p i) 6 (pos i) (pos (inserted_by p i)) (pos p.replacement)))
    (four_warn (tag_goes p i) 8 (pos i) (pos 0) (pos 0))

four_steps : (p : DamagedProgram) (k : ℕ) → length (steps_warnings p k) % 4 ≡ 0
unfolding steps_warnings
four_steps p zero = refl
four_steps p (suc k) = four_append (steps_warnings p k) (step_warnings p k) (four_steps p k) (four_step p k)

pub repair_fours : (d : Damaged) → length (repair_warnings d) % 4 ≡ 0
repair_fours d =
    let n = count d.instructions in
    let l = left_warning d in
    let e = entry_warnings d (length d.entries / 2) in
    let s = skip_warnings (program_of d) n in
    let t = steps_warnings (program_of d) n in
    four_append (l ++ e ++ s) t
    (four_append (l ++ e) s (four_append l e (four_warn (left_goes d) 1 (pos 0) (pos 0) (pos 0)) (four_entries d (length d.entries / 2)))
    (four_skips (program_of d) n))
    (four_steps (program_of d) n)

pub fours : (d : Damaged) → length (warnings_of d) % 4 ≡ 0
fours d =
    let ps = loops_of_font (repaired_font d) in
    four_append (repair_warnings d) (loop_warnings ps) (repair_fours d) (omega (arith, loop_count ps))
