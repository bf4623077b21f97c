-- How long the lists are that the passes of repair write: at most two numbers an entry, four a warning, and five warnings a step beside its skip's.
-- Assumes nothing.
use mathlib.Core.Path.{◌≡◌, sym, ap, ◌∙◌}
use mathlib.Core.Bool.{Bool, true, false, cond, not}
use mathlib.Core.List.{List, [], ◌∷◌, ◌++◌}
use Prim.Native.Nat.{ℕ, zero, suc, ◌*◌, ◌/◌, ◌<◌, ◌≤◌}
use native.Mathlib.Omega.{arith}
use lib.IntN.{ℤ, pos}
use lib.Dec.{leb}
use lib.ListN.{length, length-append, take, drop}
use lib.Seq.{sets, length-sets, take_at, take_all}
use borrow.Author.Tests.{leb-true}
use Rattle.words.proofs.Lists.{length_tabulate, sets_front}
use Rattle.lang.specs.Records.{count, field}
use Rattle.lang.specs.Checks.{program_refusal, kerns_refusal, entries_refusal, absent_refusal, passthrough_refusal, or_else, unless, char_at}
use Rattle.lang.proofs.Every.{both_right}
use Rattle.lang.proofs.Refusals.{or_else_none, unless_none, program_size}
use Rattle.lang.proofs.Entered.{entries_few}
use Rattle.entry_targets.specs.Targets.{stands_for}
use Rattle.repairs.specs.Damaged.{Damaged, DamagedProgram, unpacks, packed_entry_of, unpacked_upto, unpacked_entries, left_goes, repaired_passthrough, passed_over}
use Rattle.repairs.specs.Repaired.{skip_goes, redirect_warns, is_ligature, right_goes, kern_goes, product_goes, tag_goes, inserted_by}
use Rattle.repairs.specs.Warnings.{warning, warn_if, left_warning, entry_warnings, skip_warnings, step_warnings, steps_warnings}
use Rattle.repairs.specs.Repairs.{damaged_refusal}
use Rattle.repair_entries.specs.Entering.{is_enterable, enter_warnings}

-- ---- of plain lists

-- and so the front is what was stored
pub front_is : {A : Type 0} (xs l : List A) (n : ℕ) → length xs ≡ n → n ≤ length l → take n (sets l 0 xs) ≡ xs
front_is xs l n e h = ap (take n) (sets_front xs l (omega arith)) ∙ take_at xs (drop (length xs) l) n e

-- a list that is stored over whole
pub sets_all : {A : Type 0} (xs l : List A) → length xs ≡ length l → sets l 0 xs ≡ xs
sets_all xs l e = sym (take_all (length l) (sets l 0 xs) (omega (arith, length-sets l 0 xs))) ∙ front_is xs l (length l) e (omega arith)

-- ---- entries

cond_few : (t : Bool) (xs : List ℤ) (n : ℕ) → length xs ≤ n → length (cond t xs []) ≤ n
cond_few true xs n h = h
cond_few false xs n h = omega arith

pub unpacked_few : (d : Damaged) (k : ℕ) → length (unpacked_upto d k) ≤ 2 * k
unfolding unpacked_upto
unpacked_few d zero = omega arith
unpacked_few d (suc k) =
    let xs = char_at d.entries k ∷ pos (stands_for d.instructions (packed_entry_of d k)) ∷ [] in
    omega (arith, length-append (unpacked_upto d k) (cond (unpacks d k) xs []), unpacked_few d k, cond_few (unpacks d k) xs 2 (omega arith))

-- ---- warnings

warn_few : (t : Bool) (kind : ℕ) (at old new : ℤ) → length (warn_if t (warning kind at old new)) ≤ 4
warn_few t kind at old new = cond_few t (warning kind at old new) 4 (omega arith)

left_few : (d : Damaged) → length (left_warning d) ≤ 4
left_few d = warn_few (left_goes d) 1 (pos 0) (pos 0) (pos 0)

entry_few : (d : Damaged) (k : ℕ) → length (entry_warnings d k) ≤ 4 * k
unfolding entry_warnings
entry_few d zero = omega arith
entry_few d (suc k) =
    omega (
      arith,
      length-append (entry_warnings d k) (warn_if (not (unpacks d k)) (warning 2 (char_at d.entries k) (pos 0) (pos 0))),
      entry_few d k,
      warn_few (not (unpacks d k)) 2 (char_at d.entries k) (pos 0) (pos 0),
    )

skip_few : (p : DamagedProgram) (k : ℕ) → length (skip_warnings p k) ≤ 4 * k
unfolding skip_warnings
skip_few p zero = omega arith
skip_few p (suc k) =
    omega (
      arith,
      length-append (skip_warnings p k) (warn_if (skip_goes p k) (warning 3 (pos k) (pos 0) (pos 0))),
      skip_few p k,
      warn_few (skip_goes p k) 3 (pos k) (pos 0) (pos 0),
    )

step_few : (p : DamagedProgram) (i : ℕ) → length (step_warnings p i) ≤ 20
step_few p i =
    let a = warn_if (redirect_warns p i) (warning 9 (pos i) (pos 0) (pos 0)) in
    let b = warn_if (right_goes p i) (warning (cond (is_ligature p i) 4 5) (pos i) (field p.instructions i 1) (pos p.replacement)) in
    let c = warn_if (kern_goes p i) (warning 7 (pos i) (pos 0) (pos 0)) in
    let e = warn_if (product_goes p i) (warning 6 (pos i) (pos (inserted_by p i)) (pos p.replacement)) in
    let f = warn_if (tag_goes p i) (warning 8 (pos i) (pos 0) (pos 0)) in
    omega (
      arith,
      length-append (a ++ b ++ c ++ e) f,
      length-append (a ++ b ++ c) e,
      length-append (a ++ b) c,
      length-append a b,
      warn_few (redirect_warns p i) 9 (pos i) (pos 0) (pos 0),
      warn_few (right_goes p i) (cond (is_ligature p i) 4 5) (pos i) (field p.instructions i 1) (pos p.replacement),
      warn_few (kern_goes p i) 7 (pos i) (pos 0) (pos 0),
      warn_few (product_goes p i) 6 (pos i) (pos (inserted_by p i)) (pos p.replacement),
      warn_few (tag_goes p i) 8 (pos i) (pos 0) (pos 0),
    )

steps_few : (p : DamagedProgram) (k : ℕ) → length (steps_warnings p k) ≤ 20 * k
unfolding steps_warnings
steps_few p zero = omega arith
steps_few p (suc k) = omega (arith, length-append (steps_warnings p k) (step_warnings p k), steps_few p k, step_few p k)

-- ---- of a font of at most 256 entries

pub enterable_few : (d : Damaged) → is_enterable d ≡ true → length d.entries / 2 ≤ 256
enterable_few d h = leb-true _ 256 (both_right (leb (count d.instructions) 32767) _ h)

module _ (d : Damaged) (few : length d.entries / 2 ≤ 256) where
  pub unpacked_fits : length (unpacked_entries d) ≤ 512
  unpacked_fits = omega (arith, unpacked_few d (length d.entries / 2))

  pub entered_few : length (enter_warnings d) ≤ 1028
  entered_few = omega (arith, length-append (left_warning d) (entry_warnings d (length d.entries / 2)), left_few d, entry_few d (length d.entries / 2))

-- ---- of a font that is not refused

module _ (d : Damaged) (ok : damaged_refusal d ≡ 0) where
  pub program_taken : program_refusal d.instructions ≡ 0
  program_taken = (or_else_none (program_refusal d.instructions) _ ok).0

  pub size : count d.instructions ≤ 32767
  size = program_size d.instructions program_taken

  -- the refusals after those of the entries
  abbrev after_entries : ℕ
  after_entries =
      or_else (absent_refusal 255 d.boundary)
      (or_else (absent_refusal 65535 d.left) (or_else (unless 4 (leb d.replacement 255)) (passthrough_refusal d.passthrough d.instructions)))

  after_kerns : or_else (entries_refusal 255 d.entries) after_entries ≡ 0
  after_kerns = (or_else_none (kerns_refusal d.kerns) _ (or_else_none (program_refusal d.instructions) _ ok).1).1

  pub few_entries : length d.entries / 2 ≤ 256
  few_entries = entries_few 255 d.entries (or_else_none (entries_refusal 255 d.entries) _ after_kerns).0

  pub small : d.replacement < 256
  small =
      let r = (or_else_none (absent_refusal 65535 d.left) _
      (or_else_none (absent_refusal 255 d.boundary) _ (or_else_none (entries_refusal 255 d.entries) _ after_kerns).1).1).1 in
      omega (arith, leb-true d.replacement 255 (unless_none 3 (leb d.replacement 255) (or_else_none (unless 4 (leb d.replacement 255)) _ r).0))

  pub stepped_few : (p : DamagedProgram) → length (skip_warnings p (count d.instructions) ++ steps_warnings p (count d.instructions)) ≤ 786408
  stepped_few p =
      omega (
        arith,
        length-append (skip_warnings p (count d.instructions)) (steps_warnings p (count d.instructions)),
        skip_few p (count d.instructions),
        steps_few p (count d.instructions),
        size,
      )

pub length_passthrough : (d : Damaged) → length (repaired_passthrough d) ≡ count d.instructions
length_passthrough d = length_tabulate (count d.instructions) (λ i. cond (passed_over d i) 1 0)
