-- Proves what specs/Purpose states of what is read: writing takes it, and its text is read as the same.
-- Assumes nothing.
use mathlib.Core.Path.{◌≡◌, refl, ap, ◌∙◌, subst}
use mathlib.Core.Bool.{Bool, true, false}
use mathlib.Core.List.{List, []}
use mathlib.Core.Logic.{◌⊎◌, inl, inr}
use mathlib.Core.Option.{some}
use Prim.Native.Nat.{ℕ, ◌+◌, ◌*◌, ◌/◌, ◌%◌, ◌<◌, ◌≤◌}
use native.Mathlib.Omega.{arith}
use lib.Dec.{leb, ltb, eqb}
use lib.IntN.{ℤ, pos}
use lib.ListN.{length, get_or, get_or-eq_default}
use mir.Syntax.{w32}
use mir.Val.{SFits}
use borrow.Author.Tests.{eq-eqb, lt-ltb, le-leb, leb-true}
use Rattle.words.specs.Words.{word_of, number_of}
use Rattle.words.proofs.Bits.{number_pos}
use Rattle.words.proofs.Tests.{less_or_not}
use Rattle.lang.specs.Every.{both, every}
use Rattle.lang.specs.Records.{count, field, within, absent_or, operand_fits, is_instruction, is_kind}
use Rattle.lang.specs.Checks.{entry_at, unless, or_else, program_refusal, entries_refusal}
use Rattle.lang.specs.Answers.{room_refusal}
use Rattle.lang.proofs.Every.{every_all}
use Rattle.lang.proofs.Refusals.{or_else_none, unless_none}
use Rattle.program_kerns.specs.Kerns.{packed, unpacked, kern_place, kerns_of}
use Rattle.files.specs.Purpose.{AreI32}
use Rattle.file_fonts.proofs.Ascending.{Ascending, twos, placed as placed-entry, ascending_taken}
use Rattle.property_lists.specs.Displays.{has_text, next_shown, operand_shown, instruction_shown, kerns_shown, entries_shown, left_shown}
use Rattle.property_lists.specs.ListReading.{ListRead, label_entries, pl_refusal}
use Rattle.pl_read_backs.specs.Purpose.{ListReadBack, list_fault, list_text, ListWritten, ReadIsWritten}
use Rattle.pl_programs.proofs.Theorems.{counted, field_at, next_at, program_taken, indices_none, list_finished_lem}
use Rattle.pl_programs.proofs.Sound.{NextIn, halts, leads, follows, last, OperandIn, kern, ligature, LabelIn, no_label, to}
use Rattle.pl_programs.proofs.Sound.{BoundaryIn, absent, there, Finished, small_fits, absent_fits}
use Rattle.pl_read_backs.proofs.Entries.{labels_ascending, labels_again}
use Rattle.pl_read_backs.proofs.Theorems.{font_read_back}
use Rattle.pl_read_backs.proofs.Shared.{kerns_all, shared_program, shared_count, few_kerns, kerns_fit, shared_first, shared_kern, shared_other, placed}
use Rattle.pl_read_backs.proofs.Shared.{shared_fits, packed_back}

-- ---- the numbers of a step

next_shown_lem : {steps needed i : ℕ} {z : ℤ} → needed ≤ steps → NextIn steps needed false i z → next_shown steps i z ≡ true
next_shown_lem h halts = refl
next_shown_lem {steps} {i = i} h (leads m a b) = rw (le-leb m 127 a, lt-ltb (i + 1 + m) steps (omega arith))
next_shown_lem {steps} {i = i} h (follows a) = lt-ltb (i + 1 + 0) steps (omega arith)
next_shown_lem h (last e t) = absurd (let z : ◌≡◌ {A = ℕ} 0 1 = cc in omega arith)

-- a ligature is shown, and a kern value has a text
operand_other : (kerns : ℕ) {kind z : ℤ} → OperandIn kind z → eqb (word_of kind) 0 ≡ false → operand_shown kerns (word_of kind) z ≡ true
operand_other kerns (kern z e) t = absurd (let q : ◌≡◌ {A = ℕ} 0 1 = cc in omega arith)
operand_other kerns (ligature op inserted a b e) t = let q : (256 * op + inserted) / 256 ≡ op = omega arith in rw q e

operand_text : {kind z : ℤ} → OperandIn kind z → eqb (word_of kind) 0 ≡ true → has_text z ≡ true
operand_text (kern z e) t = e
operand_text (ligature op inserted a b e) t = absurd (let q : ◌≡◌ {A = ℕ} 0 1 = cc in omega arith)

both_yes : (a b : Bool) → a ≡ true → b ≡ true → both a b ≡ true
both_yes true b e g = g
both_yes false b e g = e

-- ---- the boundary character and the left entry

boundary_range : {w : ℕ} → BoundaryIn w → absent_or 255 (number_of w) ≡ true
boundary_range absent = refl
boundary_range (there c h) = rw (number_pos c (omega arith)) (le-leb c 255 h)

boundary_fits : {w : ℕ} → BoundaryIn w → SFits w32 (number_of w)
boundary_fits absent = absent_fits
boundary_fits (there c h) = rw (number_pos c (omega arith)) (small_fits c (omega arith))

label_range : {needed : ℕ} {z : ℤ} → LabelIn needed z → absent_or 65535 z ≡ true
label_range no_label = refl
label_range (to m a b) = le-leb m 65535 b

label_shown : {needed steps : ℕ} {z : ℤ} → needed ≤ steps → LabelIn needed z → left_shown steps z ≡ true
label_shown h no_label = refl
label_shown {steps = steps} h (to m a b) = lt-ltb m steps (omega arith)

label_fits : {needed : ℕ} {z : ℤ} → LabelIn needed z → SFits w32 z
label_fits no_label = absent_fits
label_fits (to m a b) = small_fits m (omega arith)

-- ---- entries are i32

entries_fit : {l b : ℕ} {es : List ℤ} → Ascending l es b → l ≤ 65536 → b ≤ 256 → AreI32 es
entries_fit {es = es} a h k i = by (less_or_not i (length es)) (less_or_not (i % 2) 1)
  where
    at : (j : ℕ) → i ≡ j → SFits w32 (get_or es j (pos 0)) → SFits w32 (get_or es i (pos 0))
    at j e f = rw e f

    by : (i < length es) ⊎ (length es ≤ i) → (i % 2 < 1) ⊎ (1 ≤ i % 2) → SFits w32 (get_or es i (pos 0))
    by (inl m) (inl o) =
        let t = twos a in
        let p = placed-entry a (i / 2) (omega arith) in
        at (2 * (i / 2)) (omega arith) (rw p.char_is (small_fits p.char (omega (arith, p.char_below))))
    by (inl m) (inr o) =
        let t = twos a in
        let p = placed-entry a (i / 2) (omega arith) in
        at (2 * (i / 2) + 1) (omega arith) (rw p.entry_is (small_fits p.entry (omega (arith, p.entry_below))))
    by (inr m) o = rw (get_or-eq_default es (pos 0) {n = i} m) (small_fits 0 (omega arith))

-- ---- a whole font

module _ (x : ListRead) (f : Finished x) (small : x.now.steps ≤ 32767) where
  abbrev entries_read : List ℤ
  entries_read = label_entries x.labels 256

  -- the program with its kerns shared
  abbrev program : List ℤ
  program = unpacked x.program

  taken : program_refusal x.program ≡ 0
  taken = program_taken x f small

  count_is : count program ≡ x.now.steps
  count_is = shared_count x.program taken f.sound.fits (indices_none x f) ∙ counted x f

  step_shown : (i : ℕ) → i < x.now.steps → (t : Bool) → is_kind 0 x.program i ≡ t →
      operand_shown (length (kerns_of x.program)) (word_of (field program i 2)) (field program i 3) ≡ true
  step_shown i k true t =
      let h : i < count x.program = rw (counted x f) k in
      let s = shared_kern x.program taken f.sound.fits (indices_none x f) i h t in
      rw (s.0, s.1)
      (lt-ltb (kern_place (field x.program i 3) (kerns_of x.program)) (length (kerns_of x.program))
      (placed x.program taken f.sound.fits (indices_none x f) i h t))
  step_shown i k false t =
      let h : i < count x.program = rw (counted x f) k in
      rw (
        shared_other x.program taken f.sound.fits (indices_none x f) i h t 2 (omega arith),
        shared_other x.program taken f.sound.fits (indices_none x f) i h t 3 (omega arith),
        field_at x f i 2 k,
        field_at x f i 3 k,
      )
      (operand_other (length (kerns_of x.program)) (f.sound.operand i k) (rw (field_at x f i 2 k) at t))

  instructions_shown : (i : ℕ) → i < count program → instruction_shown program (length (kerns_of x.program)) i ≡ true
  instructions_shown i h =
      let k : i < x.now.steps = omega (arith, count_is) in
      let g : i < count x.program = rw (counted x f) k in
      let n : next_shown (count program) i (field program i 0) ≡ true =
      ap (next_shown (count program) i) (shared_first x.program taken f.sound.fits (indices_none x f) i g 0 (omega arith) ∙ next_at x f i k)
      ∙ ap (λ (m : ℕ). next_shown m i (get_or x.program (4 * i) (pos 0))) count_is ∙ next_shown_lem f.few (f.sound.next i k) in
      both_yes (next_shown (count program) i (field program i 0))
      (operand_shown (length (kerns_of x.program)) (word_of (field program i 2)) (field program i 3)) n (step_shown i k (is_kind 0 x.program i) refl)

  kerns_shown_lem : kerns_shown (kerns_of x.program) ≡ true
  kerns_shown_lem =
      every_all (length (kerns_of x.program)) (λ i. has_text (get_or (kerns_of x.program) i (pos 0)))
      (kerns_all has_text x.program (λ i h t. let k : i < x.now.steps = omega (arith, counted x f) in
      rw (field_at x f i 3 k) (operand_text (f.sound.operand i k) (rw (field_at x f i 2 k) at t))))

  entries_ascend : Ascending x.now.needed entries_read 256
  entries_ascend = labels_ascending x.labels x.now.needed f.sound.labels 256 256 (omega arith) (omega arith)

  entries_taken : entries_refusal 65535 entries_read ≡ 0
  entries_taken = ascending_taken entries_ascend (let l = f.few in omega arith) (omega arith)

  entries_shown_lem : entries_shown (count program) entries_read ≡ true
  entries_shown_lem =
      every_all (length entries_read / 2) (λ i. ltb (word_of (entry_at entries_read i)) (count program))
      (λ i h. let p = placed-entry entries_ascend i h in
      let l = f.few in
      rw (p.entry_is, lt-ltb p.entry (count program) (omega (arith, count_is, p.entry_below))))

  left_in : LabelIn x.now.needed (get_or x.labels 256 (pos 0))
  left_in = f.sound.labels 256 (omega arith)

  font_taken : list_fault x ≡ 0
  unfolding every
  font_taken =
      let l = f.few in
      rw (
        shared_program x.program taken f.sound.fits (indices_none x f),
        le-leb (length (kerns_of x.program)) 32767 (few_kerns x.program taken f.sound.fits (indices_none x f)),
        entries_taken,
        boundary_range f.sound.boundary,
        label_range left_in,
        every_all (count program) (instruction_shown program (length (kerns_of x.program))) instructions_shown,
        kerns_shown_lem,
        entries_shown_lem,
        label_shown {steps = count program} (omega (arith, count_is)) left_in,
      )

  font_again : ListReadBack (list_text x) program (kerns_of x.program) entries_read (number_of x.now.boundary) (get_or x.labels 256 (pos 0))
  font_again =
      (font_read_back program (kerns_of x.program) entries_read (number_of x.now.boundary) (get_or x.labels 256 (pos 0))
      (shared_fits x.program taken f.sound.fits (indices_none x f)) (kerns_fit x.program taken f.sound.fits (indices_none x f))
      (entries_fit entries_ascend (let l = f.few in omega arith) (omega arith)) (boundary_fits f.sound.boundary) (label_fits left_in) font_taken).0

  font_written : ListWritten x
  font_written =
      let b = font_again in
      let steps = b.steps ∙ count_is in
      let own = b.program ∙ packed_back x.program taken f.sound.fits (indices_none x f) in
      let labels = b.labels ∙ labels_again x.labels x.now.needed f.sound.labels f.sound.places in
      record {
        taken = font_taken;
        refusal = λ room kernRoom entryRoom. rw (b.read, steps, own, labels);
        program = rw (b.read, own);
        shares = rw (b.read, own);
        entries = rw (b.read, labels);
        values = rw (b.read, steps, own, labels, b.boundary_char);
      }

pub read_is_written : ReadIsWritten
read_is_written text x room kernRoom entryRoom e q = font_written x (list_finished_lem text x e) (few (rw e at q))
  where
    few : pl_refusal (some x) room kernRoom entryRoom ≡ 0 → x.now.steps ≤ 32767
    few h =
        leb-true x.now.steps 32767
        (unless_none 0 (leb x.now.steps 32767)
        (or_else_none (unless 1 (leb x.now.steps 32767))
        (or_else (room_refusal (4 * x.now.steps) room)
        (or_else (room_refusal (length (kerns_of x.program)) kernRoom) (room_refusal (length (label_entries x.labels 256)) entryRoom))) h).0)
