-- The contract of `mend`, from what each pass leaves: the entries, what is reachable, the steps, the loops.
-- Assumes nothing.
use mathlib.Core.Path.{◌≡◌, refl, sym, ap, ◌∙◌, subst}
use mathlib.Core.Bool.{Bool, true, false, cond}
use mathlib.Core.List.{List, [], ◌∷◌, ◌++◌, append_assoc}
use Prim.Native.Nat.{ℕ, zero, suc, ◌+◌, ◌*◌, ◌/◌, ◌<◌, ◌≤◌}
use native.Mathlib.Omega.{arith}
use lib.IntN.{ℤ, pos, negsuc}
use lib.Dec.{leb, ltb, eqb}
use lib.ListN.{length, length-append, take, replicate}
use lib.Seq.{length-sets, sets}
use lib.Signed.{non_neg}
use mir.Syntax.{w32}
use mir.Val.{SFits}
use borrow.Author.Tests.{le-leb, lt-ltb, eqb-true}
use Rattle.words.specs.Words.{word_of, number_of}
use Rattle.words.proofs.Bits.{number_word, number_fits}
use Rattle.lang.specs.declared.Written.{Written}
use Rattle.lang.specs.declared.Written.TheVariants.{Count, Refused}
use Rattle.lang.specs.Every.{both}
use Rattle.lang.specs.Records.{count}
use Rattle.lang.specs.Checks.{or_else, unless}
use Rattle.lang.specs.Answers.{Reply, reply_of, written_reply}
use Rattle.lang.proofs.Every.{both_left, both_right}
use Rattle.lang.proofs.Refusals.{or_else_none, unless_none, first_refusal, refused_reply, taken_reply}
use Rattle.fonts.specs.Compiled.{loops_of_font}
use Rattle.fonts.specs.Fonts.{Font, font_of}
use Rattle.reach_marks.specs.Marks.{reachable}
use Rattle.repairs.specs.declared.Entered.{Entered}
use Rattle.repairs.specs.declared.Validated.{Validated}
use Rattle.repairs.specs.declared.Validated.TheVariants as validated
use Rattle.repairs.specs.Damaged.{Damaged, DamagedProgram, program_by, program_of, unpacked_entries, left_goes, repaired_left, repaired_passthrough}
use Rattle.repairs.specs.Repaired.{repaired_instructions, repaired_font}
use Rattle.repairs.specs.Warnings.{skip_warnings, steps_warnings, repair_warnings, loop_warnings, warnings_of}
use Rattle.repairs.specs.Repairs.{damaged_refusal, repaired_pairs_refusal, validated_reply}
use Rattle.repairs.specs.Pushed.{Pushed}
use Rattle.repairs.proofs.Pushing.{sets_after, pushed_append, loop_count}
use Rattle.repairs.proofs.Steps.{length_upto, same_count}
use Rattle.repair_entries.specs.Entering.{is_enterable, enter_warnings, Enters}
use Rattle.repair_fixes.specs.Fixing.{is_fixable, fix_warnings, Fixes}
use Rattle.repair_loops.specs.WarnsLoops.{if_taken, loop_search_refusal, WarnsLoops}
use Rattle.repair_loops.proofs.Laws.{if_refused}
use Rattle.repair_passes.specs.Mending.{MendLists, mend_lists, lent_refusal, mend_refusal, mend_warnings, handed_on, Mends}
use Rattle.repair_passes.proofs.Sizes.{front_is, sets_all, size, few_entries, small, enterable_few, unpacked_fits, entered_few, stepped_few}
use Rattle.repair_passes.proofs.Sizes.{length_passthrough}

-- ---- of answers

magnitude : List ℤ → ℕ
magnitude [] = 0
magnitude (pos j ∷ vs) = j
magnitude (negsuc j ∷ vs) = 0

-- an answer that is a refusal, and one that is taken, by what it must be
pub refused_by : (r k : ℕ) (v : ℤ) (vs : List ℤ) → ◌≡◌ {A = Reply} (record { number = k; values = [] }) (reply_of r (v ∷ vs)) → (k ≡ r) × (k ≡ 0 → ⊥)
refused_by zero k v vs e =
    let l : ◌≡◌ {A = ℕ} 0 (suc (length vs)) = ap (λ (x : Reply). length x.values) e in
    absurd (omega arith)
refused_by (suc r) k v vs e =
    let l : k ≡ suc r = ap (λ (x : Reply). x.number) e in
    (l, λ z. omega arith)

taken_by : (r n m : ℕ) → reply_of 0 (pos n ∷ []) ≡ reply_of r (pos m ∷ []) → (r ≡ 0) × (n ≡ m)
unfolding magnitude
taken_by zero n m e = (refl, ap (λ (x : Reply). magnitude x.values) e)
taken_by (suc r) n m e =
    let l : ◌≡◌ {A = ℕ} 0 (suc r) = ap (λ (x : Reply). x.number) e in
    absurd (omega arith)

-- what is answered, by what the search for loops answers
handed_reply : (number : ℕ) (left : ℤ) (n : ℕ) (r : Written) → written_reply r ≡ reply_of number (pos n ∷ []) →
    validated_reply (handed_on left r) ≡ reply_of number (left ∷ pos n ∷ [])
handed_reply number left n (Count m) e =
    let x = taken_by number m n e in
    ap (λ (k : ℕ). reply_of 0 (left ∷ pos k ∷ [])) x.1 ∙ taken_reply _ x.0
handed_reply number left n (Refused k) e =
    let x = refused_by number k _ _ e in
    refused_reply _ x.0 x.1

-- ---- the left entry, as it is handed on: of an i32, -1 or itself

left_fits : (t : Bool) (z : ℤ) → SFits w32 z → SFits w32 (cond t (negsuc 0) z)
left_fits true z f = number_fits 4294967295 (omega arith)
left_fits false z f = f

pub left_handed : (d : Damaged) (z : ℤ) → SFits w32 d.left → z ≡ repaired_left d → number_of (word_of z) ≡ repaired_left d
left_handed d z f x = ap (λ (z : ℤ). number_of (word_of z)) x ∙ number_word (repaired_left d) (left_fits (left_goes d) d.left f)

pub left_is : (d : Damaged) {n : ℕ} {z r : ℤ} → SFits w32 d.left → n ≡ count d.instructions → z ≡ d.left →
    r ≡ cond (both (non_neg z) (leb n (word_of z))) (negsuc 0) z → number_of (word_of r) ≡ repaired_left d
left_is d {r = r} f a b g = left_handed d r f (g ∙ (λ i. cond (both (non_neg (b i)) (leb (a i) (word_of (b i)))) (negsuc 0) (b i)))

-- ---- after the entries

-- what stands then, of the font d: the entries have 512 places
pub record AfterEntries (d : Damaged) (through : List ℕ) (warnings : List ℤ) : Type 0 where
  pub places : List ℤ
  pub long : length places ≡ 512
  pub entries : List ℤ
  pub through' : List ℕ
  pub warnings' : List ℤ
  pub entered : Entered
  pub enters : Enters d places through warnings entered entries through' warnings'

module _ {d : Damaged} {through : List ℕ} {warnings : List ℤ} (few : is_enterable d ≡ true) (s : AfterEntries d through warnings) where
  twice : 2 * s.entered.entries ≡ length (unpacked_entries d)
  twice = rw few at s.enters.entries

  pub entries_few : 2 * s.entered.entries ≤ 512
  entries_few = omega (arith, twice, unpacked_fits d (enterable_few d few))

  pub entries_within : 2 * s.entered.entries ≤ length s.entries
  entries_within = omega (arith, entries_few, s.long, ap length (rw few at s.enters.list), length-sets s.places 0 (unpacked_entries d))

  pub entries_are : take (2 * s.entered.entries) s.entries ≡ unpacked_entries d
  entries_are =
      ap (take (2 * s.entered.entries)) (rw few at s.enters.list)
      ∙ front_is (unpacked_entries d) s.places (2 * s.entered.entries) (sym twice) (omega (arith, entries_few, s.long))

  pub passthrough_is : length through ≡ count d.instructions → s.through' ≡ repaired_passthrough d
  passthrough_is h = rw few at s.enters.passthrough ∙ sets_all (repaired_passthrough d) through (length_passthrough d ∙ sym h)

  entry_warned : Pushed warnings 0 (enter_warnings d) s.warnings' s.entered.warnings
  entry_warned = rw few at s.enters.warned

  few_warned : s.entered.warnings ≤ 257
  few_warned = omega (arith, entry_warned.count, entered_few d (enterable_few d few))

-- ---- refused before anything is done

pub not_mended : (d : Damaged) (l : MendLists) (k : ℕ) (work : List ℕ) → k ≡ lent_refusal d l → (k ≡ 0 → ⊥) → work ≡ replicate (length l.work) 0 →
    Mends d l (validated.Refused k) (mend_lists l.program l.through l.warnings work)
not_mended d l k work e h z =
    record {
      answer = refused_reply _ (first_refusal _ e h) h;
      instructions = sym (if_refused (lent_refusal d l) _ l.program (λ o. h (e ∙ o)));
      passthrough = sym (if_refused (lent_refusal d l) _ l.through (λ o. h (e ∙ o)));
      warned = sym (if_refused (lent_refusal d l) _ l.warnings (λ o. h (e ∙ o)));
      cleared = z;
    }

-- ---- where the loops can be looked for, all warnings are written

pub all_written : (d : Damaged) (l : MendLists) → repaired_pairs_refusal d (length l.work) ≡ 0 → mend_warnings d l ≡ warnings_of d
all_written d l e = ap (λ (k : ℕ). repair_warnings d ++ if_taken k (loop_warnings (loops_of_font (repaired_font d))) []) e

-- ---- after each pass

-- what stands then: after the entries, the steps and the loops
pub record Stations (d : Damaged) (l : MendLists) : Type 0 where
  pub first : AfterEntries d l.through l.warnings
  pub boundary : ℤ
  pub boundary_is : boundary ≡ d.boundary
  pub replacement : ℕ
  pub replacement_is : replacement ≡ d.replacement
  pub marks : List ℕ
  pub marks_are : marks ≡ reachable d.instructions (unpacked_entries d) (repaired_left d)
  pub program : List ℤ
  pub warnings : List ℤ
  pub warned : ℕ
  pub fixes : Fixes (program_by d.instructions d.kerns boundary replacement d.existing marks first.through') first.entered.warnings
      l.program first.warnings' warned program warnings
  pub left : ℤ
  pub left_was : left ≡ repaired_left d
  pub warnings' : List ℤ
  pub work : List ℕ
  pub answer : Written
  pub loops : WarnsLoops (font_of program d.kerns (take (2 * first.entered.entries) first.entries) d.boundary left (pos 10485760)) warned
      warnings l.work answer warnings' work

module _ (d : Damaged) (l : MendLists) (ok : lent_refusal d l ≡ 0) where
  pub taken : damaged_refusal d ≡ 0
  taken = (or_else_none (damaged_refusal d) _ ok).0

  lengths : both (eqb (length l.program) (4 * count d.instructions)) (eqb (length l.through) (count d.instructions)) ≡ true
  lengths = unless_none 14 _ (or_else_none (damaged_refusal d) _ ok).1

  pub program_long : length l.program ≡ 4 * count d.instructions
  program_long = eqb-true _ _ (both_left (eqb (length l.program) (4 * count d.instructions)) _ lengths)

  pub through_long : length l.through ≡ count d.instructions
  through_long = eqb-true _ _ (both_right (eqb (length l.program) (4 * count d.instructions)) _ lengths)

  pub enterable : is_enterable d ≡ true
  enterable = rw (le-leb (count d.instructions) 32767 (size d taken), le-leb (length d.entries / 2) 256 (few_entries d taken))

  module _ (s : Stations d l) where
    -- ---- the steps

    program-was : program_by d.instructions d.kerns s.boundary s.replacement d.existing s.marks s.first.through' ≡ program_of d
    program-was =
        let through = passthrough_is enterable s.first through_long in
        λ i. program_by d.instructions d.kerns (s.boundary_is i) (s.replacement_is i) d.existing (s.marks_are i) (through i)

    abbrev Fixed : DamagedProgram → Type 0
    Fixed p = Fixes p s.first.entered.warnings l.program s.first.warnings' s.warned s.program s.warnings

    steps : Fixed (program_of d)
    steps = subst Fixed program-was s.fixes

    fixable : is_fixable (program_of d) s.first.entered.warnings ≡ true
    fixable =
        let n = s.first.entered.warnings in
        let few : n ≤ 65535 = omega (arith, few_warned enterable s.first) in
        let character : d.replacement ≤ 255 = omega (arith, small d taken) in
        rw (le-leb (count d.instructions) 32767 (size d taken), le-leb d.replacement 255 character, le-leb n 65535 few)

    program_is : s.program ≡ repaired_instructions d
    program_is =
        rw fixable at steps.instructions
        ∙ sets_all (repaired_instructions d) l.program (length_upto (program_of d) (count d.instructions) ∙ sym program_long)

    step-warned : Pushed s.first.warnings' s.first.entered.warnings (fix_warnings (program_of d)) s.warnings s.warned
    step-warned = rw fixable at steps.warned

    few-stepped : s.warned < 2147483648
    few-stepped = omega (arith, step-warned.count, stepped_few d taken (program_of d), few_warned enterable s.first)

    repair-warned : Pushed l.warnings 0 (repair_warnings d) s.warnings s.warned
    repair-warned =
        let skips = skip_warnings (program_of d) (count d.instructions) in
        let others = steps_warnings (program_of d) (count d.instructions) in
        subst (λ (ws : List ℤ). Pushed l.warnings 0 ws s.warnings s.warned) (sym (append_assoc (enter_warnings d) skips others))
        (pushed_append _ _ _ _ _ _ _ _ (entry_warned enterable s.first) step-warned)

    -- ---- the loops

    font-was : font_of s.program d.kerns (take (2 * s.first.entered.entries) s.first.entries) d.boundary s.left (pos 10485760)
        ≡ repaired_font d
    font-was =
        let es = entries_are enterable s.first in
        λ i. font_of (program_is i) d.kerns (es i) d.boundary (s.left_was i) (pos 10485760)

    looped : WarnsLoops (repaired_font d) s.warned s.warnings l.work s.answer s.warnings' s.work
    looped = subst (λ (f : Font). WarnsLoops f s.warned s.warnings l.work s.answer s.warnings' s.work) font-was s.loops

    -- 12 or none
    abbrev number : ℕ
    number = repaired_pairs_refusal d (length l.work)

    pub search_refusal : loop_search_refusal (repaired_font d) s.warned l.work ≡ number
    search_refusal =
        let h : count (repaired_instructions d) ≤ 32767 = omega (arith, same_count d, size d taken) in
        ap (λ (t : Bool). or_else (or_else (cond t 0 1) number) (unless 15 (ltb s.warned 2147483648))) (le-leb (count (repaired_instructions d)) 32767 h)
        ∙ ap (λ (t : Bool). or_else number (unless 15 t)) (lt-ltb s.warned 2147483648 few-stepped) ∙ alone number
      where
        alone : (k : ℕ) → or_else k 0 ≡ k
        alone zero = refl
        alone (suc k) = refl

    counted : s.warned + length (loops_of_font (repaired_font d)) ≡ length (warnings_of d) / 4
    counted =
        let loops = loops_of_font (repaired_font d) in
        omega (arith, repair-warned.count, length-append (repair_warnings d) (loop_warnings loops), loop_count loops)

    said : written_reply s.answer ≡ reply_of number (pos (length (warnings_of d) / 4) ∷ [])
    said = looped.answer ∙ (λ i. reply_of (search_refusal i) (pos (counted i) ∷ []))

    all-warned : s.warnings' ≡ sets l.warnings 0 (mend_warnings d l)
    all-warned =
        let ws = loop_warnings (loops_of_font (repaired_font d)) in
        sets_after (repair_warnings d) (if_taken number ws []) l.warnings 0 (4 * s.warned) repair-warned.list repair-warned.count
        (looped.warned ∙ ap (λ (k : ℕ). sets s.warnings (4 * s.warned) (if_taken k ws [])) search_refusal)

    pub mended : (v : Validated) → v ≡ handed_on s.left s.answer → Mends d l v (mend_lists s.program s.first.through' s.warnings' s.work)
    mended v h =
        let n = length (warnings_of d) / 4 in
        record {
          answer =
              ap validated_reply h ∙ handed_reply number s.left n s.answer said ∙ (λ i. reply_of (or_else (sym ok i) number) (s.left_was i ∷ pos n ∷ []));
          instructions = program_is ∙ ap (λ (k : ℕ). if_taken k (repaired_instructions d) l.program) (sym ok);
          passthrough = passthrough_is enterable s.first through_long ∙ ap (λ (k : ℕ). if_taken k (repaired_passthrough d) l.through) (sym ok);
          warned = all-warned ∙ ap (λ (k : ℕ). if_taken k (sets l.warnings 0 (mend_warnings d l)) l.warnings) (sym ok);
          cleared = looped.cleared;
        }
