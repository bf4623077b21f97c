-- Proves what specs/Purpose states: without the table's 7, begin's numbers are those that are asked. Assumes nothing.
use mathlib.Core.Path.{◌≡◌, refl, sym, ap, subst, ◌∙◌}
use mathlib.Core.Bool.{true, false}
use mathlib.Core.List.{List, []}
use Prim.Native.Nat.{ℕ, zero, suc, ◌/◌}
use native.Mathlib.Omega.{arith}
use lib.IntN.{ℤ}
use lib.ListN.{length, get_or}
use Rattle.lang.specs.Answers.{Reply}
use Rattle.lang.specs.Checks.{or_else, is_letter}
use Rattle.lang.proofs.Every.{every_none}
use Rattle.lang.proofs.Refusals.{or_else_none}
use Rattle.captions.specs.declared.RunOptions.{RunOptions}
use Rattle.captions.specs.declared.State.{State}
use Rattle.captions.specs.declared.Begun.TheVariants.{Run}
use Rattle.captions.specs.Form.{table_refusal}
use Rattle.captions.specs.Begin.{edges_refusal, word_refusal, letters_refusal, override_refusal, begin_refusal, fresh_state, plain_options, begun_by, begin_of}
use Rattle.word_set.specs.Setting.{items_from, after_begin}
use Rattle.word_set.specs.Writing.{Tells}
use Rattle.word_set.specs.Purpose.{AllLetters}
use Rattle.word_set.proofs.Theorems.{every_word}
use Rattle.word_set.proofs.Letters.{every_set_word}
use Rattle.word_set_checked.specs.Checked.{checked_refusal}
use Rattle.word_set_checked.specs.Purpose.{CheckedSets, CheckedSetsAsWell, CompiledIsTaken, EveryCheckedWord, EveryCheckedLetter}

-- the number of begin, of a table that the check takes
pub checked_begin : (pairs ops : List ℤ) → table_refusal pairs ops ≡ 0 → (boundary : ℤ) (word : List ℕ) (options : RunOptions) →
    checked_refusal boundary word options ≡ begin_refusal pairs ops boundary word options
checked_begin pairs ops e boundary word options =
    λ j. or_else (edges_refusal boundary options)
    (or_else (word_refusal word) (or_else (sym e j) (or_else (letters_refusal word) (override_refusal options.right_boundary_override))))

pub checked_sets : CheckedSets
checked_sets pairs ops e boundary word options room =
    ap (λ (m : ℕ). after_begin m (items_from pairs ops boundary word options (room / 6) (fresh_state word options)))
    (checked_begin pairs ops e boundary word options)

pub checked_sets_as_well : CheckedSetsAsWell
checked_sets_as_well pairs ops e boundary word options items r items' t =
    let u = subst (λ (q : Reply). Tells q items r items') (checked_sets pairs ops e boundary word options (length items)) t in
    record { answer = u.answer; list = u.list }

-- ---- a run that begins has a table that is taken

run_none : (m : ℕ) (s t : State) → begun_by m s ≡ Run t → m ≡ 0
run_none zero s t e = refl
run_none (suc m) s t e = absurd (let z : ◌≡◌ {A = ℕ} 0 1 = cc in omega arith)

pub begun_taken : (pairs ops : List ℤ) (boundary : ℤ) (word : List ℕ) (options : RunOptions) (s : State) →
    begin_of pairs ops boundary word options ≡ Run s → table_refusal pairs ops ≡ 0
begun_taken pairs ops boundary word options s e =
    let codes = or_else (letters_refusal word) (override_refusal options.right_boundary_override) in
    let n = run_none (begin_refusal pairs ops boundary word options) (fresh_state word options) s e in
    let a = or_else_none (edges_refusal boundary options) (or_else (word_refusal word) (or_else (table_refusal pairs ops) codes)) n in
    let b = or_else_none (word_refusal word) (or_else (table_refusal pairs ops) codes) a.1 in
    (or_else_none (table_refusal pairs ops) codes b.1).0

pub compiled_is_taken : CompiledIsTaken
compiled_is_taken f l pairs ops loops d =
    let a = (d.run_ends [] plain_options
    (record { «letters_fit» = every_none (λ (i : ℕ). is_letter (get_or [] i 0)); «word_fits» = omega arith; «override_fits_lem» = refl })).1 in
    begun_taken pairs ops f.boundary [] plain_options a.start a.begins

pub every_checked_word : EveryCheckedWord
every_checked_word f pairs ops word options items room a l =
    let e = begun_taken pairs ops f.boundary word options a.start a.begins in
    (e, checked_sets pairs ops e f.boundary word options room, every_word f pairs ops word options items room a l)

pub every_checked_letter : EveryCheckedLetter
every_checked_letter pairs ops t boundary word options room z =
    let e = checked_sets pairs ops t boundary word options room in
    subst (AllLetters word) (sym e) (every_set_word pairs ops boundary word options room (sym (ap (λ (r : Reply). r.number) e) ∙ z))
