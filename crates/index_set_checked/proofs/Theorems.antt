-- Proves what specs/Purpose states. Assumes nothing.
use mathlib.Core.Path.{sym, ap, subst, ◌∙◌}
use Prim.Native.Nat.{ℕ, ◌/◌}
use lib.ListN.{length}
use Rattle.lang.specs.Answers.{Reply}
use Rattle.captions.specs.Begin.{fresh_state}
use Rattle.word_set.specs.Setting.{items_by, after_begin}
use Rattle.word_set.specs.Writing.{Tells}
use Rattle.word_set.specs.Purpose.{AllLetters}
use Rattle.word_set.proofs.Theorems.{every_word}
use Rattle.word_set.proofs.Letters.{every_set_word}
use Rattle.word_set_checked.proofs.Theorems.{checked_begin, begun_taken}
use Rattle.index_step.specs.Indexed.{indexed_step_of}
use Rattle.index_set_word.proofs.Theorems.{indexed_sets}
use Rattle.index_set_checked.specs.Purpose.{CheckedIndexedSets, CheckedFilledSets, CheckedFilledSetsAsWell}
use Rattle.index_set_checked.specs.Purpose.{EveryCheckedIndexedWord, EveryCheckedIndexedLetter}

pub checked_indexed_sets : CheckedIndexedSets
checked_indexed_sets index pairs ops e boundary word options room =
    ap (λ (m : ℕ). after_begin m (items_by (indexed_step_of index pairs ops boundary word options) (room / 6) (fresh_state word options)))
    (checked_begin pairs ops e boundary word options)

pub checked_filled_sets : CheckedFilledSets
checked_filled_sets pairs ops index index' w e boundary word options room =
    checked_indexed_sets index' pairs ops e boundary word options room ∙ indexed_sets pairs ops index index' w boundary word options room

pub checked_filled_sets_as_well : CheckedFilledSetsAsWell
checked_filled_sets_as_well pairs ops index index' w e boundary word options items r items' t =
    let u = subst (λ (q : Reply). Tells q items r items') (checked_filled_sets pairs ops index index' w e boundary word options (length items)) t in
    record { answer = u.answer; list = u.list }

pub every_checked_indexed_word : EveryCheckedIndexedWord
every_checked_indexed_word f pairs ops index index' w word options items room a l =
    let e = begun_taken pairs ops f.boundary word options a.start a.begins in
    (checked_filled_sets pairs ops index index' w e f.boundary word options room, every_word f pairs ops word options items room a l)

pub every_checked_indexed_letter : EveryCheckedIndexedLetter
every_checked_indexed_letter pairs ops index index' w t boundary word options room z =
    let e = checked_filled_sets pairs ops index index' w t boundary word options room in
    subst (AllLetters word) (sym e) (every_set_word pairs ops boundary word options room (sym (ap (λ (r : Reply). r.number) e) ∙ z))
