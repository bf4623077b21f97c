-- Proves what specs/Purpose states: steps that agree for every state set the same items, and so lose no letter.
-- Assumes nothing.
use mathlib.Core.Path.{sym, ap, ◌∙◌, subst}
use Prim.Native.Nat.{◌/◌}
use lib.ListN.{length}
use Rattle.lang.specs.Answers.{Reply}
use Rattle.captions.specs.Begin.{begin_refusal, fresh_state}
use Rattle.word_set.specs.Setting.{items_by, after_begin}
use Rattle.word_set.specs.Writing.{Tells}
use Rattle.word_set.specs.Purpose.{AllLetters}
use Rattle.word_set.proofs.Letters.{every_set_word}
use Rattle.index_step.proofs.Theorems.{indexed_steps}
use Rattle.index_set_word.specs.Purpose.{IndexedSets, SetsAsWell, EveryIndexedWord}

pub indexed_sets : IndexedSets
indexed_sets pairs ops index index' w boundary word options room =
    λ j. after_begin (begin_refusal pairs ops boundary word options)
    (items_by (λ s. indexed_steps pairs ops index index' w boundary word options s j) (room / 6) (fresh_state word options))

pub sets_as_well : SetsAsWell
sets_as_well pairs ops index index' w boundary word options items r items' t =
    let u = subst (λ (q : Reply). Tells q items r items') (indexed_sets pairs ops index index' w boundary word options (length items)) t in
    record { answer = u.answer; list = u.list }

pub every_indexed_word : EveryIndexedWord
every_indexed_word pairs ops index index' w boundary word options room z =
    let e = indexed_sets pairs ops index index' w boundary word options room in
    subst (AllLetters word) (sym e) (every_set_word pairs ops boundary word options room (sym (ap (λ (r : Reply). r.number) e) ∙ z))
