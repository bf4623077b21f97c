-- A word set whole by an index over a table that was checked once (R412, R414), over any table and any index: the numbers of
-- word_set_checked/specs/Checked, and then the items of the steps of index_step/specs/Indexed from the fresh state up to the end.
use Rattle.std.specs.Prelude.{List, ℕ, ◌/◌, ℤ}
use Rattle.lang.specs.Answers.{Reply}
use Rattle.captions.specs.declared.RunOptions.{RunOptions}
use Rattle.captions.specs.Begin.{fresh_state}
use Rattle.word_set.specs.Setting.{items_by, after_begin}
use Rattle.word_set_checked.specs.Checked.{checked_refusal}
use Rattle.index_step.specs.Indexed.{indexed_step_of}

-- what set_checked_word_indexed tells. Its contract is `Tells` of word_set/specs/Writing, of this reply.
abbrev pub checked_indexed_reply : List ℕ → List ℤ → List ℤ → ℤ → List ℕ → RunOptions → ℕ → Reply
checked_indexed_reply index pairs ops boundary word options room =
    after_begin (checked_refusal boundary word options)
    (items_by (indexed_step_of index pairs ops boundary word options) (room / 6) (fresh_state word options))
