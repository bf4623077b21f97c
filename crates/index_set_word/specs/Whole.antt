-- A word set whole by an index (R131, R139), over any index: begin's numbers, and then the items of the steps of index_step/specs/Indexed
-- up to the end, six numbers each, as word_set/specs/Setting has them over any step.
use Rattle.std.specs.Prelude.{List, ℕ, ◌/◌, ℤ}
use Rattle.lang.specs.Answers.{Reply}
use Rattle.captions.specs.declared.RunOptions.{RunOptions}
use Rattle.captions.specs.Begin.{begin_refusal, fresh_state}
use Rattle.word_set.specs.Setting.{items_by, after_begin}
use Rattle.index_step.specs.Indexed.{indexed_step_of}

-- what set_word_indexed tells: begin's numbers first; then the items of the run, of which a list of `room` numbers holds room / 6.
-- Its contract is `Tells` of word_set/specs/Writing, of this reply.
abbrev pub indexed_reply : List ℕ → List ℤ → List ℤ → ℤ → List ℕ → RunOptions → ℕ → Reply
indexed_reply index pairs ops boundary word options room =
    after_begin (begin_refusal pairs ops boundary word options)
    (items_by (indexed_step_of index pairs ops boundary word options) (room / 6) (fresh_state word options))
