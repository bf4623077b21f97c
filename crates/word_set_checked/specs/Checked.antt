-- A word set whole over a table that was checked once (R412, R413), over any table: begin's numbers but that of the table's form, and then
-- the items of the run from the fresh state up to the end, six numbers each. The check is `tableRefusal` of captions/specs/Form (R411).
use Rattle.std.specs.Prelude.{List, ℕ, ◌/◌, ℤ}
use Rattle.lang.specs.Checks.{or_else}
use Rattle.lang.specs.Answers.{Reply}
use Rattle.captions.specs.declared.RunOptions.{RunOptions}
use Rattle.captions.specs.Begin.{edges_refusal, word_refusal, letters_refusal, override_refusal, fresh_state}
use Rattle.word_set.specs.Setting.{items_from, after_begin}

-- 4, 6 or 20, the lowest that holds (R412): begin's numbers without the 7 of the table's form
abbrev pub checked_refusal : ℤ → List ℕ → RunOptions → ℕ
checked_refusal boundary word options =
    or_else (edges_refusal boundary options)
    (or_else (word_refusal word) (or_else (letters_refusal word) (override_refusal options.right_boundary_override)))

-- what set_checked_word tells (R413): these numbers first, so that 20 comes before a 7 of the steps; then the items of the run, of which a
-- list of `room` numbers holds room / 6. Its contract is `Tells` of word_set/specs/Writing, of this reply.
abbrev pub checked_word_reply : List ℤ → List ℤ → ℤ → List ℕ → RunOptions → ℕ → Reply
checked_word_reply pairs ops boundary word options room =
    after_begin (checked_refusal boundary word options)
    (items_from pairs ops boundary word options (room / 6) (fresh_state word options))
