-- `table_queries::has_entry` meets its contract: the right where it is there, else the boundary character, each by its word.
-- Assumes nothing.
use mathlib.Core.Path.{◌∙◌}
use Rattle.words.specs.Words.{Word}
use Rattle.lang.proofs.Records.{word_passed}
use Rattle.table_queries.proofs.Laws.{entry_right, entry_edge, entry_none}
use borrow.Author.Rules.{rules}
use Rattle.table_queries.proofs.has_entry.Statement.{statement}
use Rattle.table_queries.proofs.has_entry.Tie as tie

left_read : (c : tie.After-word_of) → Word c.args.left c.word_of.result
left_read c = word_passed c.ranges.left c.word_of.ensures

right_read : (c : tie.After-word_of-character) → Word c.args.right c.word_of-character.result
right_read c = word_passed c.ranges.right c.word_of-character.ensures

edge-read : (c : tie.After-word_of-edge) → Word c.args.boundary c.word_of-edge.result
edge-read c = word_passed c.ranges.boundary c.word_of-edge.ensures

word-of-requires : tie.Need-word_of-requires
word-of-requires c κs = search rules

left-place-requires : tie.Need-left_place-place-requires
left-place-requires c κs = search rules

word-of-requires-2 : tie.Need-word_of-character-requires
word-of-requires-2 c κs = search rules

has-pair-requires : tie.Need-has_pair-requires
has-pair-requires c κs = search rules

returns : tie.Need-returns-then-character-lt2147483648
returns c =
    let a = c.args in
    c.has_pair.ensures
    ∙ entry_right a.pairs.now a.boundary a.left a.right (left_read c.before.before.before.before) c.left_place-place.ensures (right_read (c.before.before)) c.if-character-lt2147483648.true

word-of-requires-3 : tie.Need-word_of-edge-requires
word-of-requires-3 c κs = search rules

has-pair-requires-2 : tie.Need-has_pair-requires-then-edge-lt2147483648
has-pair-requires-2 c κs = search rules

returns-2 : tie.Need-returns-then-edge-lt2147483648
returns-2 c =
    let a = c.args in
    c.has_pair-then-edge-lt2147483648.ensures
    ∙ entry_edge a.pairs.now a.boundary a.left a.right (left_read c.before.before.before.before.before.before) c.left_place-place.ensures (right_read (c.before.before.before.before)) c.if-character-lt2147483648.false
    (edge-read (c.before.before)) c.if-edge-lt2147483648.true

returns-3 : tie.Need-returns
returns-3 c =
    let a = c.args in
    entry_none a.pairs.now a.boundary a.left a.right (left_read c.before.before.before.before.before) c.left_place-place.ensures (right_read (c.before.before.before)) c.if-character-lt2147483648.false (edge-read (c.before))
    c.if-edge-lt2147483648.false

pub has_entry_spec : {M : Type 1} → statement M
has_entry_spec =
    tie.close
    (tie.spec
    word-of-requires
    left-place-requires
    word-of-requires-2
    has-pair-requires
    returns
    word-of-requires-3
    has-pair-requires-2
    returns-2
    returns-3)
