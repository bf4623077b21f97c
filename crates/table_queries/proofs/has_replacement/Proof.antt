-- `table_queries::has_replacement` meets its contract: the answer, or the number of the refusal.
-- Assumes nothing.
use mathlib.Core.Path.{◌≡◌}
use Rattle.words.proofs.Bits.{number_word}
use Rattle.captions.specs.Steps.{right_item}
use Rattle.captions.specs.Queries.{has_entry, has_refusal}
use Rattle.captions.proofs.Replies.{told_refused, told_is}
use borrow.Author.Rules.{rules}
use Rattle.table_queries.proofs.has_replacement.Statement.{statement}
use Rattle.table_queries.proofs.has_replacement.Tie as tie

refusal : (c : tie.After-has_refusal-refusal) →
    c.has_refusal-refusal.result ≡ has_refusal c.args.pairs.now c.args.boundary c.args.left c.args.right
refusal c =
    rw (number_word c.args.boundary c.ranges.boundary, number_word c.args.left c.ranges.left, number_word c.args.right c.ranges.right) at
    c.has_refusal-refusal.ensures

entry : (c : tie.After-has_entry) →
    c.has_entry.result ≡ has_entry c.args.pairs.now c.args.left
    (right_item c.args.boundary c.args.right)
entry c =
    rw (number_word c.args.boundary c.ranges.boundary, number_word c.args.left c.ranges.left, number_word c.args.right c.ranges.right) at
    c.has_entry.ensures

has-refusal-requires : tie.Need-has_refusal-refusal-requires
has-refusal-requires c κs = search rules

returns : tie.Need-returns-then-refusal-ne0
returns c = told_refused _ _ _ (refusal c.before) c.if-refusal-ne0.true

has-entry-requires : tie.Need-has_entry-requires
has-entry-requires c κs = search rules

returns-2 : tie.Need-returns
returns-2 c = told_is _ _ _ _ (refusal c.before.before) c.if-refusal-ne0.false (entry c)

pub has_replacement_spec : {M : Type 1} → statement M
has_replacement_spec =
    tie.close
    (tie.spec
    has-refusal-requires
    returns
    has-entry-requires
    returns-2)
