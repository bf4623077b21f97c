-- `chip_begin::begin_run` meets its contract: begin over no letters.
-- Assumes nothing.
use mathlib.Core.Path.{◌∙◌}
use mathlib.Core.List.{[]}
use Rattle.words.specs.Words.{word_of, number_of}
use Rattle.words.proofs.Bits.{number_word}
use Rattle.captions.specs.Begin.{begin_of, plain_options}
use Rattle.captions.proofs.Replies.{begin_is}
use borrow.Author.Rules.{rules}
use Rattle.chip_begin.proofs.begin_run.Statement.{statement}
use Rattle.chip_begin.proofs.begin_run.Tie as tie

array-share-prefix-letters : tie.Need-slice_bounds-letters-end
array-share-prefix-letters c = search rules

slice-aggregate-begin : tie.Need-slice_bounds-begin-end
slice-aggregate-begin c = search rules

begin-requires : tie.Need-begin-requires
begin-requires c κs = search rules

returns : tie.Need-returns
returns c =
    let a = c.args in
    begin_is a.pairs.now a.ops.now (number_of (word_of a.boundary)) [] plain_options c.begin.result c.begin.ensures
    ∙ (λ j. begin_of a.pairs.now a.ops.now (number_word a.boundary c.ranges.boundary j) [] plain_options)

pub begin_run_spec : {M : Type 1} → statement M
begin_run_spec =
    tie.close
    (tie.spec
    array-share-prefix-letters
    slice-aggregate-begin
    begin-requires
    returns)
