-- `index_set_word::set_word_indexed` meets its contract: the number of begin, or the items of the run.
-- Assumes nothing.
use mathlib.Core.Path.{sym, subst, ◌∙◌}
use lib.IntN.{ℤ}
use lib.ListN.{length}
use Rattle.words.specs.Words.{word_of, number_of}
use Rattle.words.proofs.Bits.{number_word}
use Rattle.lang.specs.declared.Written.TheVariants.{Refused}
use Rattle.captions.proofs.Replies.{begin_is}
use Rattle.word_set.specs.Writing.{Tells}
use Rattle.word_set.proofs.Standing.{blank, tells_run, tells_no_run}
use Rattle.index_step.specs.Indexed.{indexed_step_of}
use Rattle.index_set_word.specs.Whole.{indexed_reply}
use borrow.Author.Rules.{rules}
use Rattle.index_set_word.proofs.set_word_indexed.Statement.{statement}
use Rattle.index_set_word.proofs.set_word_indexed.Tie as tie

zero-all-requires : tie.Need-zero_all-requires
zero-all-requires c κs = search rules

begin-requires : tie.Need-begin-requires
begin-requires c κs = search rules

enum-known-state : tie.Need-enum_known-state
enum-known-state c = search rules

set-from-requires : tie.Need-set_from-requires
set-from-requires c κs =
    blank c.args.items.now c.zero_all.new.s c.zero_all.ensures

enum-known-n : tie.Need-enum_known-n
enum-known-n c = search rules

same_length : tie.Need-shape_of-items-in-Run
same_length c = search rules

returns : tie.Need-returns-in-Run
returns c =
    let a = c.args in
    subst (λ (y : ℤ). Tells (indexed_reply a.index.now a.pairs.now a.ops.now y a.word.now a.options (length a.items.now)) a.items.now
    c.set_from.result c.set_from.new.items) (number_word a.boundary c.ranges.boundary)
    (tells_run (indexed_step_of a.index.now a.pairs.now a.ops.now (number_of (word_of a.boundary)) a.word.now a.options) a.pairs.now
    a.ops.now (number_of (word_of a.boundary)) a.word.now a.options a.items.now c.zero_all.new.s c.in-Run.state
    (sym c.in-Run.is
    ∙ begin_is a.pairs.now a.ops.now (number_of (word_of a.boundary)) a.word.now a.options c.begin.result c.begin.ensures)
    c.zero_all.auto.s c.set_from.result c.set_from.new.items c.set_from.ensures)

same-length-2 : tie.Need-shape_of-items-in-Refused
same-length-2 c = search rules

returns-2 : tie.Need-returns-in-Refused
returns-2 c =
    let a = c.args in
    subst (λ (y : ℤ). Tells (indexed_reply a.index.now a.pairs.now a.ops.now y a.word.now a.options (length a.items.now)) a.items.now
    (Refused c.in-Refused.n) c.zero_all.new.s) (number_word a.boundary c.ranges.boundary)
    (tells_no_run (indexed_step_of a.index.now a.pairs.now a.ops.now (number_of (word_of a.boundary)) a.word.now a.options) a.pairs.now
    a.ops.now (number_of (word_of a.boundary)) a.word.now a.options a.items.now c.zero_all.new.s c.in-Refused.n
    (sym c.in-Refused.is
    ∙ begin_is a.pairs.now a.ops.now (number_of (word_of a.boundary)) a.word.now a.options c.begin.result c.begin.ensures)
    c.zero_all.ensures)

pub set_word_indexed_spec : {M : Type 1} → statement M
set_word_indexed_spec =
    tie.close
    (tie.spec
    zero-all-requires
    begin-requires
    enum-known-state
    set-from-requires
    enum-known-n
    same_length
    returns
    same-length-2
    returns-2)
