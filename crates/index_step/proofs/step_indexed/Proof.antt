-- `index_step::step_indexed` meets its contract: the step where the state is not quick, else by what the index says.
-- Assumes nothing.
use mathlib.Core.Path.{◌≡◌, ap, ◌∙◌}
use lib.IntN.{ℤ}
use Rattle.words.specs.Words.{word_of, number_of}
use Rattle.words.proofs.Bits.{number_word}
use Rattle.captions.specs.declared.Step.{Step}
use Rattle.captions.proofs.Replies.{stepped_is}
use Rattle.index_step.specs.Indexed.{indexed_step_of, IndexedStepped}
use Rattle.index_step.proofs.Laws.{answered_as, other_is, missing_is, wrong_is, first_is, later_is}
use borrow.Author.Rules.{rules}
use Rattle.index_step.proofs.step_indexed.Statement.{statement}
use Rattle.index_step.proofs.step_indexed.Tie as tie

-- an answer at the boundary character as it was passed on, its bits
finish : (c : tie.Start) {r : Step} →
    r ≡ indexed_step_of c.args.index.now c.args.pairs.now c.args.ops.now (number_of (word_of c.args.boundary)) c.args.word.now
    c.args.options c.args.state →
    IndexedStepped c.args.index.now c.args.pairs.now c.args.ops.now c.args.boundary c.args.word.now c.args.options
    c.args.state r
finish c e =
    let a = c.args in
    answered_as a.index.now a.pairs.now a.ops.now a.boundary a.word.now a.options a.state
    (e
    ∙ ap (λ (z : ℤ). indexed_step_of a.index.now a.pairs.now a.ops.now z a.word.now a.options a.state)
    (number_word a.boundary c.ranges.boundary))

quick-left-requires : tie.Need-quick_left-left-requires
quick-left-requires c κs = search rules

kern-step-requires : tie.Need-kern_step-requires
kern-step-requires c κs = search rules

returns : tie.Need-returns-then-left-eq0
returns c =
    let a = c.args in
    finish (c.before.before.before.before.before)
    (other_is a.index.now a.pairs.now a.ops.now (number_of (word_of a.boundary)) a.word.now a.options a.state
    c.quick_left-left.ensures c.if-left-eq0.true c.kern_step.ensures)

item-at-requires : tie.Need-item_at-requires
item-at-requires c κs = search rules

look-up-requires : tie.Need-look_up-requires
look-up-requires c κs = search rules

enum_told : tie.Need-enum_told-1
enum_told c = search rules

quick-step-requires : tie.Need-quick_step-requires
quick-step-requires c κs = search rules

enum-known-k : tie.Need-enum_known-k
enum-known-k c = search rules

is-ready-requires : tie.Need-is_ready-requires
is-ready-requires c κs = search rules

quick-step-requires-2 : tie.Need-quick_step-requires-then-is_ready
quick-step-requires-2 c κs = search rules

returns-2 : tie.Need-returns-then-is_ready
returns-2 c =
    let a = c.args in
    finish (c.before.before.before.before.before.before.before.before.before.before)
    (first_is a.index.now a.pairs.now a.ops.now (number_of (word_of a.boundary)) a.word.now a.options a.state
    c.quick_left-left.ensures c.if-left-eq0.false c.item_at.ensures c.look_up.ensures
    c.in-At.k c.in-At.is c.is_ready.ensures c.if-is_ready.true c.quick_step-then-is_ready.ensures)

step-requires : tie.Need-step-requires
step-requires c κs = search rules

enum-told-2 : tie.Need-enum_told-in-Wrong
enum-told-2 c = search rules

returns-3 : tie.Need-returns-in-Missing
returns-3 c =
    let a = c.args in
    finish (c.before.before.before.before.before.before.before.before)
    (missing_is a.index.now a.pairs.now a.ops.now (number_of (word_of a.boundary)) a.word.now a.options a.state
    c.quick_left-left.ensures c.if-left-eq0.false c.item_at.ensures c.look_up.ensures
    c.in-Missing.is c.quick_step.ensures)

returns-4 : tie.Need-returns-else-is_ready
returns-4 c =
    let a = c.args in
    finish (c.before.before.before.before.before.before.before.before.before.before)
    (later_is a.index.now a.pairs.now a.ops.now (number_of (word_of a.boundary)) a.word.now a.options a.state
    c.quick_left-left.ensures c.if-left-eq0.false c.item_at.ensures c.look_up.ensures
    c.in-At.k c.in-At.is c.is_ready.ensures c.if-is_ready.false
    (stepped_is a.pairs.now a.ops.now (number_of (word_of a.boundary)) a.word.now a.options a.state c.step.ensures))

returns-5 : tie.Need-returns-in-Wrong
returns-5 c =
    let a = c.args in
    finish (c.before.before.before.before.before.before.before)
    (wrong_is a.index.now a.pairs.now a.ops.now (number_of (word_of a.boundary)) a.word.now a.options a.state
    c.quick_left-left.ensures c.if-left-eq0.false c.item_at.ensures c.look_up.ensures
    c.in-Wrong.is)

pub step_indexed_spec : {M : Type 1} → statement M
step_indexed_spec =
    tie.close
    (tie.spec
    quick-left-requires
    kern-step-requires
    returns
    item-at-requires
    look-up-requires
    enum_told
    quick-step-requires
    enum-known-k
    is-ready-requires
    quick-step-requires-2
    returns-2
    step-requires
    enum-told-2
    returns-3
    returns-4
    returns-5)
