-- `step_turns::run_on` meets its contract. The loop's invariant: the state is within the word, and the turns that are left answer what those from the first
-- state answer. The measure is the turns that are left. Assumes nothing.
use lib.ListN.{length}
use Rattle.words.specs.Words.{number_of}
use Rattle.captions.specs.Tables.{op_count}
use Rattle.captions.specs.Steps.{or_boundary, turn, run_on}
use Rattle.step_turns.specs.Turns.{turns_left}
use Rattle.step_turns.proofs.Turning.{Running, running_begin, running_less, running_more, running_end}
use borrow.Author.Rules.{rules}
use Rattle.step_turns.proofs.run_on.Statement.{statement}
use Rattle.step_turns.proofs.run_on.Tie as tie

abbrev invariant-loop : tie.invariant-loop-given
invariant-loop pairs ops right word t₀ t = Running (length word) (op_count ops) (run_on ops (turn pairs ops (or_boundary (number_of right)) word)) t₀ t

abbrev decreases-loop : tie.decreases-loop-given
decreases-loop pairs ops right word t₀ t = turns_left (length word) t

loop-holds : tie.Need-loop-given-init invariant-loop decreases-loop
loop-holds c =
    running_begin (length c.args.word.now) (op_count c.args.ops.now)
    (run_on c.args.ops.now (turn c.args.pairs.now c.args.ops.now (or_boundary (number_of c.args.right)) c.args.word.now))
    c.args.s c.requires

turn-once-requires : tie.Need-turn_once-requires invariant-loop decreases-loop
turn-once-requires c κs = c.loop-given.invariant.inside

enum-known-given : tie.Need-enum_known-given invariant-loop decreases-loop
enum-known-given c = search rules

returns : tie.Need-returns-in-Gives invariant-loop decreases-loop
returns c =
    let a = c.args in
    running_end a.pairs.now a.ops.now (or_boundary (number_of a.right)) a.word.now a.s c.loop-given.t c.loop-given.invariant c.turn_once.result
    c.turn_once.ensures c.in-Gives.given c.in-Gives.is

enum-known-next : tie.Need-enum_known-next invariant-loop decreases-loop
enum-known-next c = search rules

loop-less : tie.Need-loop-given-smaller invariant-loop decreases-loop
loop-less c =
    let a = c.args in
    running_less a.pairs.now a.ops.now (or_boundary (number_of a.right)) a.word.now a.s c.loop-given.t c.loop-given.invariant c.turn_once.result
    c.turn_once.ensures c.in-Goes.next c.in-Goes.is

loop-again : tie.Need-loop-given-preserved invariant-loop decreases-loop
loop-again c =
    let a = c.args in
    running_more a.pairs.now a.ops.now (or_boundary (number_of a.right)) a.word.now a.s c.loop-given.t c.loop-given.invariant c.turn_once.result
    c.turn_once.ensures c.in-Goes.next c.in-Goes.is

pub run_on_spec : {M : Type 1} → statement M
run_on_spec =
    tie.close
    (tie.spec
    invariant-loop
    decreases-loop
    loop-holds
    turn-once-requires
    enum-known-given
    returns
    enum-known-next
    loop-less
    loop-again)
