-- `c_captions::runs::ligkern_begin` meets its contract: proofs/Begin.
-- Assumes nothing.
use mathlib.Core.Path.{◌≡◌, sym, ap, ◌∙◌}
use Rattle.words.specs.Words.{word_of, number_of}
use Rattle.words.proofs.Bits.{number_word}
use Rattle.lang.specs.Checks.{lower}
use Rattle.captions.specs.Begin.{begin_of}
use Rattle.captions.proofs.Replies.{begin_is}
use Rattle.c_states.specs.States.{options_of}
use Rattle.c_captions.proofs.Begin.{begins_refused, begins_run}
use borrow.Author.Rules.{rules}
use Rattle.c_captions.proofs.runs.ligkern_begin.Statement.{statement}
use Rattle.c_captions.proofs.runs.ligkern_begin.Tie as tie

-- begin is handed the boundary character and the override as they were lent
begun : (c : tie.After-begin) → let a = c.args in
    c.begin.result ≡ begin_of a.pairs.now a.ops.now a.boundary a.word.now
    (options_of a.disable_left_boundary a.right_boundary_override)
begun c =
    let a = c.args in
    begin_is a.pairs.now a.ops.now (number_of (word_of a.boundary)) a.word.now
    (options_of a.disable_left_boundary (number_of (word_of a.right_boundary_override))) c.begin.result c.begin.ensures
    ∙ (λ j. begin_of a.pairs.now a.ops.now (number_word a.boundary c.ranges.boundary j) a.word.now
    (options_of a.disable_left_boundary (number_word a.right_boundary_override c.ranges.right_boundary_override j)))

zero-all-requires : tie.Need-zero_all-requires
zero-all-requires c κs = search rules

begin-requires : tie.Need-begin-requires
begin-requires c κs = search rules

enum-known-n : tie.Need-enum_known-n
enum-known-n c = search rules

room-refusal-requires : tie.Need-room_refusal-requires
room-refusal-requires c κs = search rules

lower-of-requires : tie.Need-lower_of-requires
lower-of-requires c κs = search rules

enum-known-fresh : tie.Need-enum_known-fresh
enum-known-fresh c = search rules

put-state-requires : tie.Need-put_state-requires
put-state-requires c κs = search rules

same_length : tie.Need-shape_of-state-in-Refused
same_length c = search rules

returns : tie.Need-returns-in-Refused
returns c =
    let a = c.args in
    begins_refused a.pairs.now a.ops.now a.boundary a.word.now (options_of a.disable_left_boundary a.right_boundary_override)
    a.state.now c.zero_all.new.s c.zero_all.ensures c.in-Refused.n (sym c.in-Refused.is ∙ begun (c.before.before.before)) c.lower_of.result
    (c.lower_of.ensures ∙ ap (lower c.in-Refused.n) c.room_refusal.ensures)

same-length-2 : tie.Need-shape_of-state-in-Run
same-length-2 c = search rules

returns-2 : tie.Need-returns-in-Run
returns-2 c =
    let a = c.args in
    begins_run a.pairs.now a.ops.now a.boundary a.word.now (options_of a.disable_left_boundary a.right_boundary_override)
    a.state.now c.zero_all.new.s c.zero_all.ensures c.in-Run.fresh (sym c.in-Run.is ∙ begun (c.before.before.before.before.before)) c.put_state.result c.put_state.new.list c.put_state.ensures

pub ligkern_begin_spec : {M : Type 1} → statement M
ligkern_begin_spec =
    tie.close
    (tie.spec
    zero-all-requires
    begin-requires
    enum-known-n
    room-refusal-requires
    lower-of-requires
    enum-known-fresh
    put-state-requires
    same_length
    returns
    same-length-2
    returns-2)
