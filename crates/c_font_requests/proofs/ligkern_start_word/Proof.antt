-- `c_font_requests::ligkern_start_word` meets its contract: the start is told.
-- Assumes nothing.
use mathlib.Core.Path.{◌≡◌, sym, ap, subst, ◌∙◌}
use Rattle.words.proofs.Bits.{number_word}
use Rattle.c_states.specs.States.{options_of}
use Rattle.font_runs.specs.declared.Requested.{Requested}
use Rattle.font_runs.specs.Requests.{lending, start_font, start_number, starting, start_refusal, start_word}
use Rattle.c_font_runs.specs.RunLists.{run_read}
use Rattle.c_font_requests.specs.Told.{TellsRun, Refuses}
use Rattle.c_font_requests.proofs.Laws.{by_refuses}
use borrow.Author.Rules.{rules}
use Rattle.c_font_requests.proofs.ligkern_start_word.Statement.{statement}
use Rattle.c_font_requests.proofs.ligkern_start_word.Tie as tie

-- the start, of the run in the list and the numbers as they were lent
requested : (c : tie.After-start_word-requested) → let a = c.args in
    c.start_word-requested.result
    ≡ start_word (lending a.pairs.now a.ops.now a.boundary) (lending a.asked_pairs.now a.asked_ops.now a.asked_boundary)
    a.word.now (options_of a.disable_left_boundary a.right_boundary_override) (run_read a.run.now)
requested c =
    let a = c.args in
    c.start_word-requested.ensures
    ∙ (λ j. start_word (lending a.pairs.now a.ops.now (number_word a.boundary c.ranges.boundary j))
    (lending a.asked_pairs.now a.asked_ops.now (number_word a.asked_boundary c.ranges.asked_boundary j)) a.word.now
    (options_of a.disable_left_boundary (number_word a.right_boundary_override c.ranges.right_boundary_override j)) (c.run_in-from.ensures j))

run-in-requires : tie.Need-run_in-from-requires
run-in-requires c κs = search rules

start-word-requires : tie.Need-start_word-requested-requires
start-word-requires c κs = search rules

tell-run-requires : tie.Need-tell_run-requires
tell-run-requires c κs =
    let a = c.args in
    let o = options_of a.disable_left_boundary a.right_boundary_override in
    let run = run_read a.run.now in
    subst Refuses (sym (requested (c.before)))
    (by_refuses
    (start_refusal
    (start_font (lending a.pairs.now a.ops.now a.boundary) (lending a.asked_pairs.now a.asked_ops.now a.asked_boundary) run.asked)
    a.word.now o) (starting (start_number run) a.word.now o))

same_length : tie.Need-shape_of-run
same_length c = search rules

returns : tie.Need-returns
returns c =
    let a = c.args in
    subst (λ (q : Requested). TellsRun q a.run.now c.tell_run.result c.tell_run.new.run) (requested (c.before.before.before.before)) c.tell_run.ensures

pub ligkern_start_word_spec : {M : Type 1} → statement M
ligkern_start_word_spec =
    tie.close
    (tie.spec
    run-in-requires
    start-word-requires
    tell-run-requires
    same_length
    returns)
