-- `c_font_requests::ligkern_ask_font` meets its contract: the request is told.
-- Assumes nothing.
use mathlib.Core.Path.{◌≡◌, sym, ap, subst, ◌∙◌}
use Rattle.words.proofs.Bits.{number_word}
use Rattle.font_runs.specs.declared.Requested.{Requested}
use Rattle.font_runs.specs.Requests.{lending, request_refusal, asking, ask_font}
use Rattle.c_font_runs.specs.RunLists.{run_read}
use Rattle.c_font_requests.specs.Told.{TellsRun, Refuses}
use Rattle.c_font_requests.proofs.Laws.{by_refuses}
use borrow.Author.Rules.{rules}
use Rattle.c_font_requests.proofs.ligkern_ask_font.Statement.{statement}
use Rattle.c_font_requests.proofs.ligkern_ask_font.Tie as tie

-- the request, of the run in the list and the boundary character as it was lent
requested : (c : tie.After-ask_font-requested) → let a = c.args in
    c.ask_font-requested.result ≡ ask_font a.number (lending a.pairs.now a.ops.now a.boundary) (run_read a.run.now)
requested c =
    let a = c.args in
    c.ask_font-requested.ensures
    ∙ (λ j. ask_font a.number (lending a.pairs.now a.ops.now (number_word a.boundary c.ranges.boundary j)) (c.run_in-from.ensures j))

run-in-requires : tie.Need-run_in-from-requires
run-in-requires c κs = search rules

ask-font-requires : tie.Need-ask_font-requested-requires
ask-font-requires c κs = search rules

tell-run-requires : tie.Need-tell_run-requires
tell-run-requires c κs =
    let a = c.args in
    subst Refuses (sym (requested (c.before)))
    (by_refuses (request_refusal (lending a.pairs.now a.ops.now a.boundary)) (asking a.number (run_read a.run.now)))

same_length : tie.Need-shape_of-run
same_length c = search rules

returns : tie.Need-returns
returns c =
    let a = c.args in
    subst (λ (q : Requested). TellsRun q a.run.now c.tell_run.result c.tell_run.new.run) (requested (c.before.before.before.before)) c.tell_run.ensures

pub ligkern_ask_font_spec : {M : Type 1} → statement M
ligkern_ask_font_spec =
    tie.close
    (tie.spec
    run-in-requires
    ask-font-requires
    tell-run-requires
    same_length
    returns)
