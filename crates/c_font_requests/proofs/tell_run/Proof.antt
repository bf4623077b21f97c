-- `c_font_requests::tell_run` meets its contract: proofs/Laws.
-- Assumes nothing.
use Rattle.c_font_requests.proofs.Laws.{no_run_told, refused_told, taken_told}
use borrow.Author.Rules.{rules}
use Rattle.c_font_requests.proofs.tell_run.Statement.{statement}
use Rattle.c_font_requests.proofs.tell_run.Tie as tie

run-refusal-requires : tie.Need-run_refusal-stands-requires
run-refusal-requires c κs = search rules

enum-known-requested : tie.Need-enum_known-requested
enum-known-requested c = search rules

lower-of-requires : tie.Need-lower_of-requires
lower-of-requires c κs = search rules

enum-known-requested-2 : tie.Need-enum_known-requested-in-Taken-1
enum-known-requested-2 c = search rules

same_length : tie.Need-shape_of-run-then-stands-ne0
same_length c = search rules

returns : tie.Need-returns-then-stands-ne0
returns c =
    no_run_told c.args.run.now c.run_refusal-stands.ensures c.in-Taken.after c.in-Taken.is c.if-stands-ne0.true

put-run-requires : tie.Need-put_run-requires
put-run-requires c κs = search rules

same-length-2 : tie.Need-shape_of-run-in-Refused
same-length-2 c = search rules

returns-2 : tie.Need-returns-in-Refused
returns-2 c =
    refused_told c.args.run.now c.run_refusal-stands.ensures c.in-Refused.n c.in-Refused.is c.requires c.lower_of.ensures

same-length-3 : tie.Need-shape_of-run-else-stands-ne0
same-length-3 c = search rules

returns-3 : tie.Need-returns-else-stands-ne0
returns-3 c =
    taken_told c.args.run.now c.run_refusal-stands.ensures c.in-Taken.after c.in-Taken.is c.if-stands-ne0.false
    c.put_run.ensures

pub tell_run_spec : {M : Type 1} → statement M
tell_run_spec =
    tie.close
    (tie.spec
    run-refusal-requires
    enum-known-requested
    lower-of-requires
    enum-known-requested-2
    same_length
    returns
    put-run-requires
    same-length-2
    returns-2
    same-length-3
    returns-3)
