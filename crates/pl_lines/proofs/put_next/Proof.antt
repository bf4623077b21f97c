-- `pl_lines::put_next` meets its contract: nothing, SKIP or STOP.
-- Assumes nothing.
use Rattle.pl_lines.proofs.Lines.{none_put, stop_put}
use borrow.Author.Rules.{rules}
use Rattle.pl_lines.proofs.put_next.Statement.{statement}
use Rattle.pl_lines.proofs.put_next.Tie as tie

add-smaller : tie.Need-overflow_add-out
add-smaller c = search rules

smaller-requires : tie.Need-min-requires
smaller-requires c κs = search rules

returns : tie.Need-returns-then-next-eq0
returns c =
    none_put c.args.out.now c.args.at c.args.next c.if-next-eq0.true c.min.ensures

put-skip-requires : tie.Need-put_skip-requires
put-skip-requires c κs = search rules

same_length : tie.Need-shape_of-out-then-next-lt2147483648
same_length c = search rules

returns-2 : tie.Need-returns-then-next-lt2147483648
returns-2 c = search rules

put-bytes-requires : tie.Need-put_bytes-requires
put-bytes-requires c κs = search rules

same-length-2 : tie.Need-shape_of-out
same-length-2 c = search rules

returns-3 : tie.Need-returns
returns-3 c =
    stop_put c.args.next c.if-next-lt2147483648.false c.put_bytes.ensures

pub put_next_spec : {M : Type 1} → statement M
put_next_spec =
    tie.close
    (tie.spec
    add-smaller
    smaller-requires
    returns
    put-skip-requires
    same_length
    returns-2
    put-bytes-requires
    same-length-2
    returns-3)
