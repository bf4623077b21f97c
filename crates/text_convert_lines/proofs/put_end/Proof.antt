-- `text_convert_lines::put_end` meets its contract: the lines of what is added and the rest, or zeros. Assumes nothing.
use mathlib.Core.Logic.{◌⊎◌, inl, inr}
use Prim.Native.Nat.{◌-◌, ◌/◌, ◌<◌}
use lib.ListN.{length}
use borrow.Author.Rules.{rules}
use Rattle.text_convert_lines.proofs.Standing.{end_short, end_put}
use Rattle.text_convert_lines.proofs.put_end.Statement.{statement}
use Rattle.text_convert_lines.proofs.put_end.Tie as tie
use Rattle.text_convert_lines.proofs.put_end.Lts.{then-room-text-via-then-room-text, then-room-text-via-else-room-text+then-room-text-2}

-- there is no room, by either test
short : (j : tie.Joined-then-room-text) → let a = j.args in
    (length a.out.now - a.to < length a.text.now) ⊎ ((length a.out.now - a.to - length a.text.now) / 14 < length a.added.now)
short j =
    elim j.then-room-text.branch [
      | then-room-text-via-then-room-text w ↦ inl w.if-room-text.true
      | then-room-text-via-else-room-text+then-room-text-2 w ↦ inr w.if-room-text-2.true
    ]

sub-room : tie.Need-overflow_sub-room
sub-room c = search rules

sub-if2 : tie.Need-overflow_sub-room-else-room-text
sub-if2 c = search rules

zero-all-requires : tie.Need-zero_all-requires
zero-all-requires c κs = search rules

same_length : tie.Need-shape_of-out-then-room-text
same_length c = search rules

returns : tie.Need-returns-then-room-text
returns c =
    let a = c.args in
    end_short a.added.now a.text.now a.out.now a.to c.requires (short (c.before.before.before.before)) c.zero_all.ensures

put-lines-requires : tie.Need-put_lines-next-requires
put-lines-requires c κs = search rules

put-bytes-requires : tie.Need-put_bytes-requires
put-bytes-requires c κs = search rules

same-length-2 : tie.Need-shape_of-out
same-length-2 c = search rules

returns-2 : tie.Need-returns
returns-2 c =
    let a = c.args in
    end_put a.added.now a.text.now a.out.now a.to c.requires c.if-room-text.false c.if-room-text-2.false c.put_lines-next.ensures
    c.put_bytes.ensures

pub put_end_spec : {M : Type 1} → statement M
put_end_spec =
    tie.close
    (tie.spec
    sub-room
    sub-if2
    zero-all-requires
    same_length
    returns
    put-lines-requires
    put-bytes-requires
    same-length-2
    returns-2)
