-- `text_digits::put_digits` meets its contract: after each two digits, those before them are left (`Written`).
-- Assumes nothing.
use Prim.Native.Nat.{◌-◌, ◌<◌}
use native.Mathlib.Omega.{arith}
use Rattle.text_digits.proofs.Decimal.{Written, written_none, written_low, written_top}
use borrow.Author.Rules.{rules}
use Rattle.text_digits.proofs.put_digits.Statement.{statement}
use Rattle.text_digits.proofs.put_digits.Tie as tie

-- what is written after each two digits
after_one : (c : tie.After-put_low-a) → let s = c.before.before.before.before in
    Written c.args.n c.args.end c.args.out.now c.put_low-a.new.out (c.args.end - 2) c.put_low-a.result
after_one c =
    let s = c.before.before.before.before in
    written_low (c.args.end - 2) (written_none c.args.n c.args.end c.args.out.now c.ranges.n.fits) c.requires.0 c.if-n-lt100.false
    (omega (arith, c.requires.0)) c.put_low-a.ensures

after_two : (c : tie.After-put_low-b) → let s = c.before.before.before.before.before.before.before.before.before in
    Written c.args.n c.args.end c.args.out.now c.put_low-b.new.out (c.args.end - 4) c.put_low-b.result
after_two c =
    let s = c.before.before.before.before.before.before.before.before.before in
    written_low (c.args.end - 4) (after_one c.before.before.before.before.before) c.requires.0 c.if-a-lt100.false (omega (arith, c.requires.0)) c.put_low-b.ensures

after-three : (c : tie.After-put_low-c) →
    let s = c.before.before.before.before.before.before.before.before.before.before.before.before.before.before in
    Written c.args.n c.args.end c.args.out.now c.put_low-c.new.out (c.args.end - 6) c.put_low-c.result
after-three c =
    let s = c.before.before.before.before.before.before.before.before.before.before.before.before.before.before in
    written_low (c.args.end - 6) (after_two c.before.before.before.before.before) c.requires.0 c.if-b-lt100.false (omega (arith, c.requires.0)) c.put_low-c.ensures

after-four : (c : tie.After-put_low-d) →
    let s = c.before.before.before.before.before.before.before.before.before.before.before.before.before.before.before.before.before.before.before in Written c.args.n c.args.end c.args.out.now c.put_low-d.new.out (c.args.end - 8) c.put_low-d.result
after-four c =
    let s = c.before.before.before.before.before.before.before.before.before.before.before.before.before.before.before.before.before.before.before in
    written_low (c.args.end - 8) (after-three c.before.before.before.before.before) c.requires.0 c.if-c-lt100.false (omega (arith, c.requires.0)) c.put_low-d.ensures

-- at most two digits are left
last-few : (c : tie.After-put_low-d) → c.put_low-d.result < 100
last-few c =
    let w = after-four c in
    omega (arith, w.few, w.ten)

put-top-requires : tie.Need-put_top-requires
put-top-requires c κs = search rules

same_length : tie.Need-shape_of-out-then-n-lt100
same_length c = search rules

returns : tie.Need-returns-then-n-lt100
returns c = search rules

sub-put-low : tie.Need-overflow_sub-end
sub-put-low c = search rules

put-low-requires : tie.Need-put_low-a-requires
put-low-requires c κs = search rules

sub-put-top : tie.Need-overflow_sub-end-then-a-lt100
sub-put-top c = search rules

put-top-requires-2 : tie.Need-put_top-requires-then-a-lt100
put-top-requires-2 c κs = search rules

same-length-2 : tie.Need-shape_of-out-then-a-lt100
same-length-2 c = search rules

returns-2 : tie.Need-returns-then-a-lt100
returns-2 c =
    written_top c.put_top-then-a-lt100.result (after_one c.before.before.before.before.before.before.before) c.if-a-lt100.true c.put_top-then-a-lt100.ensures.0 c.put_top-then-a-lt100.ensures.1

sub-put-low-2 : tie.Need-overflow_sub-end-2
sub-put-low-2 c = search rules

put-low-requires-2 : tie.Need-put_low-b-requires
put-low-requires-2 c κs = search rules

sub-put-top-2 : tie.Need-overflow_sub-end-then-b-lt100
sub-put-top-2 c = search rules

put-top-requires-3 : tie.Need-put_top-requires-then-b-lt100
put-top-requires-3 c κs = search rules

same-length-3 : tie.Need-shape_of-out-then-b-lt100
same-length-3 c = search rules

returns-3 : tie.Need-returns-then-b-lt100
returns-3 c =
    written_top c.put_top-then-b-lt100.result (after_two c.before.before.before.before.before.before.before) c.if-b-lt100.true c.put_top-then-b-lt100.ensures.0 c.put_top-then-b-lt100.ensures.1

sub-put-low-3 : tie.Need-overflow_sub-end-3
sub-put-low-3 c = search rules

put-low-requires-3 : tie.Need-put_low-c-requires
put-low-requires-3 c κs = search rules

sub-put-top-3 : tie.Need-overflow_sub-end-then-c-lt100
sub-put-top-3 c = search rules

put-top-requires-4 : tie.Need-put_top-requires-then-c-lt100
put-top-requires-4 c κs = search rules

same-length-4 : tie.Need-shape_of-out-then-c-lt100
same-length-4 c = search rules

returns-4 : tie.Need-returns-then-c-lt100
returns-4 c =
    written_top c.put_top-then-c-lt100.result (after-three c.before.before.before.before.before.before.before) c.if-c-lt100.true c.put_top-then-c-lt100.ensures.0 c.put_top-then-c-lt100.ensures.1

sub-put-low-4 : tie.Need-overflow_sub-end-4
sub-put-low-4 c = search rules

put-low-requires-4 : tie.Need-put_low-d-requires
put-low-requires-4 c κs = search rules

sub-put-top-4 : tie.Need-overflow_sub-end-5
sub-put-top-4 c = search rules

put-top-requires-5 : tie.Need-put_top-requires-2
put-top-requires-5 c κs = search rules

same-length-5 : tie.Need-shape_of-out
same-length-5 c = search rules

returns-5 : tie.Need-returns
returns-5 c =
    written_top c.put_top-2.result (after-four (c.before.before.before.before.before.before)) (last-few (c.before.before.before.before.before.before)) c.put_top-2.ensures.0 c.put_top-2.ensures.1

pub put_digits_spec : {M : Type 1} → statement M
put_digits_spec =
    tie.close
    (tie.spec
    put-top-requires
    same_length
    returns
    sub-put-low
    put-low-requires
    sub-put-top
    put-top-requires-2
    same-length-2
    returns-2
    sub-put-low-2
    put-low-requires-2
    sub-put-top-2
    put-top-requires-3
    same-length-3
    returns-3
    sub-put-low-3
    put-low-requires-3
    sub-put-top-3
    put-top-requires-4
    same-length-4
    returns-4
    sub-put-low-4
    put-low-requires-4
    sub-put-top-4
    put-top-requires-5
    same-length-5
    returns-5)
