-- `text_convert_lines::put_converted` meets its contract. The loop's invariant: the lines before the place are written, and what is left comes after them,
-- whatever is added. The measure is what is left of the text. Assumes nothing.
use mathlib.Core.Path.{◌≡◌, sym, ap, subst, ◌∙◌}
use mathlib.Core.Bool.{true}
use mathlib.Core.List.{List, ◌++◌}
use Prim.Native.Nat.{ℕ, ◌+◌, ◌-◌, ◌<◌, ◌≤◌}
use native.Mathlib.Omega.{arith}
use lib.ListN.{length, drop, replicate, length-replicate}
use borrow.Author.Rules.{rules}
use Rattle.columns.specs.Converting.{kern_lines}
use Rattle.columns.specs.Lines.{lines_of, text_of}
use Rattle.text_convert_lines.specs.Anew.{line_length, is_before_word, line_anew, lines_anew, PutsNext, PutsEnd}
use Rattle.text_convert_lines.proofs.Cutting.{lines_there, lines_none}
use Rattle.text_convert_lines.proofs.Standing.{Anew, anew_none, anew_length, line_within, place_within, line_some, anew_more, anew_short}
use Rattle.text_convert_lines.proofs.Standing.{instructions_few, left_is, short_anew, none_anew, anew_end}
use Rattle.text_convert_lines.proofs.put_converted.Statement.{statement}
use Rattle.text_convert_lines.proofs.put_converted.Tie as tie

abbrev invariant-loop : tie.invariant-loop-n
invariant-loop text instructions added out₀ at₀ to₀ i₀ out at to i = Anew instructions text out₀ out at to i

abbrev decreases-loop : tie.decreases-loop-n
decreases-loop text instructions added out₀ at₀ to₀ i₀ out at to i = length text - at

abbrev zeroed : tie.After-is_whole_lines invariant-loop decreases-loop → tie.After-zero_all invariant-loop decreases-loop
zeroed w = w.before.before.before

abbrev begun : tie.After-is_whole_lines invariant-loop decreases-loop → tie.Start invariant-loop decreases-loop
begun w = (zeroed w).before.before.before.before

abbrev start : tie.At-loop-n invariant-loop decreases-loop → tie.Start invariant-loop decreases-loop
start l = begun l.before.before

-- the list of zeros is as long as what was lent
zeros_long : (w : tie.After-is_whole_lines invariant-loop decreases-loop) → length (zeroed w).zero_all.new.s ≡ length (begun w).args.out.now
zeros_long w = ap length (zeroed w).zero_all.ensures ∙ length-replicate (length (begun w).args.out.now) 0

-- a line begins
going : (t : tie.In-loop-n invariant-loop decreases-loop) → is_before_word (start (t.before.before)).args.text.now t.loop-n.at ≡ true
going t = sym t.is_before_word.ensures ∙ t.loop-n-test.true

-- .. and how long it is
measured : (x : tie.After-line_length-n invariant-loop decreases-loop) → let l = x.before.before.before.before in
    x.line_length-n.result ≡ line_length (drop x.loop-n.at (start (x.before.before.before.before)).args.text.now)
measured x =
    let l = x.before.before.before.before in
    x.line_length-n.ensures ∙ ap line_length (left_is x.loop-n.at (start (x.before.before.before.before)).args.text.now)

-- what was put for it
put : (p : tie.After-put_next-to invariant-loop decreases-loop) → let x = p.before.before.before in let l = p.before.before.before.before.before.before.before in
    PutsNext (line_anew (start (p.before.before.before.before.before.before.before)).args.instructions.now p.loop-n.i (drop p.loop-n.at (start (p.before.before.before.before.before.before.before)).args.text.now) p.line_length-n.result) p.loop-n.out
    p.loop-n.to p.put_next-to.result p.put_next-to.new.out
put p =
    let x = p.before.before.before in
    let l = p.before.before.before.before.before.before.before in
    subst
    (λ (bs : List ℕ).
    PutsNext (line_anew (start (p.before.before.before.before.before.before.before)).args.instructions.now p.loop-n.i bs p.line_length-n.result) p.loop-n.out p.loop-n.to p.put_next-to.result
    p.put_next-to.new.out) (left_is p.loop-n.at (start (p.before.before.before.before.before.before.before)).args.text.now) p.put_next-to.ensures

zero-all-requires : tie.Need-zero_all-requires invariant-loop decreases-loop
zero-all-requires c κs = search rules

is-whole-lines-requires : tie.Need-is_whole_lines-requires invariant-loop decreases-loop
is-whole-lines-requires c κs = search rules

same_length : tie.Need-shape_of-out-then-not-is_whole_lines invariant-loop decreases-loop
same_length c = search rules

returns : tie.Need-returns-then-not-is_whole_lines invariant-loop decreases-loop
returns c =
    let a = (begun (c.before)).args in
    none_anew a.instructions.now a.added.now a.text.now a.out.now (zeroed (c.before)).zero_all.new.s
    (lines_none a.text.now (sym c.is_whole_lines.ensures ∙ c.if-not-is_whole_lines.true)) (zeroed (c.before)).zero_all.ensures

loop-holds : tie.Need-loop-n-init invariant-loop decreases-loop
loop-holds c =
    let a = (begun (c.before)).args in
    anew_none a.instructions.now a.text.now (zeroed (c.before)).zero_all.new.s
    (lines_there a.text.now (sym c.is_whole_lines.ensures ∙ c.if-not-is_whole_lines.false))

is-before-word-requires : tie.Need-is_before_word-requires invariant-loop decreases-loop
is-before-word-requires c κs = search rules

sub-line-length : tie.Need-slice_bounds-line_length-count invariant-loop decreases-loop
sub-line-length c = omega (arith, c.loop-n.invariant.place)

part-line-length-start : tie.Need-slice_bounds-line_length-start invariant-loop decreases-loop
part-line-length-start c = omega (arith, c.loop-n.invariant.place)

part-line-length-end : tie.Need-slice_bounds-line_length-end invariant-loop decreases-loop
part-line-length-end c = omega (arith, c.loop-n.invariant.place)

line-length-requires : tie.Need-line_length-n-requires invariant-loop decreases-loop
line-length-requires c κs = search rules

sub-put-next : tie.Need-slice_bounds-put_next-count invariant-loop decreases-loop
sub-put-next c = omega (arith, c.loop-n.invariant.place)

part-put-next-start : tie.Need-slice_bounds-put_next-start invariant-loop decreases-loop
part-put-next-start c = omega (arith, c.loop-n.invariant.place)

part-put-next-end : tie.Need-slice_bounds-put_next-end invariant-loop decreases-loop
part-put-next-end c = omega (arith, c.loop-n.invariant.place)

put-next-requires : tie.Need-put_next-to-requires invariant-loop decreases-loop
put-next-requires c κs =
    let v = c.loop-n.invariant in (
      omega (
        arith,
        line_within v (going (c.before.before.before.before)) c.line_length-n.result (measured (c.before.before)),
        ap length (left_is c.loop-n.at (start (c.before.before.before.before.before.before)).args.text.now),
      ),
      v.fifty,
      omega (arith, v.room, anew_length v),
    )

zero-all-requires-2 : tie.Need-zero_all-requires-then-out-to invariant-loop decreases-loop
zero-all-requires-2 c κs = search rules

same-length-2 : tie.Need-shape_of-out-then-out-to invariant-loop decreases-loop
same-length-2 c =
    c.zero_all-then-out-to.auto.s ∙ c.put_next-to.auto.out ∙ anew_length c.loop-n.invariant ∙ zeros_long c.before.before.before.before.before.before.before.before.before.before.before.before.before.before.before.before

returns-2 : tie.Need-returns-then-out-to invariant-loop decreases-loop
returns-2 c =
    let a = (start (c.before.before.before.before.before.before.before.before.before.before.before.before.before.before)).args in
    let v = c.loop-n.invariant in
    let k : length c.put_next-to.new.out ≡ length a.out.now = c.put_next-to.auto.out ∙ anew_length v ∙ zeros_long (c.before.before.before.before.before.before.before.before.before.before.before.before.before.before.before.before) in
    short_anew (lines_anew a.instructions.now a.added.now (lines_of a.text.now)) a.out.now c.zero_all-then-out-to.new.s
    (omega (
      arith,
      zeros_long (c.before.before.before.before.before.before.before.before.before.before.before.before.before.before.before.before),
      anew_short v (going (c.before.before.before.before.before.before.before.before.before.before.before.before)) c.line_length-n.result (measured (c.before.before.before.before.before.before.before.before.before.before)) (put (c.before.before.before.before.before.before.before)) (omega (arith, c.if-out-to.true, c.put_next-to.auto.out)) a.added.now,
    ))
    (c.zero_all-then-out-to.ensures ∙ ap (λ (m : ℕ). replicate m 0) k)

instructions-in-requires : tie.Need-instructions_in-i-requires invariant-loop decreases-loop
instructions-in-requires c κs = search rules

add-i : tie.Need-overflow_add-i invariant-loop decreases-loop
add-i c =
    omega (
      arith,
      c.loop-n.invariant.fifty,
      c.loop-n.invariant.room,
      zeros_long c.before.before.before.before.before.before.before.before.before.before.before.before.before,
      (start (c.before.before.before.before.before.before.before.before.before.before.before)).well_formed,
      instructions_few (start (c.before.before.before.before.before.before.before.before.before.before.before)).args.text.now c.loop-n.at,
      c.instructions_in-i.ensures,
    )

-- the place after the line is within the text
after : (c : tie.After-instructions_in-i invariant-loop decreases-loop) → let x = c.before.before.before.before.before.before.before in
    (c.loop-n.at + c.line_length-n.result ≤ length (start (c.before.before.before.before.before.before.before.before.before.before.before)).args.text.now) × (0 < c.line_length-n.result)
after c =
    let x = c.before.before.before.before.before.before.before in
    let v = c.loop-n.invariant in
    (place_within v (going (c.before.before.before.before.before.before.before.before.before)) c.line_length-n.result (measured (c.before.before.before.before.before.before.before)), line_some v (going (c.before.before.before.before.before.before.before.before.before)) c.line_length-n.result (measured (c.before.before.before.before.before.before.before)))

add_at : tie.Need-overflow_add-at invariant-loop decreases-loop
add_at c = omega (arith, (after c).0)

loop-less : tie.Need-loop-n-smaller invariant-loop decreases-loop
loop-less c = omega (arith, (after c).0, (after c).1)

loop-again : tie.Need-loop-n-preserved invariant-loop decreases-loop
loop-again c =
    let v = c.loop-n.invariant in
    anew_more v (going (c.before.before.before.before.before.before.before.before.before)) c.line_length-n.result (measured (c.before.before.before.before.before.before.before)) (put (c.before.before.before.before)) (omega (arith, c.if-out-to.false, c.put_next-to.auto.out))
    c.instructions_in-i.result c.instructions_in-i.ensures

sub-put-end : tie.Need-slice_bounds-put_end-count invariant-loop decreases-loop
sub-put-end c = omega (arith, c.loop-n.invariant.place)

part-put-end-start : tie.Need-slice_bounds-put_end-start invariant-loop decreases-loop
part-put-end-start c = omega (arith, c.loop-n.invariant.place)

part-put-end-end : tie.Need-slice_bounds-put_end-end invariant-loop decreases-loop
part-put-end-end c = omega (arith, c.loop-n.invariant.place)

put-end-requires : tie.Need-put_end-requires invariant-loop decreases-loop
put-end-requires c κs = let v = c.loop-n.invariant in omega (arith, v.room, anew_length v)

same-length-3 : tie.Need-shape_of-out invariant-loop decreases-loop
same-length-3 c =
    c.put_end.auto.out ∙ anew_length c.loop-n.invariant ∙ zeros_long c.before.before.before.before.before.before.before.before.before

returns-3 : tie.Need-returns invariant-loop decreases-loop
returns-3 c =
    let a = (start (c.before.before.before.before.before.before.before)).args in
    anew_end a.out.now a.added.now
    (subst (λ (bs : List ℕ). Anew a.instructions.now a.text.now bs c.loop-n.out c.loop-n.at c.loop-n.to c.loop-n.i) (zeroed (c.before.before.before.before.before.before.before.before.before)).zero_all.ensures
    c.loop-n.invariant) (sym c.is_before_word.ensures ∙ c.loop-n-test.false)
    (subst
    (λ (bs : List ℕ).
    PutsEnd (text_of (kern_lines a.added.now) ++ bs) c.loop-n.out c.loop-n.to c.put_end.result c.put_end.new.out)
    (left_is c.loop-n.at a.text.now) c.put_end.ensures)

pub put_converted_spec : {M : Type 1} → statement M
put_converted_spec =
    tie.close
    (tie.spec
    invariant-loop
    decreases-loop
    zero-all-requires
    is-whole-lines-requires
    same_length
    returns
    loop-holds
    is-before-word-requires
    sub-line-length
    part-line-length-start
    part-line-length-end
    line-length-requires
    sub-put-next
    part-put-next-start
    part-put-next-end
    put-next-requires
    zero-all-requires-2
    same-length-2
    returns-2
    instructions-in-requires
    add-i
    add_at
    loop-less
    loop-again
    sub-put-end
    part-put-end-start
    part-put-end-end
    put-end-requires
    same-length-3
    returns-3)
