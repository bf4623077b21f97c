-- `index_plain_letters::set_letters` meets its contract. The loop's invariant: the letters so far are given, whatever the options, and `left` is the left that
-- is next. The measure is what is left of the word. Assumes nothing.
use mathlib.Core.Path.{◌≡◌, refl, sym, subst, ◌∙◌}
use mathlib.Core.Bool.{true}
use mathlib.Core.List.{List}
use Prim.Native.Nat.{◌+◌, ◌-◌, ◌<◌, ◌≤◌}
use native.Mathlib.Omega.{arith}
use lib.IntN.{ℤ}
use lib.ListN.{length}
use Rattle.words.specs.Words.{word_of, number_of}
use Rattle.words.proofs.Bits.{number_word}
use Rattle.captions.specs.declared.RunOptions.{RunOptions}
use Rattle.step_quick.specs.Quick.{is_quick}
use Rattle.step_quick.proofs.Theorems.{left_quick}
use Rattle.word_plain_letters.specs.PlainLetters.{plain_left, GivesItems, nothing, letters_end}
use Rattle.word_plain_letters.specs.declared.LettersGiven.{LettersGiven}
use Rattle.index_step.specs.Indexed.{indexed_step_of}
use Rattle.index_plain_letters.specs.declared.LettersSet.{LettersSet}
use Rattle.index_plain_letters.specs.IndexedLetters.{index_place, letters_done}
use Rattle.index_plain_letters.proofs.Theorems.{index_goes_quickly}
use Rattle.index_plain_letters.proofs.Standing.{stand_by, stand_inside}
use Rattle.word_plain_letters.proofs.Laws.{quick_starts, LettersSoFar, letters_none, letters_length, letters_left, letters_plain, letters_more}
use Rattle.word_plain_letters.proofs.Laws.{stand_length, stopped_same, given_length}
use Rattle.index_plain_letters.proofs.set_letters.Statement.{statement}
use Rattle.index_plain_letters.proofs.set_letters.Tie as tie

abbrev invariant-loop : tie.invariant-loop-i
invariant-loop index pairs ops boundary word s items₀ k left₀ op₀ i₀ m₀ n items left op i m =
    (options : RunOptions) → is_quick ops (number_of boundary) word options s ≡ true →
    LettersSoFar (index_place index pairs) pairs ops (number_of boundary) word options (indexed_step_of index pairs ops (number_of boundary) word options)
    (index_goes_quickly index pairs ops (number_of boundary) word options) s items₀ k left op i m items

abbrev decreases-loop : tie.decreases-loop-i
decreases-loop index pairs ops boundary word s items₀ k left₀ op₀ i₀ m₀ n items left op i m = n - i

-- the state is quick, and the left is its own
quick : (c : tie.After-saturating_sub-n invariant-loop decreases-loop) → let a = c.args in
    (is_quick a.ops.now (number_of (word_of a.boundary)) a.word.now a.options a.s ≡ true) ×
    (c.quick_left-left.result ≡ plain_left a.s)
quick c =
    let a = c.args in
    left_quick a.ops.now (number_of (word_of a.boundary)) a.word.now a.options a.s c.quick_left-left.result
    c.quick_left-left.ensures c.if-left-eq0.false

-- the letters so far
far : (l : tie.At-loop-i invariant-loop decreases-loop) → let a = l.args in
    LettersSoFar (index_place a.index.now a.pairs.now) a.pairs.now a.ops.now (number_of (word_of a.boundary)) a.word.now a.options
    (indexed_step_of a.index.now a.pairs.now a.ops.now (number_of (word_of a.boundary)) a.word.now a.options)
    (index_goes_quickly a.index.now a.pairs.now a.ops.now (number_of (word_of a.boundary)) a.word.now a.options) a.s a.items.now
    a.k
    l.loop-i.left l.loop-i.op l.loop-i.i l.loop-i.m l.loop-i.items
far l = let a = l.args in l.loop-i.invariant a.options (quick l.before).0

long : (l : tie.At-loop-i invariant-loop decreases-loop) → length l.loop-i.items ≡ length
    l.args.items.now
long l =
    let a = l.args in
    let b = number_of (word_of a.boundary) in
    letters_length (index_place a.index.now a.pairs.now) a.pairs.now a.ops.now b a.word.now a.options
    (indexed_step_of a.index.now a.pairs.now a.ops.now b a.word.now a.options)
    (index_goes_quickly a.index.now a.pairs.now a.ops.now b a.word.now a.options)
    a.s a.items.now a.k (far l)

-- the letters' starts are small
starts : (l : tie.At-loop-i invariant-loop decreases-loop) → let a = l.args in a.s.given + l.saturating_sub-n.result ≤ 65535
starts l =
    let a = l.args in
    let h = quick_starts a.ops.now (number_of (word_of a.boundary)) a.word.now a.options a.s (quick l.before).0 in
    omega (arith, h, l.saturating_sub-n.ensures)

-- what is said of the bits of the boundary character is said of it as it was lent
as_lent : (c : tie.Start invariant-loop decreases-loop) (r : LettersSet) {d : List ℤ} → let a = c.args in
    GivesItems (indexed_step_of a.index.now a.pairs.now a.ops.now (number_of (word_of a.boundary)) a.word.now a.options) a.s
    a.items.now
    a.k r.state r.count d →
    GivesItems (indexed_step_of a.index.now a.pairs.now a.ops.now a.boundary a.word.now a.options) a.s a.items.now a.k r.state
    r.count d
as_lent c r {d} =
    let a = c.args in
    subst (λ (z : ℤ). GivesItems (indexed_step_of a.index.now a.pairs.now a.ops.now z a.word.now a.options) a.s a.items.now a.k
    r.state r.count d) (number_word a.boundary c.ranges.boundary)

-- .. and letters that stand after them
stand : (p : tie.After-set_plain-plain invariant-loop decreases-loop) → let l = p.before.before.before.before.before.before in let a = p.args in (options : RunOptions) →
    is_quick a.ops.now (number_of (word_of a.boundary)) a.word.now options a.s ≡ true →
    LettersSoFar (index_place a.index.now a.pairs.now) a.pairs.now a.ops.now (number_of (word_of a.boundary)) a.word.now options
    (indexed_step_of a.index.now a.pairs.now a.ops.now (number_of (word_of a.boundary)) a.word.now options)
    (index_goes_quickly a.index.now a.pairs.now a.ops.now (number_of (word_of a.boundary)) a.word.now options) a.s a.items.now a.k
    p.set_plain-plain.result.left p.loop-i.op (p.loop-i.i + p.set_plain-plain.result.count) (p.loop-i.m + p.set_plain-plain.result.count)
    p.set_plain-plain.new.items
stand p options q =
    let l = p.before.before.before.before.before.before in
    let a = p.args in
    let b = number_of (word_of a.boundary) in
    letters_plain (index_place a.index.now a.pairs.now) a.pairs.now a.ops.now b a.word.now options
    (indexed_step_of a.index.now a.pairs.now a.ops.now b a.word.now options)
    (index_goes_quickly a.index.now a.pairs.now a.ops.now b a.word.now options) a.s a.items.now a.k
    (p.loop-i.invariant options q) (stand_by a.index.now a.pairs.now p.set_plain-plain.ensures)

plain : (p : tie.After-set_plain-plain invariant-loop decreases-loop) → let l = p.before.before.before.before.before.before in let a = p.args in
    LettersSoFar (index_place a.index.now a.pairs.now) a.pairs.now a.ops.now (number_of (word_of a.boundary)) a.word.now a.options
    (indexed_step_of a.index.now a.pairs.now a.ops.now (number_of (word_of a.boundary)) a.word.now a.options)
    (index_goes_quickly a.index.now a.pairs.now a.ops.now (number_of (word_of a.boundary)) a.word.now a.options) a.s a.items.now
    a.k
    p.set_plain-plain.result.left p.loop-i.op (p.loop-i.i + p.set_plain-plain.result.count) (p.loop-i.m + p.set_plain-plain.result.count)
    p.set_plain-plain.new.items
plain p = let l = p.before.before.before.before.before.before in stand p
    p.args.options (quick p.before.before.before.before.before.before.before).0

stand-long : (p : tie.After-set_plain-plain invariant-loop decreases-loop) → length p.set_plain-plain.new.items ≡ length p.args.items.now
stand-long p = stand_length p.set_plain-plain.ensures ∙ long p.before.before.before.before.before.before

-- a letter is there after them
there : (e : tie.Else-n-j invariant-loop decreases-loop) → let p = e.before.before.before.before in let l = e.before.before.before.before.before.before.before.before.before.before in let a = e.args in
    a.s.read + (e.loop-i.i + e.set_plain-plain.result.count) < length a.word.now
there e =
    let p = e.before.before.before.before in
    let l = e.before.before.before.before.before.before.before.before.before.before in
    omega (arith, e.if-n-j.false, e.saturating_sub-n.ensures)

-- what is left of them
left : (p : tie.After-set_plain-plain invariant-loop decreases-loop) (r : LettersSet) → let l = p.before.before.before.before.before.before in let a = p.args in
    r ≡ letters_done a.s p.set_plain-plain.result.left p.loop-i.op (p.loop-i.i + p.set_plain-plain.result.count)
    (p.loop-i.m + p.set_plain-plain.result.count) →
    GivesItems (indexed_step_of a.index.now a.pairs.now a.ops.now (number_of (word_of a.boundary)) a.word.now a.options) a.s
    a.items.now a.k r.state r.count p.set_plain-plain.new.items
left p r e =
    let l = p.before.before.before.before.before.before in
    let a = p.args in
    let b = number_of (word_of a.boundary) in
    let n = p.set_plain-plain.result.count in
    let f : ◌≡◌ {A = LettersGiven} (record { state = r.state; count = r.count; pair = 0 }) (letters_end a.s p.set_plain-plain.result.left p.loop-i.op
    (p.loop-i.i + n) (p.loop-i.m + n) 0) = λ j. record { state = (e j).state; count = (e j).count; pair = 0 } in
    letters_left (index_place a.index.now a.pairs.now) a.pairs.now a.ops.now b a.word.now a.options
    (indexed_step_of a.index.now a.pairs.now a.ops.now b a.word.now a.options)
    (index_goes_quickly a.index.now a.pairs.now a.ops.now b a.word.now a.options) a.s a.items.now a.k (plain p) f

-- what is left of the letters so far
left-all : (l : tie.At-loop-i invariant-loop decreases-loop) (r : LettersSet) → let a = l.args in
    r ≡ letters_done a.s l.loop-i.left l.loop-i.op l.loop-i.i l.loop-i.m →
    GivesItems (indexed_step_of a.index.now a.pairs.now a.ops.now (number_of (word_of a.boundary)) a.word.now a.options) a.s
    a.items.now
    a.k r.state r.count l.loop-i.items
left-all l r e =
    let a = l.args in
    let b = number_of (word_of a.boundary) in
    let f : ◌≡◌ {A = LettersGiven} (record { state = r.state; count = r.count; pair = 0 }) (letters_end a.s l.loop-i.left l.loop-i.op l.loop-i.i
    l.loop-i.m 0) = λ j. record { state = (e j).state; count = (e j).count; pair = 0 } in
    letters_left (index_place a.index.now a.pairs.now) a.pairs.now a.ops.now b a.word.now a.options
    (indexed_step_of a.index.now a.pairs.now a.ops.now b a.word.now a.options)
    (index_goes_quickly a.index.now a.pairs.now a.ops.now b a.word.now a.options) a.s a.items.now a.k (far l) f

quick-left-requires : tie.Need-quick_left-left-requires invariant-loop decreases-loop
quick-left-requires c κs = tt

returns : tie.Need-returns-then-left-eq0 invariant-loop decreases-loop
returns c = nothing

returns-2 : tie.Need-returns-then-items-k invariant-loop decreases-loop
returns-2 c = nothing

returns-3 : tie.Need-returns-then-index-lt1285 invariant-loop decreases-loop
returns-3 c = nothing

minus-requires : tie.Need-saturating_sub-n-requires invariant-loop decreases-loop
minus-requires c κs = tt

loop-holds : tie.Need-loop-i-init invariant-loop decreases-loop
loop-holds c =
    let a = c.args in
    let b = number_of (word_of a.boundary) in
    λ options q. letters_none (index_place a.index.now a.pairs.now) a.pairs.now a.ops.now b a.word.now options
    (indexed_step_of a.index.now a.pairs.now a.ops.now b a.word.now options)
    (index_goes_quickly a.index.now a.pairs.now a.ops.now b a.word.now options)
    a.s a.items.now a.k q c.quick_left-left.result (quick c).1 (omega (arith, c.if-items-k.false))

add-smaller : tie.Need-overflow_add-k invariant-loop decreases-loop
add-smaller c = let b = c.well_formed in omega (arith, (far (c.before)).room, long (c.before))

sub-smaller : tie.Need-overflow_sub-items invariant-loop decreases-loop
sub-smaller c = omega (arith, (far c.before).room)

sub-smaller-2 : tie.Need-overflow_sub-n invariant-loop decreases-loop
sub-smaller-2 c = omega (arith, c.loop-i-test.true)

smaller-requires : tie.Need-min-most-requires invariant-loop decreases-loop
smaller-requires c κs = tt

add-set-plain : tie.Need-overflow_add-s invariant-loop decreases-loop
add-set-plain c =
    let b = c.well_formed in
    omega (arith, c.loop-i-test.true, c.saturating_sub-n.ensures)

add-set-plain-2 : tie.Need-overflow_add-s-in-loop-i invariant-loop decreases-loop
add-set-plain-2 c =
    omega (arith, c.loop-i-test.true, starts c.before.before.before.before)

add-set-plain-3 : tie.Need-overflow_add-k-in-loop-i invariant-loop decreases-loop
add-set-plain-3 c =
    let b = c.well_formed in
    omega (arith, (far (c.before.before.before.before.before)).room, long (c.before.before.before.before.before))

set-plain-requires : tie.Need-set_plain-plain-requires invariant-loop decreases-loop
set-plain-requires c κs =
    let e = c.min-most.ensures in (
      record {
        letters = omega (arith, e, c.loop-i-test.true, c.saturating_sub-n.ensures);
        starts = omega (arith, e, c.loop-i-test.true, starts (c.before.before.before.before.before));
        room = omega (arith, e, (far (c.before.before.before.before.before)).room);
        some = omega (arith, (far (c.before.before.before.before.before)).left);
        small = (far (c.before.before.before.before.before)).small;
      },
      omega (arith, c.if-index-lt1285.false),
    )

add-j : tie.Need-overflow_add-j invariant-loop decreases-loop
add-j c =
    let b = c.well_formed in
    omega (arith, stand_inside (omega (arith, c.loop-i-test.true, c.saturating_sub-n.ensures)) c.set_plain-plain.ensures)

add-c : tie.Need-overflow_add-c invariant-loop decreases-loop
add-c c =
    let b = c.well_formed in
    omega (arith, (plain (c.before.before.before)).room, stand-long (c.before.before.before))

letters-done-requires : tie.Need-letters_done-requires invariant-loop decreases-loop
letters-done-requires c κs = omega (arith, (plain c.before.before.before.before).left)

same_length : tie.Need-shape_of-items-then-n-j invariant-loop decreases-loop
same_length c = stand-long c.before.before.before.before.before

returns-4 : tie.Need-returns-then-n-j invariant-loop decreases-loop
returns-4 c =
    as_lent c.before.before.before.before.before.before.before.before.before.before.before.before.before.before.before.before.before.before.before c.letters_done.result
    (left (c.before.before.before.before.before) c.letters_done.result c.letters_done.ensures)

add-y : tie.Need-overflow_add-y invariant-loop decreases-loop
add-y c = let b = c.well_formed in omega (arith, there c.before)

mul-y : tie.Need-offset_bounds-word-s invariant-loop decreases-loop
mul-y c = let b = c.well_formed in omega (arith, there c.before)

shared-slice-read-y : tie.Need-bounds-word-s invariant-loop decreases-loop
shared-slice-read-y c = there c.before.before

letters-done-requires-2 : tie.Need-letters_done-requires-then-y-gt255 invariant-loop decreases-loop
letters-done-requires-2 c κs = omega (arith, (plain c.before.before.before.before.before.before.before).left)

same-length-2 : tie.Need-shape_of-items-then-y-gt255 invariant-loop decreases-loop
same-length-2 c = stand-long c.before.before.before.before.before.before.before.before

returns-5 : tie.Need-returns-then-y-gt255 invariant-loop decreases-loop
returns-5 c =
    as_lent c.before.before.before.before.before.before.before.before.before.before.before.before.before.before.before.before.before.before.before.before.before.before c.letters_done-then-y-gt255.result
    (left (c.before.before.before.before.before.before.before.before) c.letters_done-then-y-gt255.result c.letters_done-then-y-gt255.ensures)

place-by-requires : tie.Need-place_by-p-requires invariant-loop decreases-loop
place-by-requires c κs = tt

add-give-pair : tie.Need-overflow_add-s-in-loop-i-2 invariant-loop decreases-loop
add-give-pair c =
    omega (arith, starts (c.before.before.before.before.before.before.before.before.before.before.before.before.before.before.before), c.saturating_sub-n.ensures, there c.before.before.before.before.before)

cast-give-pair : tie.Need-overflow_cast-s invariant-loop decreases-loop
cast-give-pair c =
    omega (arith, starts (c.before.before.before.before.before.before.before.before.before.before.before.before.before.before.before), c.saturating_sub-n.ensures, there c.before.before.before.before.before)

add-give-pair-2 : tie.Need-overflow_add-k-in-loop-i-2 invariant-loop decreases-loop
add-give-pair-2 c =
    let b = c.well_formed in
    omega (arith, (plain (c.before.before.before.before.before.before.before.before.before.before)).room, stand-long (c.before.before.before.before.before.before.before.before.before.before))

mul-give-pair : tie.Need-overflow_mul-k invariant-loop decreases-loop
mul-give-pair c =
    let b = c.well_formed in
    omega (arith, (plain (c.before.before.before.before.before.before.before.before.before.before)).room, stand-long (c.before.before.before.before.before.before.before.before.before.before))

give-pair-requires : tie.Need-give_pair-kern-requires invariant-loop decreases-loop
give-pair-requires c κs = tt

letters-done-requires-3 : tie.Need-letters_done-requires-then-kern-eq0 invariant-loop decreases-loop
letters-done-requires-3 c κs = omega (
  arith,
  (plain
      c.before.before.before.before.before.before.before.before.before.before.before.before.before.before).left,
)

same-length-3 : tie.Need-shape_of-items-then-kern-eq0 invariant-loop decreases-loop
same-length-3 c = given_length c.give_pair-kern.ensures ∙ stand-long
    c.before.before.before.before.before.before.before.before.before.before.before.before.before.before.before

returns-6 : tie.Need-returns-then-kern-eq0 invariant-loop decreases-loop
returns-6 c =
    let a = c.args in
    let r = c.letters_done-then-kern-eq0.result in
    as_lent (c.before.before.before.before.before.before.before.before.before.before.before.before.before.before.before.before.before.before.before.before.before.before.before.before.before.before.before.before.before) r
    (subst (λ (d : List ℤ). GivesItems
    (indexed_step_of a.index.now a.pairs.now a.ops.now (number_of (word_of a.boundary)) a.word.now a.options) a.s a.items.now a.k
    r.state r.count d) (sym (stopped_same c.give_pair-kern.ensures c.if-kern-eq0.true)) (left (c.before.before.before.before.before.before.before.before.before.before.before.before.before.before.before) r c.letters_done-then-kern-eq0.ensures))

-- one letter more
further : (c : tie.Else-kern-eq0 invariant-loop decreases-loop) → let g = c.before.before.before in let p = c.before.before.before.before.before.before.before.before.before.before.before.before.before.before in let a = c.args in
    (options : RunOptions) → is_quick a.ops.now (number_of (word_of a.boundary)) a.word.now options a.s ≡ true →
    LettersSoFar (index_place a.index.now a.pairs.now) a.pairs.now a.ops.now (number_of (word_of a.boundary)) a.word.now options
    (indexed_step_of a.index.now a.pairs.now a.ops.now (number_of (word_of a.boundary)) a.word.now options)
    (index_goes_quickly a.index.now a.pairs.now a.ops.now (number_of (word_of a.boundary)) a.word.now options) a.s a.items.now a.k
    (c.give_pair-kern.result.next + 1) c.give_pair-kern.result.op (c.loop-i.i + c.set_plain-plain.result.count + 1)
    (c.loop-i.m + c.set_plain-plain.result.count + 2) c.give_pair-kern.new.items
further c options q =
    let g = c.before.before.before in
    let p = c.before.before.before.before.before.before.before.before.before.before.before.before.before.before in
    let a = c.args in
    let b = number_of (word_of a.boundary) in
    letters_more (index_place a.index.now a.pairs.now) a.pairs.now a.ops.now b a.word.now options
    (indexed_step_of a.index.now a.pairs.now a.ops.now b a.word.now options)
    (index_goes_quickly a.index.now a.pairs.now a.ops.now b a.word.now options) a.s a.items.now a.k (stand (c.before.before.before.before.before.before.before.before.before.before.before.before.before.before) options q) (there
    c.before.before.before.before.before.before.before.before.before.before) refl c.if-y-gt255.false c.place_by-p.ensures
    c.give_pair-kern.ensures c.if-kern-eq0.false

one_more : (c : tie.Else-kern-eq0 invariant-loop decreases-loop) → let l = c.before.before.before.before.before.before.before.before.before.before.before.before.before.before.before.before.before.before.before.before in let a = c.args in
    LettersSoFar (index_place a.index.now a.pairs.now) a.pairs.now a.ops.now (number_of (word_of a.boundary)) a.word.now a.options
    (indexed_step_of a.index.now a.pairs.now a.ops.now (number_of (word_of a.boundary)) a.word.now a.options)
    (index_goes_quickly a.index.now a.pairs.now a.ops.now (number_of (word_of a.boundary)) a.word.now a.options) a.s a.items.now
    a.k
    (c.give_pair-kern.result.next + 1) c.give_pair-kern.result.op (c.loop-i.i + c.set_plain-plain.result.count + 1)
    (c.loop-i.m + c.set_plain-plain.result.count + 2) c.give_pair-kern.new.items
one_more c = let l = c.before.before.before.before.before.before.before.before.before.before.before.before.before.before.before.before.before.before.before.before in further c c.args.options (quick c.before.before.before.before.before.before.before.before.before.before.before.before.before.before.before.before.before.before.before.before.before).0

add_left : tie.Need-overflow_add-left invariant-loop decreases-loop
add_left c = omega (arith, (one_more c.before).small)

add-m : tie.Need-overflow_add-m invariant-loop decreases-loop
add-m c =
    let b = c.well_formed in
    omega (
      arith,
      (one_more c.before).room,
      given_length c.give_pair-kern.ensures,
      stand-long
          c.before.before.before.before.before.before.before.before.before.before.before.before.before.before.before,
    )

add-i : tie.Need-overflow_add-i invariant-loop decreases-loop
add-i c =
    let b = c.well_formed in
    omega (arith, there c.before.before.before.before.before.before.before.before.before.before.before)

loop-less : tie.Need-loop-i-smaller invariant-loop decreases-loop
loop-less c = omega (
  arith,
  c.loop-i-test.true,
)

loop-again : tie.Need-loop-i-preserved invariant-loop decreases-loop
loop-again c = further c.before

letters-done-requires-4 : tie.Need-letters_done-requires-2 invariant-loop decreases-loop
letters-done-requires-4 c κs = omega (arith, (far c.before).left)

same-length-4 : tie.Need-shape_of-items invariant-loop decreases-loop
same-length-4 c = long c.before.before

returns-7 : tie.Need-returns invariant-loop decreases-loop
returns-7 c =
    as_lent c.before.before.before.before.before.before.before.before.before.before c.letters_done-2.result (left-all (c.before.before) c.letters_done-2.result
    c.letters_done-2.ensures)

pub set_letters_spec : {M : Type 1} → statement M
set_letters_spec =
    tie.close
    (tie.spec
    invariant-loop
    decreases-loop
    quick-left-requires
    returns
    returns-2
    returns-3
    minus-requires
    loop-holds
    add-smaller
    sub-smaller
    sub-smaller-2
    smaller-requires
    add-set-plain
    add-set-plain-2
    add-set-plain-3
    set-plain-requires
    add-j
    add-c
    letters-done-requires
    same_length
    returns-4
    add-y
    mul-y
    shared-slice-read-y
    letters-done-requires-2
    same-length-2
    returns-5
    place-by-requires
    add-give-pair
    cast-give-pair
    add-give-pair-2
    mul-give-pair
    give-pair-requires
    letters-done-requires-3
    same-length-3
    returns-6
    add_left
    add-m
    add-i
    loop-less
    loop-again
    letters-done-requires-4
    same-length-4
    returns-7)
