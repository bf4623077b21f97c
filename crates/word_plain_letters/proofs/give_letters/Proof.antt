-- `word_plain_letters::give_letters` meets its contract. The loop's invariant: the letters so far are given, whatever the options, and `left` is the left that
-- is next. The measure is what is left of the word. Assumes nothing.
use Rattle.std.proofs.Common.{◌≡◌, ℕ, ◌+◌, ◌-◌, ◌<◌, ◌≤◌, true, List, length, get_or, ℤ, sym, refl, ap, ◌∙◌, subst, arith}
use Rattle.words.specs.Words.{word_of, number_of}
use Rattle.words.proofs.Bits.{number_word}
use Rattle.captions.specs.declared.RunOptions.{RunOptions}
use Rattle.captions.specs.Tables.{pair_count}
use Rattle.captions.specs.Steps.{step_of}
use Rattle.step_quick.specs.Quick.{is_quick, found_place}
use Rattle.step_quick.proofs.Theorems.{left_quick}
use Rattle.word_plain_letters.specs.PlainLetters.{plain_left, GivesItems, nothing, letters_end, NextPair}
use Rattle.word_plain_letters.specs.declared.LettersGiven.{LettersGiven}
use Rattle.word_plain_letters.proofs.Theorems.{step_goes_quickly}
use Rattle.word_plain_letters.proofs.Laws.{quick_starts, LettersSoFar, letters_none, letters_length, letters_left, letters_plain, letters_more}
use Rattle.word_plain_letters.proofs.Laws.{letters_stop, stand_length, stopped_same, given_length}
use Rattle.word_plain_letters.proofs.give_letters.Statement.{statement}
use Rattle.word_plain_letters.proofs.give_letters.Tie as tie

abbrev invariant-loop : tie.invariant-loop-i
invariant-loop pairs ops boundary word s items₀ k none left₀ op₀ i₀ m₀ n items left op i m =
    (options : RunOptions) → is_quick ops (number_of boundary) word options s ≡ true →
    LettersSoFar (found_place pairs) pairs ops (number_of boundary) word options (step_of pairs ops (number_of boundary) word options)
    (step_goes_quickly pairs ops (number_of boundary) word options) s items₀ k left op i m items

abbrev decreases-loop : tie.decreases-loop-i
decreases-loop pairs ops boundary word s items₀ k none left₀ op₀ i₀ m₀ n items left op i m = n - i

-- the state is quick, and the left is its own
quick : (c : tie.After-saturating_sub-n invariant-loop decreases-loop) → let a = c.args in
    (is_quick a.ops.now (number_of (word_of a.boundary)) a.word.now a.options a.s ≡ true) ×
    (c.quick_left-left.result ≡ plain_left a.s)
quick c =
    let a = c.args in
    left_quick a.ops.now (number_of (word_of a.boundary)) a.word.now a.options a.s c.quick_left-left.result
    c.quick_left-left.ensures c.if-left-eq0.false

-- the letters so far
far : (l : tie.At-loop-i invariant-loop decreases-loop) → let a = l.args in
    LettersSoFar (found_place a.pairs.now) a.pairs.now a.ops.now (number_of (word_of a.boundary)) a.word.now a.options
    (step_of a.pairs.now a.ops.now (number_of (word_of a.boundary)) a.word.now a.options)
    (step_goes_quickly a.pairs.now a.ops.now (number_of (word_of a.boundary)) a.word.now a.options) a.s a.items.now a.k
    l.loop-i.left l.loop-i.op l.loop-i.i l.loop-i.m l.loop-i.items
far l = let a = l.args in l.loop-i.invariant a.options (quick l.before).0

long : (l : tie.At-loop-i invariant-loop decreases-loop) → length l.loop-i.items ≡ length l.args.items.now
long l =
    let a = l.args in
    let b = number_of (word_of a.boundary) in
    letters_length (found_place a.pairs.now) a.pairs.now a.ops.now b a.word.now a.options
    (step_of a.pairs.now a.ops.now b a.word.now a.options) (step_goes_quickly a.pairs.now a.ops.now b a.word.now a.options)
    a.s a.items.now a.k (far l)

-- the letters' starts are small
starts : (l : tie.At-loop-i invariant-loop decreases-loop) → let a = l.args in
    a.s.given + l.saturating_sub-n.result ≤ 65535
starts l =
    let a = l.args in
    let h = quick_starts a.ops.now (number_of (word_of a.boundary)) a.word.now a.options a.s (quick l.before).0 in
    omega (arith, h, l.saturating_sub-n.ensures)

-- what is said of the bits of the boundary character is said of it as it was lent
as_lent : (c : tie.Start invariant-loop decreases-loop) (r : LettersGiven) {d : List ℤ} → let a = c.args in let b = number_of (word_of a.boundary) in
    GivesItems (step_of a.pairs.now a.ops.now b a.word.now a.options) a.s a.items.now a.k r.state r.count d →
    NextPair a.pairs.now a.ops.now b a.word.now a.options r.state r.pair →
    GivesItems (step_of a.pairs.now a.ops.now a.boundary a.word.now a.options) a.s a.items.now a.k r.state r.count d
    × NextPair a.pairs.now a.ops.now a.boundary a.word.now a.options r.state r.pair
as_lent c r {d} g n =
    let a = c.args in
    let e = number_word a.boundary c.ranges.boundary in (
      subst (λ (z : ℤ). GivesItems (step_of a.pairs.now a.ops.now z a.word.now a.options) a.s a.items.now a.k r.state
          r.count d) e g,
      subst (λ (z : ℤ). NextPair a.pairs.now a.ops.now z a.word.now a.options r.state r.pair) e n,
    )

-- no pair stopped the letters
no-pair : (pairs ops : List ℤ) (boundary : ℤ) (word : List ℕ) (options : RunOptions) (r : LettersGiven) → r.pair ≡ pair_count pairs →
    NextPair pairs ops boundary word options r.state r.pair
no-pair pairs ops boundary word options r e h = absurd (omega (arith, e, h))

-- .. and letters that stand after them
stand : (p : tie.After-give_plain-plain invariant-loop decreases-loop) → let l = p.before.before.before.before.before.before in let a =
    p.args in (options : RunOptions) →
    is_quick a.ops.now (number_of (word_of a.boundary)) a.word.now options a.s ≡ true →
    LettersSoFar (found_place a.pairs.now) a.pairs.now a.ops.now (number_of (word_of a.boundary)) a.word.now options
    (step_of a.pairs.now a.ops.now (number_of (word_of a.boundary)) a.word.now options) (step_goes_quickly a.pairs.now a.ops.now
    (number_of (word_of a.boundary)) a.word.now options)
    a.s a.items.now a.k
    p.give_plain-plain.result.left p.loop-i.op (p.loop-i.i + p.give_plain-plain.result.count) (p.loop-i.m + p.give_plain-plain.result.count)
    p.give_plain-plain.new.items
stand p options q =
    let l = p.before.before.before.before.before.before in
    let a = p.args in
    let b = number_of (word_of a.boundary) in
    letters_plain (found_place a.pairs.now) a.pairs.now a.ops.now b a.word.now options
    (step_of a.pairs.now a.ops.now b a.word.now options) (step_goes_quickly a.pairs.now a.ops.now b a.word.now options)
    a.s a.items.now a.k
    (p.loop-i.invariant options q) p.give_plain-plain.ensures.0

plain : (p : tie.After-give_plain-plain invariant-loop decreases-loop) → let l = p.before.before.before.before.before.before in let a =
    p.args in
    LettersSoFar (found_place a.pairs.now) a.pairs.now a.ops.now (number_of (word_of a.boundary)) a.word.now a.options
    (step_of a.pairs.now a.ops.now (number_of (word_of a.boundary)) a.word.now a.options) (step_goes_quickly a.pairs.now a.ops.now
    (number_of (word_of a.boundary)) a.word.now a.options)
    a.s a.items.now a.k
    p.give_plain-plain.result.left p.loop-i.op (p.loop-i.i + p.give_plain-plain.result.count) (p.loop-i.m + p.give_plain-plain.result.count)
    p.give_plain-plain.new.items
plain p = let l = p.before.before.before.before.before.before in stand p p.args.options (quick
    p.before.before.before.before.before.before.before).0

stand-long : (p : tie.After-give_plain-plain invariant-loop decreases-loop) → length p.give_plain-plain.new.items ≡ length p.args.items.now
stand-long p = stand_length p.give_plain-plain.ensures.0 ∙ long p.before.before.before.before.before.before

-- the pair that stops them, of a letter that is there and in range
stop : (c : tie.Else-none-plain invariant-loop decreases-loop) → let p = c.before.before.before.before.before in let l =
    c.before.before.before.before.before.before.before.before.before.before.before in let a = l.before.before.before.before.before.before.args in
    let at = a.s.read + (l.loop-i.i + c.give_plain-plain.result.count) in
    (at < length a.word.now) × (get_or a.word.now at 0 ≤ 255)
    × (c.give_plain-plain.result.pair ≡ found_place a.pairs.now c.give_plain-plain.result.left (get_or a.word.now at 0))
stop c =
    let p = c.before.before.before.before.before in
    let l = c.before.before.before.before.before.before.before.before.before.before.before in
    let a = c.args in
    let n = c.give_plain-plain.result.count in
    let e : a.s.read + c.loop-i.i + n ≡ a.s.read + (c.loop-i.i + n) = omega arith in
    subst (λ (x : ℕ). (x < length a.word.now) × (get_or a.word.now x 0 ≤ 255)
    × (c.give_plain-plain.result.pair ≡ found_place a.pairs.now c.give_plain-plain.result.left (get_or a.word.now x 0))) e
    (c.give_plain-plain.ensures.1 c.if-none-plain.false)

-- what is left of the letters so far
left : (l : tie.At-loop-i invariant-loop decreases-loop) {p : ℕ} {r : LettersGiven} → let a = l.args in
    r ≡ letters_end a.s l.loop-i.left l.loop-i.op l.loop-i.i l.loop-i.m p →
    GivesItems (step_of a.pairs.now a.ops.now (number_of (word_of a.boundary)) a.word.now a.options) a.s a.items.now a.k
    r.state r.count l.loop-i.items
left l e =
    let a = l.args in
    let b = number_of (word_of a.boundary) in
    letters_left (found_place a.pairs.now) a.pairs.now a.ops.now b a.word.now a.options
    (step_of a.pairs.now a.ops.now b a.word.now a.options) (step_goes_quickly a.pairs.now a.ops.now b a.word.now a.options)
    a.s a.items.now a.k (far l) e

quick-left-requires : tie.Need-quick_left-left-requires invariant-loop decreases-loop
quick-left-requires c κs = tt

returns : tie.Need-returns-then-left-eq0 invariant-loop decreases-loop
returns c = (nothing, λ h. absurd (omega (arith, h)))

returns-2 : tie.Need-returns-then-items-k invariant-loop decreases-loop
returns-2 c = (nothing, λ h. absurd (omega (arith, h)))

minus-requires : tie.Need-saturating_sub-n-requires invariant-loop decreases-loop
minus-requires c κs = tt

loop-holds : tie.Need-loop-i-init invariant-loop decreases-loop
loop-holds c =
    let a = c.args in
    let b = number_of (word_of a.boundary) in
    λ options q. letters_none (found_place a.pairs.now) a.pairs.now a.ops.now b a.word.now options
    (step_of a.pairs.now a.ops.now b a.word.now options) (step_goes_quickly a.pairs.now a.ops.now b a.word.now options)
    a.s a.items.now a.k q c.quick_left-left.result (quick c).1 (omega (arith, c.if-items-k.false))

add-smaller : tie.Need-overflow_add-k invariant-loop decreases-loop
add-smaller c = let b = c.well_formed in omega (arith, (far (c.before)).room, long (c.before))

sub-smaller : tie.Need-overflow_sub-items invariant-loop decreases-loop
sub-smaller c = omega (arith, (far c.before).room)

sub-smaller-2 : tie.Need-overflow_sub-n invariant-loop decreases-loop
sub-smaller-2 c = omega (arith, c.loop-i-test.true)

smaller-requires : tie.Need-min-most-requires invariant-loop decreases-loop
smaller-requires c κs = tt

add-give-plain : tie.Need-overflow_add-s invariant-loop decreases-loop
add-give-plain c =
    let b = c.well_formed in
    omega (arith, c.loop-i-test.true, c.saturating_sub-n.ensures)

add-give-plain-2 : tie.Need-overflow_add-s-in-loop-i invariant-loop decreases-loop
add-give-plain-2 c =
    omega (arith, c.loop-i-test.true, starts c.before.before.before.before)

add-give-plain-3 : tie.Need-overflow_add-k-in-loop-i invariant-loop decreases-loop
add-give-plain-3 c =
    let b = c.well_formed in
    omega (arith, (far (c.before.before.before.before.before)).room, long (c.before.before.before.before.before))

give-plain-requires : tie.Need-give_plain-plain-requires invariant-loop decreases-loop
give-plain-requires c κs =
    let e = c.min-most.ensures in
    record {
      letters = omega (arith, e, c.loop-i-test.true, c.saturating_sub-n.ensures);
      starts = omega (arith, e, c.loop-i-test.true, starts (c.before.before.before.before.before));
      room = omega (arith, e, (far (c.before.before.before.before.before)).room);
      some = omega (arith, (far (c.before.before.before.before.before)).left);
      small = (far (c.before.before.before.before.before)).small;
    }

add-j : tie.Need-overflow_add-j invariant-loop decreases-loop
add-j c =
    let b = c.well_formed in
    omega (arith, (plain (c.before.before)).room, stand-long (c.before.before), c.loop-i-test.true, c.saturating_sub-n.ensures)

add-c : tie.Need-overflow_add-c invariant-loop decreases-loop
add-c c =
    let b = c.well_formed in
    omega (arith, (plain (c.before.before.before)).room, stand-long (c.before.before.before))

letters-end-requires : tie.Need-letters_end-requires invariant-loop decreases-loop
letters-end-requires c κs = omega (arith, (plain c.before.before.before.before.before).left)

same_length : tie.Need-shape_of-items-then-none-plain invariant-loop decreases-loop
same_length c = stand-long c.before.before.before.before.before.before

returns-3 : tie.Need-returns-then-none-plain invariant-loop decreases-loop
returns-3 c =
    let a = c.args in
    let b = number_of (word_of a.boundary) in
    as_lent (c.before.before.before.before.before.before.before.before.before.before.before.before.before.before.before.before.before.before) c.letters_end.result
    (letters_left (found_place a.pairs.now) a.pairs.now a.ops.now b a.word.now a.options
    (step_of a.pairs.now a.ops.now b a.word.now a.options) (step_goes_quickly a.pairs.now a.ops.now b a.word.now a.options)
    a.s a.items.now a.k (plain (c.before.before.before.before.before.before)) c.letters_end.ensures)
    (no-pair a.pairs.now a.ops.now b a.word.now a.options c.letters_end.result
    (ap (λ (x : LettersGiven). x.pair) c.letters_end.ensures))

add-give-pair : tie.Need-overflow_add-s-in-loop-i-2 invariant-loop decreases-loop
add-give-pair c =
    omega (arith, starts (c.before.before.before.before.before.before.before.before.before.before.before.before), c.saturating_sub-n.ensures, (stop c.before).0)

cast-give-pair : tie.Need-overflow_cast-s invariant-loop decreases-loop
cast-give-pair c =
    omega (arith, starts (c.before.before.before.before.before.before.before.before.before.before.before.before), c.saturating_sub-n.ensures, (stop c.before).0)

add-give-pair-2 : tie.Need-overflow_add-k-in-loop-i-2 invariant-loop decreases-loop
add-give-pair-2 c =
    let b = c.well_formed in
    omega (arith, (plain (c.before.before.before.before.before.before.before)).room, stand-long (c.before.before.before.before.before.before.before))

mul-give-pair : tie.Need-overflow_mul-k invariant-loop decreases-loop
mul-give-pair c =
    let b = c.well_formed in
    omega (arith, (plain (c.before.before.before.before.before.before.before)).room, stand-long (c.before.before.before.before.before.before.before))

give-pair-requires : tie.Need-give_pair-kern-requires invariant-loop decreases-loop
give-pair-requires c κs = tt

letters-end-requires-2 : tie.Need-letters_end-requires-then-kern-eq0 invariant-loop decreases-loop
letters-end-requires-2 c κs = omega (arith, (plain c.before.before.before.before.before.before.before.before.before.before.before).left)

same-length-2 : tie.Need-shape_of-items-then-kern-eq0 invariant-loop decreases-loop
same-length-2 c = given_length c.give_pair-kern.ensures ∙ stand-long
    c.before.before.before.before.before.before.before.before.before.before.before.before

returns-4 : tie.Need-returns-then-kern-eq0 invariant-loop decreases-loop
returns-4 c =
    let a = c.args in
    let b = number_of (word_of a.boundary) in
    let f = c.letters_end-then-kern-eq0.ensures in
    as_lent (c.before.before.before.before.before.before.before.before.before.before.before.before.before.before.before.before.before.before.before.before.before.before.before.before) c.letters_end-then-kern-eq0.result
    (subst (λ (d : List ℤ). GivesItems (step_of a.pairs.now a.ops.now b a.word.now a.options) a.s a.items.now a.k
    c.letters_end-then-kern-eq0.result.state c.letters_end-then-kern-eq0.result.count d) (sym (stopped_same c.give_pair-kern.ensures c.if-kern-eq0.true))
    (letters_left (found_place a.pairs.now) a.pairs.now a.ops.now b a.word.now a.options
    (step_of a.pairs.now a.ops.now b a.word.now a.options) (step_goes_quickly a.pairs.now a.ops.now b a.word.now a.options)
    a.s a.items.now a.k (plain (c.before.before.before.before.before.before.before.before.before.before.before.before)) f))
    (λ h. letters_stop (found_place a.pairs.now) a.pairs.now a.ops.now b a.word.now a.options
    (step_of a.pairs.now a.ops.now b a.word.now a.options) (step_goes_quickly a.pairs.now a.ops.now b a.word.now a.options)
    a.s a.items.now a.k (plain (c.before.before.before.before.before.before.before.before.before.before.before.before)) (stop (c.before.before.before.before.before.before.before)).0 refl (stop (c.before.before.before.before.before.before.before)).1
    (ap (λ (x : LettersGiven). x.pair) f ∙ (stop (c.before.before.before.before.before.before.before)).2) f)

-- one letter more
further : (c : tie.Else-kern-eq0 invariant-loop decreases-loop) → let g = c.before.before.before in let p =
    c.before.before.before.before.before.before.before.before.before.before.before in let l = p.before.before.before.before.before.before in let a =
    l.before.before.before.before.before.before.args in
    (options : RunOptions) → is_quick a.ops.now (number_of (word_of a.boundary)) a.word.now options a.s ≡ true →
    LettersSoFar (found_place a.pairs.now) a.pairs.now a.ops.now (number_of (word_of a.boundary)) a.word.now options
    (step_of a.pairs.now a.ops.now (number_of (word_of a.boundary)) a.word.now options) (step_goes_quickly a.pairs.now a.ops.now
    (number_of (word_of a.boundary)) a.word.now options)
    a.s a.items.now a.k
    (c.give_pair-kern.result.next + 1) c.give_pair-kern.result.op (l.loop-i.i + p.give_plain-plain.result.count + 1)
    (l.loop-i.m + p.give_plain-plain.result.count + 2) c.give_pair-kern.new.items
further c options q =
    let g = c.before.before.before in
    let p = c.before.before.before.before.before.before.before.before.before.before.before in
    let a = c.args in
    let b = number_of (word_of a.boundary) in
    letters_more (found_place a.pairs.now) a.pairs.now a.ops.now b a.word.now options
    (step_of a.pairs.now a.ops.now b a.word.now options) (step_goes_quickly a.pairs.now a.ops.now b a.word.now options)
    a.s a.items.now a.k (stand (c.before.before.before.before.before.before.before.before.before.before.before) options q) (stop (c.before.before.before.before.before.before)).0 refl (stop (c.before.before.before.before.before.before)).1 (stop (c.before.before.before.before.before.before)).2 c.give_pair-kern.ensures c.if-kern-eq0.false

one_more : (c : tie.Else-kern-eq0 invariant-loop decreases-loop) → let p =
    c.before.before.before.before.before.before.before.before.before.before.before in let l = p.before.before.before.before.before.before in let a =
    l.before.before.before.before.before.before.args in
    LettersSoFar (found_place a.pairs.now) a.pairs.now a.ops.now (number_of (word_of a.boundary)) a.word.now a.options
    (step_of a.pairs.now a.ops.now (number_of (word_of a.boundary)) a.word.now a.options) (step_goes_quickly a.pairs.now a.ops.now
    (number_of (word_of a.boundary)) a.word.now a.options)
    a.s a.items.now a.k
    (c.give_pair-kern.result.next + 1) c.give_pair-kern.result.op (l.loop-i.i + p.give_plain-plain.result.count + 1)
    (l.loop-i.m + p.give_plain-plain.result.count + 2) c.give_pair-kern.new.items
one_more c = let l =
    c.before.before.before.before.before.before.before.before.before.before.before.before.before.before.before.before.before in further c
    l.before.before.before.before.before.before.args.options (quick l.before).0

add_left : tie.Need-overflow_add-left invariant-loop decreases-loop
add_left c = omega (arith, (one_more c.before).small)

add-m : tie.Need-overflow_add-m invariant-loop decreases-loop
add-m c =
    let b = c.well_formed in
    omega (
      arith,
      (one_more c.before).room,
      given_length c.give_pair-kern.ensures,
      stand-long
          c.before.before.before.before.before.before.before.before.before.before.before.before,
    )

add-i : tie.Need-overflow_add-i invariant-loop decreases-loop
add-i c =
    let b = c.well_formed in
    omega (arith, (stop c.before.before.before.before.before.before.before).0)

loop-less : tie.Need-loop-i-smaller invariant-loop decreases-loop
loop-less c = omega (
  arith,
  c.loop-i-test.true,
)

loop-again : tie.Need-loop-i-preserved invariant-loop decreases-loop
loop-again c = further c.before

letters-end-requires-3 : tie.Need-letters_end-requires-2 invariant-loop decreases-loop
letters-end-requires-3 c κs = omega (arith, (far c.before).left)

same-length-3 : tie.Need-shape_of-items invariant-loop decreases-loop
same-length-3 c = long c.before.before

returns-5 : tie.Need-returns invariant-loop decreases-loop
returns-5 c =
    let a = c.args in
    as_lent (c.before.before.before.before.before.before.before.before) c.letters_end-2.result (left (c.before.before) c.letters_end-2.ensures)
    (no-pair a.pairs.now a.ops.now (number_of (word_of a.boundary)) a.word.now a.options c.letters_end-2.result
    (ap (λ (x : LettersGiven). x.pair) c.letters_end-2.ensures))

pub give_letters_spec : {M : Type 1} → statement M
give_letters_spec =
    tie.close
    (tie.spec
    invariant-loop
    decreases-loop
    quick-left-requires
    returns
    returns-2
    minus-requires
    loop-holds
    add-smaller
    sub-smaller
    sub-smaller-2
    smaller-requires
    add-give-plain
    add-give-plain-2
    add-give-plain-3
    give-plain-requires
    add-j
    add-c
    letters-end-requires
    same_length
    returns-3
    add-give-pair
    cast-give-pair
    add-give-pair-2
    mul-give-pair
    give-pair-requires
    letters-end-requires-2
    same-length-2
    returns-4
    add_left
    add-m
    add-i
    loop-less
    loop-again
    letters-end-requires-3
    same-length-3
    returns-5)
