-- `word_plain_letters::give_pair` meets its contract: nothing, or a kern pair.
-- Assumes nothing.
use Rattle.std.proofs.Common.{◌≡◌, suc, ◌+◌, ◌<◌, ◌≤◌, true, arith, rules}
use Rattle.captions.specs.Tables.{pair_count, op_count, first_op}
use Rattle.step_quick_pair.specs.KernPairs.{is_kern_pair}
use Rattle.step_quick_pair.proofs.Laws.{op_pair, pair_is}
use Rattle.word_plain_letters.specs.PlainLetters.{stops}
use Rattle.word_plain_letters.proofs.Laws.{gives_kerns}
use Rattle.word_plain_letters.proofs.give_pair.Statement.{statement}
use Rattle.word_plain_letters.proofs.give_pair.Tie as tie

-- the entry is a kern pair, and its ops and its place are inside
pair : (c : tie.Else-q-eq0) → let a = c.args in
    (is_kern_pair a.pairs.now a.ops.now a.place ≡ true) × (c.kern_op-q.result ≡ suc (first_op a.pairs.now a.place))
pair c =
    let a = c.args in
    op_pair a.pairs.now a.ops.now a.place c.kern_op-q.result c.kern_op-q.ensures c.if-q-eq0.false

inside : (c : tie.Else-q-eq0) → let a = c.args in
    (c.kern_op-q.result + 1 ≤ op_count a.ops.now) × (a.place < pair_count a.pairs.now)
inside c =
    let a = c.args in
    let p = pair_is a.pairs.now a.ops.now a.place (pair c).0 in
    (omega (arith, p.among, (pair c).1), p.there)

kern-op-requires : tie.Need-kern_op-q-requires
kern-op-requires c κs = search rules

returns : tie.Need-returns-then-q-eq0
returns c = stops

minus-requires : tie.Need-saturating_sub-requires
minus-requires c κs = search rules

returns-2 : tie.Need-returns-then-saturating_sub-lt12
returns-2 c = stops

sub-word-at : tie.Need-overflow_sub-q
sub-word-at c = search rules

mul-word-at : tie.Need-overflow_mul-q
mul-word-at c =
    let b = c.well_formed in
    omega (arith, (inside (c.before.before.before)).0, (inside (c.before.before.before)).1)

add-word-at : tie.Need-overflow_add-q
add-word-at c =
    let b = c.well_formed in
    omega (arith, (inside (c.before.before.before)).0, (inside (c.before.before.before)).1)

word-at-requires : tie.Need-word_at-requires
word-at-requires c κs = search rules

write-six-requires : tie.Need-write_six-requires
write-six-requires c κs = search rules

add-write-six : tie.Need-overflow_add-at
add-write-six c = search rules

mul-word-at-2 : tie.Need-overflow_mul-q-2
mul-word-at-2 c =
    let b = c.well_formed in
    omega (arith, (inside (c.before.before.before.before.before.before.before)).0, (inside (c.before.before.before.before.before.before.before)).1)

add-word-at-2 : tie.Need-overflow_add-q-2
add-word-at-2 c =
    let b = c.well_formed in
    omega (arith, (inside (c.before.before.before.before.before.before.before)).0, (inside (c.before.before.before.before.before.before.before)).1)

word-at-requires-2 : tie.Need-word_at-requires-2
word-at-requires-2 c κs = search rules

write-six-requires-2 : tie.Need-write_six-requires-2
write-six-requires-2 c κs = search rules

add-t15 : tie.Need-overflow_add-result
add-t15 c =
    let b = c.well_formed in
    omega (arith, (inside (c.before.before.before.before.before.before.before.before.before.before)).0, (inside (c.before.before.before.before.before.before.before.before.before.before)).1)

mul-word-at-3 : tie.Need-overflow_mul-place
mul-word-at-3 c =
    let b = c.well_formed in
    omega (arith, (inside (c.before.before.before.before.before.before.before.before.before.before)).0, (inside (c.before.before.before.before.before.before.before.before.before.before)).1)

add-word-at-3 : tie.Need-overflow_add-place
add-word-at-3 c =
    let b = c.well_formed in
    omega (arith, (inside (c.before.before.before.before.before.before.before.before.before.before)).0, (inside (c.before.before.before.before.before.before.before.before.before.before)).1)

word-at-requires-3 : tie.Need-word_at-requires-3
word-at-requires-3 c κs = search rules

same_length : tie.Need-shape_of-items
same_length c = search rules

returns-3 : tie.Need-returns
returns-3 c =
    let a = c.args in
    gives_kerns a.pairs.now a.ops.now a.place a.start a.items.now a.at (pair (c.before.before.before.before.before.before.before.before.before.before.before)).0
    (omega (arith, c.if-saturating_sub-lt12.false, c.saturating_sub.ensures)) (pair (c.before.before.before.before.before.before.before.before.before.before.before)).1 c.word_at.ensures c.word_at-2.ensures c.word_at-3.ensures
    c.write_six.ensures c.write_six-2.ensures

pub give_pair_spec : {M : Type 1} → statement M
give_pair_spec =
    tie.close
    (tie.spec
    kern-op-requires
    returns
    minus-requires
    returns-2
    sub-word-at
    mul-word-at
    add-word-at
    word-at-requires
    write-six-requires
    add-write-six
    mul-word-at-2
    add-word-at-2
    word-at-requires-2
    write-six-requires-2
    add-t15
    mul-word-at-3
    add-word-at-3
    word-at-requires-3
    same_length
    returns-3)
