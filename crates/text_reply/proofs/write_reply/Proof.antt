-- `text_reply::write_reply` meets its contract: by the length, 15 and zeros, or the reply and zeros after it.
-- Assumes nothing.
use mathlib.Core.Path.{◌≡◌, subst}
use mathlib.Core.List.{List}
use Prim.Native.Nat.{ℕ, ◌≤◌}
use native.Mathlib.Omega.{arith}
use lib.IntN.{ℤ}
use lib.ListN.{length}
use Rattle.words.specs.Words.{number_of}
use Rattle.words.proofs.Bits.{number_is}
use Rattle.lang.specs.declared.Written.{Written}
use Rattle.lang.specs.declared.Written.TheVariants.{Count, Refused}
use Rattle.lang.proofs.Records.{word_passed}
use Rattle.columns.specs.Replying.{reply_bytes, WritesReply}
use Rattle.text_reply.proofs.Whole.{rest_zeroed, reply_refused, reply_fits, size_is, reply_taken}
use borrow.Author.Rules.{rules}
use Rattle.text_reply.proofs.write_reply.Statement.{statement}
use Rattle.text_reply.proofs.write_reply.Tie as tie

-- the reply's bytes, the word's length given by its bits as they were handed on; and what is said of them, said of the length
abbrev bytes : tie.After-word_of-word → List ℕ
bytes c = let a = c.args in reply_bytes a.pairs.now a.ops.now a.loops.now (number_of c.word_of-word.result) a.items.now

said : (c : tie.After-word_of-word) (r : Written) (d : List ℕ) → let a = c.args in
    WritesReply (bytes c) a.reply.now r d →
    WritesReply (reply_bytes a.pairs.now a.ops.now a.loops.now a.letters a.items.now) a.reply.now r d
said c r d h =
    let a = c.args in
    subst (λ (z : ℤ). WritesReply (reply_bytes a.pairs.now a.ops.now a.loops.now z a.items.now) a.reply.now r d)
    (number_is (word_passed c.ranges.letters c.word_of-word.ensures)) h

-- where there is room: the reply's length is within it, and is the length that was counted
roomy : (c : tie.Else-not-has_room) → let w = c.before.before.before in
    (length (bytes (c.before.before.before)) ≤ length c.args.reply.now) × (c.reply_size-size.result ≡ length (bytes (c.before.before.before)))
roomy c =
    let w = c.before.before.before in
    let a = c.args in (
      reply_fits (bytes (c.before.before.before)) a.reply.now c.reply_size-size.result (c.reply_size-size.ensures a.ops.now) c.has_room.result
          c.has_room.ensures (c.if-not-has_room.false),
      size_is (bytes (c.before.before.before)) a.reply.now c.reply_size-size.result (c.reply_size-size.ensures a.ops.now) c.has_room.result
          c.has_room.ensures (c.if-not-has_room.false),
    )

word-of-requires : tie.Need-word_of-word-requires
word-of-requires c κs = search rules

reply-size-requires : tie.Need-reply_size-size-requires
reply-size-requires c κs = search rules

has-room-requires : tie.Need-has_room-requires
has-room-requires c κs = search rules

zero-all-requires : tie.Need-zero_all-requires
zero-all-requires c κs = search rules

same_length : tie.Need-shape_of-reply-then-not-has_room
same_length c = search rules

returns : tie.Need-returns-then-not-has_room
returns c =
    let a = c.args in
    said (c.before.before.before.before.before.before.before) (Refused 15) c.zero_all.new.s
    (reply_refused (bytes (c.before.before.before.before.before.before.before)) a.reply.now c.reply_size-size.result (c.reply_size-size.ensures a.ops.now) c.has_room.result c.has_room.ensures
    (c.if-not-has_room.true) c.zero_all.new.s c.zero_all.ensures)

put-reply-requires : tie.Need-put_reply-requires
put-reply-requires c κs = (roomy c.before).0

sub-zero-u8 : tie.Need-slice_bounds-zero_all-count
sub-zero-u8 c =
    omega (arith, roomy (c.before.before.before.before), c.put_reply.auto.out)

part-zero-u8-start : tie.Need-slice_bounds-zero_all-start
part-zero-u8-start c =
    omega (arith, roomy (c.before.before.before.before), c.put_reply.auto.out)

part-zero-u8-end : tie.Need-slice_bounds-zero_all-end
part-zero-u8-end c = search rules

zero-all-requires-2 : tie.Need-zero_all-requires-2
zero-all-requires-2 c κs = search rules

same-length-2 : tie.Need-shape_of-reply
same-length-2 c = search rules

returns-2 : tie.Need-returns
returns-2 c =
    let a = c.args in
    let m = roomy (c.before.before.before.before.before.before.before.before) in
    let d = rest_zeroed (bytes (c.before.before.before.before.before.before.before.before.before.before.before)) a.reply.now c.put_reply.new.out c.zero_all-2.new.s c.reply_size-size.result m.0 m.1
    c.put_reply.ensures c.zero_all-2.ensures in
    said (c.before.before.before.before.before.before.before.before.before.before.before) (Count c.reply_size-size.result) _
    (reply_taken (bytes (c.before.before.before.before.before.before.before.before.before.before.before)) a.reply.now c.reply_size-size.result (c.reply_size-size.ensures a.ops.now) c.has_room.result c.has_room.ensures
    (c.if-not-has_room.false) _ d)

pub write_reply_spec : {M : Type 1} → statement M
write_reply_spec =
    tie.close
    (tie.spec
    word-of-requires
    reply-size-requires
    has-room-requires
    zero-all-requires
    same_length
    returns
    put-reply-requires
    sub-zero-u8
    part-zero-u8-start
    part-zero-u8-end
    zero-all-requires-2
    same-length-2
    returns-2)
