-- `entry_unpack::unpack_entrypoint` meets its contract: the list is zeros, and over them stands passthrough where the entry is taken.
-- Assumes nothing.
use mathlib.Core.Path.{◌≡◌, ap, ◌∙◌}
use mathlib.Core.List.{List}
use lib.IntN.{ℤ}
use lib.ListN.{length}
use Prim.Native.Nat.{ℕ}
use Rattle.words.specs.Words.{word_of}
use Rattle.words.proofs.Bits.{number_word}
use Rattle.entry_unpack.specs.Unpacking.{unpack_refusal}
use Rattle.entry_unpack.proofs.Unpacking.{unpacks_refused, unpacks_room, unpacks_entry}
use borrow.Author.Rules.{rules}
use Rattle.entry_unpack.proofs.unpack_entrypoint.Statement.{statement}
use Rattle.entry_unpack.proofs.unpack_entrypoint.Tie as tie

abbrev start : tie.After-unpack_refusal-refusal → tie.Start
start r = r.before.before.before.before.before.before.before

abbrev zeros : tie.After-unpack_refusal-refusal → List ℕ
zeros r = r.zero_all.new.s

asked : (r : tie.After-unpack_refusal-refusal) →
    r.unpack_refusal-refusal.result ≡ unpack_refusal (start r).args.instructions.now (start r).args.entry (start r).args.passthrough.now (length (zeros r))
asked r =
    let s = start r in
    r.unpack_refusal-refusal.ensures
    ∙ ap (λ (z : ℤ). unpack_refusal s.args.instructions.now z s.args.passthrough.now (length (zeros r)))
    (number_word s.args.entry s.ranges.entry)

zero-all-requires : tie.Need-zero_all-requires
zero-all-requires c κs = search rules

unpack-refusal-requires : tie.Need-unpack_refusal-refusal-requires
unpack-refusal-requires c κs = search rules

refused-requires : tie.Need-refused-requires
refused-requires c κs = search rules

same_length : tie.Need-shape_of-out-then-refusal-ne0
same_length c = search rules

returns : tie.Need-returns-then-refusal-ne0
returns c =
    let a = (start (c.before.before)).args in
    unpacks_refused a.instructions.now a.entry a.passthrough.now a.out.now (zeros (c.before.before)) c.zero_all.ensures
    (asked (c.before.before)) c.if-refusal-ne0.true c.refused.result c.refused.ensures

word-of-requires : tie.Need-word_of-place-requires
word-of-requires c κs = search rules

cast-place : tie.Need-overflow_cast-place
cast-place c = search rules

put-passthrough-requires : tie.Need-put_passthrough-requires
put-passthrough-requires c κs =
    let a = (start (c.before.before.before)).args in
    unpacks_room a.instructions.now a.entry a.passthrough.now a.out.now (zeros (c.before.before.before)) c.zero_all.ensures (asked (c.before.before.before))
    c.if-refusal-ne0.false

stands-for-requires : tie.Need-stands_for-requires
stands-for-requires c κs = search rules

same-length-2 : tie.Need-shape_of-out
same-length-2 c = search rules

returns-2 : tie.Need-returns
returns-2 c =
    let s = start (c.before.before.before.before.before.before.before) in
    let a = s.args in
    unpacks_entry a.instructions.now a.entry a.passthrough.now a.out.now (zeros (c.before.before.before.before.before.before.before)) c.zero_all.ensures (asked (c.before.before.before.before.before.before.before))
    c.if-refusal-ne0.false (c.word_of-place.ensures ∙ ap word_of (number_word a.entry s.ranges.entry)) c.put_passthrough.ensures c.stands_for.ensures

pub unpack_entrypoint_spec : {M : Type 1} → statement M
unpack_entrypoint_spec =
    tie.close
    (tie.spec
    zero-all-requires
    unpack-refusal-requires
    refused-requires
    same_length
    returns
    word-of-requires
    cast-place
    put-passthrough-requires
    stands-for-requires
    same-length-2
    returns-2)
