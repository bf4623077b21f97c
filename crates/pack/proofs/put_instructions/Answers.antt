use Rattle.std.proofs.Common.{◌≡◌, ◌++◌, pos, length, arith}
use Rattle.words.specs.Words.{number_of}
use Rattle.words.proofs.Lists.{filling_none}
use Rattle.lang.proofs.Filled.{filling_put}
use Rattle.pack.specs.Packing.{front, back}
use Rattle.pack.proofs.Packing.{packed_at, number_count, filling_is}
use Rattle.pack.proofs.put_instructions.Goals as goal

pub packed_size-size-requires : goal.packed_size-size-requires
packed_size-size-requires c = omega (arith, c.requires.offset_value.1.1.0 0)

pub loop-j-init : goal.loop-j-init
loop-j-init c =
    let a = c.args in
    filling_none (packed_at (number_of a.boundary) a.redirects a.offset a.labels.now a.instructions.now (number_of a.left)) a.out.now

pub loop-j-preserved : goal.loop-j-preserved
loop-j-preserved c =
    let a = c.args in
    let v = c.requires.offset_value in
    let size = number_count (number_of a.boundary) a.redirects a.offset a.labels.now a.instructions.now (number_of a.left) v.0 v.1.0 in
    filling_put c.loop-j.invariant (omega (arith, size)) c.put_word.ensures c.packed_number-number.ensures

pub returns : goal.returns
returns c =
    let a = c.args in
    let v = c.requires.offset_value in
    let xs = front (number_of a.boundary) a.redirects a.offset a.labels.now ++ a.instructions.now ++ back (number_of a.left) a.offset in
    let size = number_count (number_of a.boundary) a.redirects a.offset a.labels.now a.instructions.now (number_of a.left) v.0 v.1.0 in
    let e : c.loop-j.j ≡ length xs = omega (arith, size) in
    filling_is xs (pos 0) (rw e at c.loop-j.invariant)
