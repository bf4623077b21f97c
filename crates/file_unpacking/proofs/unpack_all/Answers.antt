use Rattle.file_unpacking.proofs.Unpacking.{leading_few, unpacked_none}
use Rattle.file_unpacking.proofs.unpack_all.Goals as goal

pub loop-i-init : goal.loop-i-init
loop-i-init c = let a = c.args in unpacked_none a.instructions.now a.packed.now a.entries.now a.lost.now

pub unpack_one-n-requires : goal.unpack_one-n-requires
unpack_one-n-requires c =
    let a = c.args in
    (c.requires, (c.loop-i-test.true, leading_few a.instructions.now a.packed.now c.loop-i.i c.loop-i.n c.loop-i.invariant.leading))

pub loop-i-preserved : goal.loop-i-preserved
loop-i-preserved c = let a = c.args in c.unpack_one-n.ensures a.entries.now a.lost.now c.loop-i.invariant
