use Rattle.std.proofs.Common.{◌≡◌, length, arith}
use Rattle.words.proofs.Lists.{filling_none}
use Rattle.lang.proofs.Entered.{number_le}
use Rattle.lang.proofs.Filled.{filling_put}
use Rattle.pack.specs.Packing.{entry_number}
use Rattle.pack.proofs.Packing.{filling_appends}
use Rattle.pack.proofs.put_entries.Goals as goal

pub entry_number-number-requires : goal.entry_number-number-requires
entry_number-number-requires c = omega (arith, number_le 65535 c.args.entries.now c.requires.1.1.0 c.loop-j.j c.loop-j-test.true)

pub loop-j-init : goal.loop-j-init
loop-j-init c = filling_none (entry_number c.args.entries.now c.args.redirects c.args.offset c.args.labels.now) c.args.out.now

pub loop-j-preserved : goal.loop-j-preserved
loop-j-preserved c = filling_put c.loop-j.invariant (omega arith) c.put_word.ensures c.entry_number-number.ensures

pub returns : goal.returns
returns c =
    let a = c.args in
    let e : c.loop-j.j ≡ length a.entries.now = omega arith in
    filling_appends (entry_number a.entries.now a.redirects a.offset a.labels.now) (length a.entries.now) (rw e at c.loop-j.invariant)
