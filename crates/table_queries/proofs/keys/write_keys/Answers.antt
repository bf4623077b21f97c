use Rattle.std.proofs.Common.{◌*◌, ◌/◌, ◌%◌, arith}
use Rattle.words.proofs.Bits.{number_is}
use Rattle.words.proofs.Lists.{filling_none}
use Rattle.lang.proofs.Filled.{filling_put, filling_to}
use Rattle.captions.specs.Tables.{pair_count, number}
use Rattle.table_queries.proofs.keys.write_keys.Goals as goal

pub loop-j-init : goal.loop-j-init
loop-j-init c = filling_none (λ j. number c.args.pairs.now (j / 2) (j % 2)) c.args.out.now

pub loop-j-preserved : goal.loop-j-preserved
loop-j-preserved c = filling_put c.loop-j.invariant (omega arith) c.put_word.ensures (number_is c.number_at.ensures)

pub returns : goal.returns
returns c = filling_to (2 * pair_count c.args.pairs.now) c.loop-j.invariant (omega arith)
