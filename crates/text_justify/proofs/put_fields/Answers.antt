use native.Mathlib.Omega.{arith}
use Rattle.text_justify.proofs.Fill.{fields_none, fields_more}
use Rattle.text_justify.proofs.put_fields.Goals as goal

pub loop-j-init : goal.loop-j-init
loop-j-init c =
    let a = c.args in
    record { place = omega arith; written = fields_none a.out.now a.at a.numbers.now a.from a.n c.put_blanks.ensures }

pub loop-j-preserved : goal.loop-j-preserved
loop-j-preserved c =
    let a = c.args in
    let i = c.loop-j.invariant in
    record {
      place = omega arith;
      written = fields_more a.out.now a.at a.numbers.now a.from a.n c.loop-j.j c.loop-j-test.true i.place i.written c.word_at.ensures c.put_number.ensures;
    }
