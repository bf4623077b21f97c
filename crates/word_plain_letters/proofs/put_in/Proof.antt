-- `word_plain_letters::put_in` meets its contract.
-- Assumes nothing.
use Rattle.std.proofs.Common.{set, ℤ, ap, rules}
use Rattle.lang.proofs.Records.{number_stored}
use Rattle.word_plain_letters.proofs.put_in.Statement.{statement}
use Rattle.word_plain_letters.proofs.put_in.Tie as tie

number-of-requires : tie.Need-number_of-x-requires
number-of-requires c κs = search rules

mul-x : tie.Need-offset_bounds-s-i
mul-x c = search rules

slice-set-from-x : tie.Need-bounds-s-i
slice-set-from-x c = search rules

same_length : tie.Need-shape_of-s
same_length c = search rules

returns : tie.Need-returns
returns c =
    let a = c.args in
    ap (λ (v : ℤ). set a.s.now a.i v) (number_stored a.w c.number_of-x.result c.number_of-x.ensures c.ranges.w.fits)

pub put_in_spec : {M : Type 1} → statement M
put_in_spec =
    tie.close
    (tie.spec
    number-of-requires
    mul-x
    slice-set-from-x
    same_length
    returns)
