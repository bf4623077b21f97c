-- `file_sections::join_file` meets its contract: three runs of stores, each where the one before it ended.
-- Assumes nothing.
use mathlib.Core.Path.{ap, ◌∙◌}
use mathlib.Core.List.{◌++◌}
use Prim.Native.Nat.{◌*◌}
use native.Mathlib.Omega.{arith}
use lib.IntN.{ℤ}
use lib.ListN.{length, drop}
use lib.Seq.{sets}
use Rattle.lang.specs.Records.{count}
use Rattle.words.proofs.Bits.{number_word}
use Rattle.files.specs.Lengths.{command_start, recipe_start}
use Rattle.files.specs.Sections.{section_bytes, kern_byte, command_byte}
use Rattle.file_sections.proofs.Lending.{runs_file}
use borrow.Author.Rules.{rules}
use Rattle.file_sections.proofs.join_file.Statement.{statement}
use Rattle.file_sections.proofs.join_file.Tie as tie

write-front-requires : tie.Need-write_front-requires
write-front-requires c κs = c.requires

write-middle-requires : tie.Need-write_middle-requires
write-middle-requires c κs =
    (c.requires.0, omega (arith, c.write_front.auto.out, c.requires.1.1))

write-back-requires : tie.Need-write_back-requires
write-back-requires c κs =
    (c.requires.0, omega (arith, c.write_middle.auto.out, c.write_front.auto.out, c.requires.1.1))

same_length : tie.Need-shape_of-out
same_length c = search rules

returns : tie.Need-returns
returns c =
    let old = c.args.old.now in
    let l = c.args.l in
    let p = c.args.program.now in
    let k = c.args.kerns.now in
    runs_file c.args.out.now old l p k c.args.table.now c.args.boundary c.requires.0 c.write_front.ensures c.write_middle.ensures
    (c.write_back.ensures
    ∙ ap (λ (b : ℤ). sets c.write_middle.new.out (4 * command_start l)
    (section_bytes (count p) (command_byte p b) ++ section_bytes (length k) (kern_byte k) ++ drop (4 * recipe_start l) old))
    (number_word c.args.boundary c.ranges.boundary))

pub join_file_spec : {M : Type 1} → statement M
join_file_spec =
    tie.close
    (tie.spec
    write-front-requires
    write-middle-requires
    write-back-requires
    same_length
    returns)
