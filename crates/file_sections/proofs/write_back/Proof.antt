-- `file_sections::write_back` meets its contract: each run of stores goes on where the one before it ended.
-- Assumes nothing.
use mathlib.Core.Path.{◌≡◌, ap, ◌∙◌}
use mathlib.Core.List.{List, ◌++◌}
use Prim.Native.Nat.{ℕ, ◌+◌, ◌-◌, ◌*◌, ◌/◌}
use native.Mathlib.Omega.{arith}
use lib.ListN.{length, drop, length-append, length-drop}
use lib.Seq.{sets, take_all}
use Rattle.lang.specs.Records.{count}
use Rattle.words.proofs.Bits.{number_word}
use Rattle.files.specs.Lengths.{command_start, recipe_start}
use Rattle.files.specs.Sections.{file_bytes, section_bytes, kern_byte, command_byte}
use Rattle.files.proofs.Parts.{length_section}
use Rattle.file_sections.proofs.Lending.{runs_join}
use borrow.Author.Rules.{rules}
use Rattle.file_sections.proofs.write_back.Statement.{statement}
use Rattle.file_sections.proofs.write_back.Tie as tie

command-start-requires : tie.Need-command_start-a-requires
command-start-requires c κs = search rules

mul-a : tie.Need-overflow_mul-a
mul-a c = search rules

mul-b : tie.Need-overflow_mul-b
mul-b c = search rules

add-b : tie.Need-overflow_add-b
add-b c = search rules

put-commands-requires : tie.Need-put_commands-requires
put-commands-requires c κs = search rules

put-kerns-requires : tie.Need-put_kerns-requires
put-kerns-requires c κs = search rules

recipe-start-requires : tie.Need-recipe_start-requires
recipe-start-requires c κs = search rules

mul-copy-part : tie.Need-overflow_mul-recipe_start
mul-copy-part c = search rules

mul-copy-part-2 : tie.Need-overflow_mul-kerns
mul-copy-part-2 c = search rules

add-copy-part : tie.Need-overflow_add-b-2
add-copy-part c = search rules

copy-part-requires : tie.Need-copy_part-requires
copy-part-requires c κs = search rules

same_length : tie.Need-shape_of-out
same_length c = search rules

returns : tie.Need-returns
returns c =
    let old = c.args.old.now in
    let l = c.args.l in
    let out = c.args.out.now in
    let program = c.args.program.now in
    let kerns = c.args.kerns.now in
    let W = section_bytes (count program) (command_byte program c.args.boundary) in
    let K = section_bytes (length kerns) (kern_byte kerns) in
    let w : length W ≡ 4 * count program = length_section (count program) (command_byte program c.args.boundary) in
    let k : length (W ++ K) ≡ 4 * count program + 4 * length kerns =
    length-append W K ∙ omega (arith, w, length_section (length kerns) (kern_byte kerns)) in
    let j1 = c.put_commands.ensures
    ∙ (λ i. sets out (4 * c.command_start-a.ensures i)
    (section_bytes (count program) (command_byte program (number_word c.args.boundary c.ranges.boundary i)))) in
    let j2 = runs_join out (4 * command_start l) (4 * command_start l + 4 * count program) W K j1
    (c.put_kerns.ensures ∙ (λ i. sets c.put_commands.new.out (4 * c.command_start-a.ensures i + 4 * count program) K)) (omega (arith, w)) in
    runs_join out (4 * command_start l) (4 * command_start l + 4 * count program + 4 * length kerns) (W ++ K) (drop (4 * recipe_start l) old) j2
    (c.copy_part.ensures
    ∙ (λ i. sets c.put_kerns.new.out (4 * c.command_start-a.ensures i + 4 * count program + 4 * length kerns)
    (file_bytes old (4 * c.recipe_start.ensures i) (length old)))
    ∙ ap (λ (xs : List ℕ). sets c.put_kerns.new.out (4 * command_start l + 4 * count program + 4 * length kerns) xs)
    (take_all (length old - 4 * recipe_start l) (drop (4 * recipe_start l) old) (omega (arith, length-drop (4 * recipe_start l) old))))
    (omega (arith, k))

pub write_back_spec : {M : Type 1} → statement M
write_back_spec =
    tie.close
    (tie.spec
    command-start-requires
    mul-a
    mul-b
    add-b
    put-commands-requires
    put-kerns-requires
    recipe-start-requires
    mul-copy-part
    mul-copy-part-2
    add-copy-part
    copy-part-requires
    same_length
    returns)
