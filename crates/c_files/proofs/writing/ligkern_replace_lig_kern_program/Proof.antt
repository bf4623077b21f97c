-- `c_files::writing::ligkern_replace_lig_kern_program` meets its contract. Assumes nothing.
use lib.IntN.{ℤ}
use Rattle.words.specs.Words.{word_of, number_of}
use Rattle.words.proofs.Bits.{number_word}
use Rattle.files.specs.Writing.{writable}
use Rattle.c_values.proofs.Telling.{lent_two}
use Rattle.c_files.specs.Files.{HostReplaces}
use Rattle.c_files.proofs.Replacing.{host_replaces}
use borrow.Author.Rules.{rules}
use Rattle.c_files.proofs.writing.ligkern_replace_lig_kern_program.Statement.{statement}
use Rattle.c_files.proofs.writing.ligkern_replace_lig_kern_program.Tie as tie

replace-lig-kern-program-requires : tie.Need-replace_lig_kern_program-written-requires
replace-lig-kern-program-requires c κs = search rules

tell-requires : tie.Need-tell-told-requires
tell-requires c κs = search rules

room-refusal-requires : tie.Need-room_refusal-requires
room-refusal-requires c κs = search rules

lower-of-requires : tie.Need-lower_of-number-requires
lower-of-requires c κs = search rules

keep-list-requires : tie.Need-keep_list-requires
keep-list-requires c κs = search rules

same_length : tie.Need-shape_of-out
same_length c = search rules

same-length-2 : tie.Need-shape_of-values
same-length-2 c = search rules

returns : tie.Need-returns
returns c =
    let a = c.args in
    lent_two
    (λ (x y : ℤ). HostReplaces a.old.now (writable a.instructions.now a.kerns.now a.entries.now x y) a.out.now a.values.now
    c.lower_of-number.result c.keep_list.new.out c.tell-told.new.values)
    (number_word a.boundary c.ranges.boundary) (number_word a.left_entry c.ranges.left_entry)
    (host_replaces a.old.now
    (writable a.instructions.now a.kerns.now a.entries.now (number_of (word_of a.boundary)) (number_of (word_of a.left_entry)))
    a.out.now a.values.now c.replace_lig_kern_program-written.ensures c.tell-told.ensures c.replace_lig_kern_program-written.auto.out
    c.tell-told.auto.values c.room_refusal.ensures c.lower_of-number.ensures c.keep_list.ensures)

pub ligkern_replace_lig_kern_program_spec : {M : Type 1} → statement M
ligkern_replace_lig_kern_program_spec =
    tie.close
    (tie.spec
    replace-lig-kern-program-requires
    tell-requires
    room-refusal-requires
    lower-of-requires
    keep-list-requires
    same_length
    same-length-2
    returns)
