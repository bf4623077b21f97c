-- `c_packing::entries::ligkern_pack_entrypoints` meets its contract. Assumes nothing.
use lib.IntN.{ℤ, pos}
use lib.ListN.{length}
use Rattle.words.specs.Words.{word_of, number_of}
use Rattle.words.proofs.Bits.{number_word}
use Rattle.pack.specs.Packing.{packable, packing_refusal, packed_sizes, packed_instructions, packed_entries}
use Rattle.c_values.specs.Telling.{GivesTwo}
use Rattle.c_packing.specs.Changes.{pack_reply}
use Rattle.c_values.proofs.Telling.{gives_two, lent_two}
use borrow.Author.Rules.{rules}
use Rattle.c_packing.proofs.entries.ligkern_pack_entrypoints.Statement.{statement}
use Rattle.c_packing.proofs.entries.ligkern_pack_entrypoints.Tie as tie

pack-entrypoints-requires : tie.Need-pack_entrypoints-packed-requires
pack-entrypoints-requires c κs = search rules

tell-sizes-requires : tie.Need-tell_sizes-number-requires
tell-sizes-requires c κs = search rules

keep-list-requires : tie.Need-keep_list-requires
keep-list-requires c κs = search rules

keep-list-requires-2 : tie.Need-keep_list-requires-2
keep-list-requires-2 c κs = search rules

same_length : tie.Need-shape_of-out
same_length c = search rules

same-length-2 : tie.Need-shape_of-entries_out
same-length-2 c = search rules

same-length-3 : tie.Need-shape_of-values
same-length-3 c = search rules

returns : tie.Need-returns
returns c =
    let a = c.args in
    let g = packable a.instructions.now a.entries.now (number_of (word_of a.boundary)) (number_of (word_of a.left_entry)) in
    let out = a.out.now in
    let more = a.entries_out.now in
    lent_two
    (λ (x y : ℤ). GivesTwo (pos 0) (pack_reply (packable a.instructions.now a.entries.now x y) (length out) (length more))
    (packed_instructions (packable a.instructions.now a.entries.now x y)) (packed_entries (packable a.instructions.now a.entries.now x y))
    out more a.values.now c.tell_sizes-number.result c.keep_list.new.out c.keep_list-2.new.out c.tell_sizes-number.new.values)
    (number_word a.boundary c.ranges.boundary) (number_word a.left_entry c.ranges.left_entry)
    (gives_two (pos 0) (packing_refusal g (length out) (length more)) (packed_sizes g) (packed_instructions g) (packed_entries g) out more a.values.now
    c.pack_entrypoints-packed.ensures.answer c.tell_sizes-number.ensures c.pack_entrypoints-packed.ensures.instructions c.pack_entrypoints-packed.ensures.entries
    c.pack_entrypoints-packed.auto.out c.pack_entrypoints-packed.auto.entries_out c.keep_list.ensures c.keep_list-2.ensures)

pub ligkern_pack_entrypoints_spec : {M : Type 1} → statement M
ligkern_pack_entrypoints_spec =
    tie.close
    (tie.spec
    pack-entrypoints-requires
    tell-sizes-requires
    keep-list-requires
    keep-list-requires-2
    same_length
    same-length-2
    same-length-3
    returns)
