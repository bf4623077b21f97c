-- `blame_compile::compile_loopless` meets its contract: that of compile, with its numbers as they are lent, and an empty loop list.
-- Assumes nothing.
use mathlib.Core.Path.{refl}
use mathlib.Core.List.{[]}
use borrow.Author.Rules.{rules}
use Rattle.words.proofs.Bits.{number_word}
use Rattle.blame_compile.proofs.Lent.{none_left, loopless}
use Rattle.blame_compile.proofs.compile_loopless.Statement.{statement}
use Rattle.blame_compile.proofs.compile_loopless.Tie as tie

array-borrow-prefix-none : tie.Need-slice_bounds-none-end
array-borrow-prefix-none c = search rules

slice-aggregate-compile : tie.Need-slice_bounds-compile-end
slice-aggregate-compile c = search rules

compile-requires : tie.Need-compile-requires
compile-requires c κs = search rules

same_length : tie.Need-shape_of-pairs
same_length c = search rules

same-length-2 : tie.Need-shape_of-ops
same-length-2 c = search rules

same-length-3 : tie.Need-shape_of-work
same-length-3 c = search rules

returns : tie.Need-returns
returns c =
    let a = c.args in
    let n = a.numbers in
    loopless a.instructions.now a.kerns.now a.entries.now a.pairs.now a.ops.now c.compile.new.pairs c.compile.new.ops a.work.now c.compile.new.work
    c.compile.result [] c.compile.new.loops (number_word n.boundary (record { sfits = c.struct_told-1.given.0.1 }))
    (number_word n.left_entry (record { sfits = c.struct_told-1.given.1.0.1 })) (number_word n.design_size (record { sfits = c.struct_told-1.given.1.1.0.1 }))
    (number_word n.size (record { sfits = c.struct_told-1.given.1.1.1.0.1 })) (number_word n.magnification (record { sfits = c.struct_told-1.given.1.1.1.1.0.1 }))
    refl (none_left c.compile.new.loops c.compile.auto.loops) c.compile.ensures

pub compile_loopless_spec : {M : Type 1} → statement M
compile_loopless_spec =
    tie.close
    (tie.spec
    array-borrow-prefix-none
    slice-aggregate-compile
    compile-requires
    same_length
    same-length-2
    same-length-3
    returns)
