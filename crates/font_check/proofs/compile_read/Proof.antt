-- `font_check::compile_read` meets its contract: what was refused, or the front of each list compiled.
-- Assumes nothing.
use mathlib.Core.Path.{sym}
use Prim.Native.Nat.{◌*◌}
use native.Mathlib.Omega.{arith}
use lib.Seq.{length-take-le}
use borrow.Author.Rules.{rules}
use Rattle.words.proofs.Bits.{number_word}
use Rattle.font_check.proofs.Stages.{font_fits, read_refused, read_compiled}
use Rattle.font_check.proofs.compile_read.Statement.{statement}
use Rattle.font_check.proofs.compile_read.Tie as tie

-- from where it returns: where the lists are zeroed, and where the font is compiled
abbrev zeroed : tie.After-slice_known-in-Refused-1 → tie.After-zero_tables
zeroed c = c.before.before.before.before.before

abbrev compiled : tie.After-slice_known-in-Font-1 → tie.After-compile
compiled c = c.before.before.before.before.before

enum-known-font : tie.Need-enum_known-font
enum-known-font c = search rules

zero-tables-requires : tie.Need-zero_tables-requires
zero-tables-requires c κs = search rules

enum-known-font-2 : tie.Need-enum_known-font-in-Font-1
enum-known-font-2 c = search rules

mul-compile : tie.Need-overflow_mul-n
mul-compile c = omega (arith, (font_fits c.in-Font.is c.requires).0)

slice-aggregate-compile : tie.Need-slice_bounds-compile-end
slice-aggregate-compile c =
    sym (length-take-le (4 * c.in-Font.n) c.args.instructions.now (font_fits c.in-Font.is c.requires).0)

slice-aggregate-compile-2 : tie.Need-slice_bounds-compile-end-in-Font
slice-aggregate-compile-2 c =
    sym (length-take-le c.in-Font.k c.args.kerns.now (font_fits c.in-Font.is c.requires).1)

mul-compile-2 : tie.Need-overflow_mul-e
mul-compile-2 c = omega (arith, (font_fits c.in-Font.is c.requires).2)

slice-aggregate-compile-3 : tie.Need-slice_bounds-compile-end-in-Font-2
slice-aggregate-compile-3 c =
    sym (length-take-le (2 * c.in-Font.e) c.args.entries.now (font_fits c.in-Font.is c.requires).2)

compile-requires : tie.Need-compile-requires
compile-requires c κs = search rules

same_length : tie.Need-shape_of-pairs-in-Refused
same_length c = (zeroed c).zero_tables.auto.pairs

same-length-2 : tie.Need-shape_of-ops-in-Refused
same-length-2 c = (zeroed c).zero_tables.auto.ops

same-length-3 : tie.Need-shape_of-loops-in-Refused
same-length-3 c = (zeroed c).zero_tables.auto.loops

same-length-4 : tie.Need-shape_of-work-in-Refused
same-length-4 c = (zeroed c).zero_tables.auto.work

returns : tie.Need-returns-in-Refused
returns c =
    let z = zeroed c in
    let a = z.args in
    read_refused a.instructions.now a.kerns.now a.entries.now a.pairs.now a.ops.now a.loops.now a.work.now z.zero_tables.new.pairs z.zero_tables.new.ops
    z.zero_tables.new.loops z.zero_tables.new.work z.in-Refused.is z.zero_tables.ensures

same-length-5 : tie.Need-shape_of-pairs-in-Font
same-length-5 c = (compiled c).compile.auto.pairs

same-length-6 : tie.Need-shape_of-ops-in-Font
same-length-6 c = (compiled c).compile.auto.ops

same-length-7 : tie.Need-shape_of-loops-in-Font
same-length-7 c = (compiled c).compile.auto.loops

same-length-8 : tie.Need-shape_of-work-in-Font
same-length-8 c = (compiled c).compile.auto.work

returns-2 : tie.Need-returns-in-Font
returns-2 c =
    let x = compiled c in
    let a = x.args in
    read_compiled a.instructions.now a.kerns.now a.entries.now a.pairs.now a.ops.now a.loops.now a.work.now x.compile.new.pairs x.compile.new.ops
    x.compile.new.loops x.compile.new.work x.compile.result x.in-Font.is
    (number_word x.in-Font.boundary (record { sfits = x.in-Font.known_told-in-Font-1-own.given.1.1.1.1.0.1 }))
    (number_word x.in-Font.left (record { sfits = x.in-Font.known_told-in-Font-1-own.given.1.1.1.1.1.0.1 }))
    (number_word x.in-Font.design (record { sfits = x.in-Font.known_told-in-Font-1-own.given.1.1.1.1.1.1.0.1 })) x.compile.ensures

pub compile_read_spec : {M : Type 1} → statement M
compile_read_spec =
    tie.close
    (tie.spec
    enum-known-font
    zero-tables-requires
    enum-known-font-2
    mul-compile
    slice-aggregate-compile
    slice-aggregate-compile-2
    mul-compile-2
    slice-aggregate-compile-3
    compile-requires
    same_length
    same-length-2
    same-length-3
    same-length-4
    returns
    same-length-5
    same-length-6
    same-length-7
    same-length-8
    returns-2)
