-- `font_check::check_file` meets its contract: proofs/Checking.
-- Assumes nothing.
use mathlib.Core.Path.{ap, ◌∙◌}
use Prim.Native.Nat.{ℕ}
use lib.IntN.{pos}
use lib.ListN.{replicate}
use borrow.Author.Rules.{rules}
use Rattle.font_check.proofs.Checking.{counts_fit, check_taken, check_refused}
use Rattle.font_check.proofs.check_file.Statement.{statement}
use Rattle.font_check.proofs.check_file.Tie as tie

-- from where the font is compiled: where it is read, and from there the start
abbrev reading : tie.After-compile_read → tie.After-read_font-font
reading x = x.before.before.before.before.before.before.before.before.before

abbrev start : tie.After-read_font-font → tie.Start
start f = f.before.before.before.before.before.before.before

-- from where it returns: where the font is compiled, and where the lists that were read are zeroed
abbrev taken : tie.After-checked_font → tie.After-compile_read
taken c = c.before.before.before.before.before.before.before

abbrev entries-zeroed : tie.After-lost-in-Refused-1 → tie.After-zero_all-in-Refused-2
entries-zeroed c = c.before.before.before.before

abbrev kerns-zeroed : tie.After-lost-in-Refused-1 → tie.After-zero_all-in-Refused
kerns-zeroed c = (entries-zeroed c).before.before.before

abbrev program-zeroed : tie.After-lost-in-Refused-1 → tie.After-zero_all
program-zeroed c = (kerns-zeroed c).before.before.before

abbrev refused : tie.After-lost-in-Refused-1 → tie.After-compile_read
refused c = (program-zeroed c).before.before.before.before.before.before.before.before

read-font-requires : tie.Need-read_font-font-requires
read-font-requires c κs = search rules

compile-read-requires : tie.Need-compile_read-requires
compile-read-requires c κs =
    let a = (start (c.before.before.before.before.before.before.before.before)).args in
    counts_fit a.file.now a.instructions.now a.kerns.now a.entries.now a.lost.now c.read_font-font.new.instructions c.read_font-font.new.kerns c.read_font-font.new.entries c.read_font-font.new.lost
    c.read_font-font.result c.read_font-font.ensures

enum-known-p : tie.Need-enum_known-p
enum-known-p c = search rules

checked-font-requires : tie.Need-checked_font-requires
checked-font-requires c κs = search rules

enum-known-refusal : tie.Need-enum_known-refusal
enum-known-refusal c = search rules

zero-all-requires : tie.Need-zero_all-requires
zero-all-requires c κs = search rules

zero-all-requires-2 : tie.Need-zero_all-requires-in-Refused
zero-all-requires-2 c κs = search rules

zero-all-requires-3 : tie.Need-zero_all-requires-in-Refused-2
zero-all-requires-3 c κs = search rules

zero-all-requires-4 : tie.Need-zero_all-requires-in-Refused-3
zero-all-requires-4 c κs = search rules

same_length : tie.Need-shape_of-instructions-in-Tables
same_length c = (reading (taken c)).read_font-font.auto.instructions

same-length-2 : tie.Need-shape_of-kerns-in-Tables
same-length-2 c = (reading (taken c)).read_font-font.auto.kerns

same-length-3 : tie.Need-shape_of-entries-in-Tables
same-length-3 c = (reading (taken c)).read_font-font.auto.entries

same-length-4 : tie.Need-shape_of-lost-in-Tables
same-length-4 c = (reading (taken c)).read_font-font.auto.lost

same-length-5 : tie.Need-shape_of-pairs-in-Tables
same-length-5 c = (taken c).compile_read.auto.pairs

same-length-6 : tie.Need-shape_of-ops-in-Tables
same-length-6 c = (taken c).compile_read.auto.ops

same-length-7 : tie.Need-shape_of-loops-in-Tables
same-length-7 c = (taken c).compile_read.auto.loops

same-length-8 : tie.Need-shape_of-work-in-Tables
same-length-8 c = (taken c).compile_read.auto.work

returns : tie.Need-returns-in-Tables
returns c =
    let x = taken c in
    let f = reading x in
    let a = (start f).args in
    check_taken a.file.now a.instructions.now a.kerns.now a.entries.now a.lost.now f.read_font-font.new.instructions f.read_font-font.new.kerns f.read_font-font.new.entries f.read_font-font.new.lost
    a.pairs.now a.ops.now a.loops.now a.work.now x.compile_read.new.pairs x.compile_read.new.ops x.compile_read.new.loops x.compile_read.new.work f.read_font-font.result
    f.read_font-font.ensures x.compile_read.result x.compile_read.ensures c.in-Tables.p c.in-Tables.o c.in-Tables.l c.in-Tables.is
    c.checked_font.result c.checked_font.ensures

same-length-9 : tie.Need-shape_of-instructions-in-Refused
same-length-9 c = search rules

same-length-10 : tie.Need-shape_of-kerns-in-Refused
same-length-10 c = search rules

same-length-11 : tie.Need-shape_of-entries-in-Refused
same-length-11 c = search rules

same-length-12 : tie.Need-shape_of-lost-in-Refused
same-length-12 c = search rules

same-length-13 : tie.Need-shape_of-pairs-in-Refused
same-length-13 c = (refused c).compile_read.auto.pairs

same-length-14 : tie.Need-shape_of-ops-in-Refused
same-length-14 c = (refused c).compile_read.auto.ops

same-length-15 : tie.Need-shape_of-loops-in-Refused
same-length-15 c = (refused c).compile_read.auto.loops

same-length-16 : tie.Need-shape_of-work-in-Refused
same-length-16 c = (refused c).compile_read.auto.work

returns-2 : tie.Need-returns-in-Refused
returns-2 c =
    let ze = entries-zeroed c in
    let zk = kerns-zeroed c in
    let zi = program-zeroed c in
    let x = refused c in
    let f = reading x in
    let a = (start f).args in
    let k = f.read_font-font.auto in
    check_refused a.file.now a.instructions.now a.kerns.now a.entries.now a.lost.now f.read_font-font.new.instructions f.read_font-font.new.kerns f.read_font-font.new.entries f.read_font-font.new.lost
    a.pairs.now a.ops.now a.loops.now a.work.now x.compile_read.new.pairs x.compile_read.new.ops x.compile_read.new.loops x.compile_read.new.work
    zi.zero_all.new.s zk.zero_all-in-Refused.new.s ze.zero_all-in-Refused-2.new.s c.zero_all-in-Refused-3.new.s
    (zi.zero_all.ensures ∙ ap (λ (m : ℕ). replicate m (pos 0)) k.instructions)
    (zk.zero_all-in-Refused.ensures ∙ ap (λ (m : ℕ). replicate m (pos 0)) k.kerns)
    (ze.zero_all-in-Refused-2.ensures ∙ ap (λ (m : ℕ). replicate m (pos 0)) k.entries)
    (c.zero_all-in-Refused-3.ensures ∙ ap (λ (m : ℕ). replicate m (pos 0)) k.lost) f.read_font-font.result
    f.read_font-font.ensures x.compile_read.result x.compile_read.ensures zi.in-Refused.refusal zi.in-Refused.is

pub check_file_spec : {M : Type 1} → statement M
check_file_spec =
    tie.close
    (tie.spec
    read-font-requires
    compile-read-requires
    enum-known-p
    checked-font-requires
    enum-known-refusal
    zero-all-requires
    zero-all-requires-2
    zero-all-requires-3
    zero-all-requires-4
    same_length
    same-length-2
    same-length-3
    same-length-4
    same-length-5
    same-length-6
    same-length-7
    same-length-8
    returns
    same-length-9
    same-length-10
    same-length-11
    same-length-12
    same-length-13
    same-length-14
    same-length-15
    same-length-16
    returns-2)
