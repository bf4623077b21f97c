-- `blame_given::answer_given` meets its contract: the number that holds before any removal, or the search over what compile wrote (proofs/Giving).
-- Assumes nothing.
use mathlib.Core.Path.{◌≡◌, sym, subst}
use Prim.Native.Nat.{ℕ, ◌*◌, ◌≤◌}
use native.Mathlib.Omega.{arith}
use lib.ListN.{length, take}
use lib.Seq.{length-take-le}
use borrow.Author.Rules.{rules}
use Rattle.fonts.specs.declared.Compiled.{Compiled}
use Rattle.fonts.specs.Fonts.{Font}
use Rattle.fonts.specs.Compiled.{room_of}
use Rattle.removals.specs.Removed.{font_at, size_number}
use Rattle.blame_removal.specs.Edited.{TablesFit}
use Rattle.blame_removal.proofs.Answering.{tables_fit}
use Rattle.blame_given.proofs.Giving.{given_refused, edits_fit, not_refused, given_searched}
use Rattle.blame_given.proofs.answer_given.Statement.{statement}
use Rattle.blame_given.proofs.answer_given.Tie as tie

-- where the font was compiled, where the number is known, and the start
abbrev compiled-at : tie.After-blame_number-number → tie.After-compile_loopless-compiled
compiled-at n = n.before.before.before.before.before

abbrev start : tie.After-compile_loopless-compiled → tie.Start
start k = k.before.before.before.before.before.before

abbrev numbered : tie.In-Tables → tie.After-blame_number-number
numbered v = v.before.before

abbrev font : tie.Start → Font
font s = font_at s.args.instructions.now s.args.kerns.now s.args.entries.now s.args.numbers

-- the counts that compile answered are within the table
fit : (v : tie.In-Tables) → let o = (compiled-at (numbered v)).compile_loopless-compiled.new in
    (6 * v.in-Tables.p ≤ length o.pairs) × (2 * v.in-Tables.o ≤ length o.ops)
fit v =
    let k = compiled-at (numbered v) in
    let s = start k in
    let a = s.args in
    subst (λ (x : Compiled). TablesFit x k.compile_loopless-compiled.new.pairs k.compile_loopless-compiled.new.ops) v.in-Tables.is
    (tables_fit (font s) (size_number a.numbers) a.pairs.now a.ops.now k.compile_loopless-compiled.new.pairs k.compile_loopless-compiled.new.ops a.work.now k.compile_loopless-compiled.new.work k.compile_loopless-compiled.result
    k.compile_loopless-compiled.ensures)

-- the edited instructions have room
room : (v : tie.In-Tables) → let a = (start (compiled-at (numbered v))).args in length a.instructions.now ≤ length a.edited.now
room v =
    let n = numbered v in
    let k = compiled-at n in
    let s = start k in
    let a = s.args in
    edits_fit (font s) (size_number a.numbers) a.word.now a.options a.pairs.now a.ops.now k.compile_loopless-compiled.new.pairs k.compile_loopless-compiled.new.ops a.work.now k.compile_loopless-compiled.new.work
    (length a.edited.now) k.compile_loopless-compiled.result k.compile_loopless-compiled.ensures n.blame_number-number.result n.blame_number-number.ensures
    v.if-number-ne0.false

compile-loopless-requires : tie.Need-compile_loopless-compiled-requires
compile-loopless-requires c κs = search rules

blame-number-requires : tie.Need-blame_number-number-requires
blame-number-requires c κs = search rules

same_length : tie.Need-shape_of-pairs-then-number-ne0
same_length c = search rules

same-length-2 : tie.Need-shape_of-ops-then-number-ne0
same-length-2 c = search rules

same-length-3 : tie.Need-shape_of-work-then-number-ne0
same-length-3 c = search rules

returns : tie.Need-returns-then-number-ne0
returns c =
    let k = compiled-at (c.before) in
    let s = start k in
    let a = s.args in
    given_refused (font s) (size_number a.numbers) a.word.now a.options a.pairs.now a.ops.now k.compile_loopless-compiled.new.pairs k.compile_loopless-compiled.new.ops a.work.now k.compile_loopless-compiled.new.work
    (length a.edited.now) k.compile_loopless-compiled.result k.compile_loopless-compiled.ensures c.blame_number-number.result c.blame_number-number.ensures
    (room_of (length a.pairs_without.now) (length a.ops_without.now) 0 (length a.work.now)) c.if-number-ne0.true

enum-known-compiled : tie.Need-enum_known-compiled
enum-known-compiled c = search rules

enum_told : tie.Need-enum_told-1
enum_told c = search rules

same-length-4 : tie.Need-shape_of-pairs-in_default
same-length-4 c = search rules

same-length-5 : tie.Need-shape_of-ops-in_default
same-length-5 c = search rules

same-length-6 : tie.Need-shape_of-work-in_default
same-length-6 c = search rules

returns-2 : tie.Need-returns-in_default
returns-2 c =
    let k = compiled-at (c.before.before) in
    let s = start k in
    let a = s.args in
    absurd
    (not_refused (font s) (size_number a.numbers) a.word.now a.options a.pairs.now a.ops.now k.compile_loopless-compiled.new.pairs k.compile_loopless-compiled.new.ops a.work.now k.compile_loopless-compiled.new.work
    (length a.edited.now) k.compile_loopless-compiled.result k.compile_loopless-compiled.ensures c.blame_number-number.result c.blame_number-number.ensures
    _ c.in_default.is c.if-number-ne0.false)

mul-search : tie.Need-overflow_mul-p
mul-search c = let b = (start (compiled-at (numbered c))).well_formed in omega (
  arith,
  (fit c).0,
  (compiled-at (numbered c)).compile_loopless-compiled.auto.pairs,
)

slice-reshare-prefix-search : tie.Need-slice_bounds-search-end
slice-reshare-prefix-search c = (fit c).0

slice-aggregate-search : tie.Need-slice_bounds-search-end-2
slice-aggregate-search c =
    sym (length-take-le (6 * c.in-Tables.p) (compiled-at (numbered c)).compile_loopless-compiled.new.pairs (fit c).0)

mul-search-2 : tie.Need-overflow_mul-o
mul-search-2 c =
    let b = (start (compiled-at (numbered c))).well_formed in omega (arith, (fit c).1, (compiled-at (numbered c)).compile_loopless-compiled.auto.ops)

slice-reshare-prefix-search-2 : tie.Need-slice_bounds-search-end-3
slice-reshare-prefix-search-2 c = (fit c).1

slice-aggregate-search-2 : tie.Need-slice_bounds-search-end-4
slice-aggregate-search-2 c =
    sym (length-take-le (2 * c.in-Tables.o) (compiled-at (numbered c)).compile_loopless-compiled.new.ops (fit c).1)

slice-relend-prefix-search : tie.Need-slice_bounds-search-end-5
slice-relend-prefix-search c = room c.before.before

slice-aggregate-search-3 : tie.Need-slice_bounds-search-end-6
slice-aggregate-search-3 c =
    let a = (start (compiled-at (numbered (c.before.before.before)))).args in
    sym (length-take-le (length a.instructions.now) a.edited.now (room (c.before.before.before)))

search-requires : tie.Need-search-requires
search-requires c κs = search rules

same-length-7 : tie.Need-shape_of-pairs
same-length-7 c = search rules

same-length-8 : tie.Need-shape_of-ops
same-length-8 c = search rules

same-length-9 : tie.Need-shape_of-pairs_without
same-length-9 c = search rules

same-length-10 : tie.Need-shape_of-ops_without
same-length-10 c = search rules

same-length-11 : tie.Need-shape_of-edited
same-length-11 c = search rules

same-length-12 : tie.Need-shape_of-work
same-length-12 c = search rules

returns-3 : tie.Need-returns
returns-3 c =
    let n = numbered (c.before.before.before.before.before.before.before.before.before.before) in
    let k = compiled-at n in
    let s = start k in
    let a = s.args in
    given_searched (font s) (size_number a.numbers) a.word.now a.options a.pairs.now a.ops.now k.compile_loopless-compiled.new.pairs k.compile_loopless-compiled.new.ops a.work.now k.compile_loopless-compiled.new.work
    (length a.edited.now) k.compile_loopless-compiled.result k.compile_loopless-compiled.ensures n.blame_number-number.result n.blame_number-number.ensures
    c.in-Tables.p c.in-Tables.o c.in-Tables.field-2 c.in-Tables.is c.if-number-ne0.false a.pairs_without.now a.ops_without.now
    (take (length a.instructions.now) a.edited.now) c.search.result
    (length-take-le (length a.instructions.now) a.edited.now (room (c.before.before.before.before.before.before.before.before.before.before))) c.search.ensures

pub answer_given_spec : {M : Type 1} → statement M
answer_given_spec =
    tie.close
    (tie.spec
    compile-loopless-requires
    blame-number-requires
    same_length
    same-length-2
    same-length-3
    returns
    enum-known-compiled
    enum_told
    same-length-4
    same-length-5
    same-length-6
    returns-2
    mul-search
    slice-reshare-prefix-search
    slice-aggregate-search
    mul-search-2
    slice-reshare-prefix-search-2
    slice-aggregate-search-2
    slice-relend-prefix-search
    slice-aggregate-search-3
    search-requires
    same-length-7
    same-length-8
    same-length-9
    same-length-10
    same-length-11
    same-length-12
    returns-3)
