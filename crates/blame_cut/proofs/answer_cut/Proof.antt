-- `blame_cut::answer_cut` meets its contract: both tables are cut to the smaller of each kind.
-- Assumes nothing.
use mathlib.Core.Path.{◌≡◌, sym, ◌∙◌}
use Prim.Native.Nat.{ℕ, min}
use native.Mathlib.Omega.{arith}
use lib.ListN.{length, take}
use lib.Seq.{length-take-le}
use borrow.Author.Rules.{rules}
use Rattle.fonts.specs.Compiled.{room_of}
use Rattle.removals.specs.Removed.{font_at, size_number}
use Rattle.blame_given.specs.Given.{blamed_in}
use Rattle.blame_cut.proofs.answer_cut.Statement.{statement}
use Rattle.blame_cut.proofs.answer_cut.Tie as tie

smaller-requires : tie.Need-min-p-requires
smaller-requires c κs = search rules

smaller-requires-2 : tie.Need-min-o-requires
smaller-requires-2 c κs = search rules

slice-relend-prefix-answer-given : tie.Need-slice_bounds-answer_given-end
slice-relend-prefix-answer-given c = search rules

slice-aggregate-answer-given : tie.Need-slice_bounds-answer_given-end-2
slice-aggregate-answer-given c =
    sym (length-take-le c.min-p.result c.args.pairs.now (omega (arith, c.min-p.ensures)))

slice-relend-prefix-answer-given-2 : tie.Need-slice_bounds-answer_given-end-3
slice-relend-prefix-answer-given-2 c = search rules

slice-aggregate-answer-given-2 : tie.Need-slice_bounds-answer_given-end-4
slice-aggregate-answer-given-2 c =
    sym (length-take-le c.min-o.result c.args.ops.now (omega (arith, c.min-o.ensures)))

slice-relend-prefix-answer-given-3 : tie.Need-slice_bounds-answer_given-end-5
slice-relend-prefix-answer-given-3 c = search rules

slice-aggregate-answer-given-3 : tie.Need-slice_bounds-answer_given-end-6
slice-aggregate-answer-given-3 c =
    sym (length-take-le c.min-p.result c.args.pairs_without.now (omega (arith, c.min-p.ensures)))

slice-relend-prefix-answer-given-4 : tie.Need-slice_bounds-answer_given-end-7
slice-relend-prefix-answer-given-4 c = search rules

slice-aggregate-answer-given-4 : tie.Need-slice_bounds-answer_given-end-8
slice-aggregate-answer-given-4 c =
    sym (length-take-le c.min-o.result c.args.ops_without.now (omega (arith, c.min-o.ensures)))

answer-given-requires : tie.Need-answer_given-requires
answer-given-requires c κs = search rules

same_length : tie.Need-shape_of-pairs
same_length c = search rules

same-length-2 : tie.Need-shape_of-ops
same-length-2 c = search rules

same-length-3 : tie.Need-shape_of-pairs_without
same-length-3 c = search rules

same-length-4 : tie.Need-shape_of-ops_without
same-length-4 c = search rules

same-length-5 : tie.Need-shape_of-edited
same-length-5 c = search rules

same-length-6 : tie.Need-shape_of-work
same-length-6 c = search rules

returns : tie.Need-returns
returns c =
    let a = c.args in
    c.answer_given.ensures
    ∙ (λ j. blamed_in (font_at a.instructions.now a.kerns.now a.entries.now a.numbers)
    (room_of ((length-take-le c.min-p.result a.pairs.now (omega (arith, c.min-p.ensures)) ∙ c.min-p.ensures) j)
    ((length-take-le c.min-o.result a.ops.now (omega (arith, c.min-o.ensures)) ∙ c.min-o.ensures) j) 0 (length a.work.now))
    (room_of ((length-take-le c.min-p.result a.pairs_without.now (omega (arith, c.min-p.ensures)) ∙ c.min-p.ensures) j)
    ((length-take-le c.min-o.result a.ops_without.now (omega (arith, c.min-o.ensures)) ∙ c.min-o.ensures) j) 0 (length a.work.now))
    (size_number a.numbers) a.word.now a.options (length a.edited.now))

pub answer_cut_spec : {M : Type 1} → statement M
answer_cut_spec =
    tie.close
    (tie.spec
    smaller-requires
    smaller-requires-2
    slice-relend-prefix-answer-given
    slice-aggregate-answer-given
    slice-relend-prefix-answer-given-2
    slice-aggregate-answer-given-2
    slice-relend-prefix-answer-given-3
    slice-aggregate-answer-given-3
    slice-relend-prefix-answer-given-4
    slice-aggregate-answer-given-4
    answer-given-requires
    same_length
    same-length-2
    same-length-3
    same-length-4
    same-length-5
    same-length-6
    returns)
