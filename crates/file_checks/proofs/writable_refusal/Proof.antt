-- `file_checks::writable_refusal` meets its contract: its tests are those of the definition, in the same order.
-- Assumes nothing.
use mathlib.Core.Path.{sym, ap, ◌∙◌}
use lib.Dec.{leb}
use lib.IntN.{ℤ}
use Rattle.lang.specs.Records.{count}
use Rattle.lang.proofs.Records.{tested, word_passed}
use Rattle.files.specs.declared.FileLengths.{FileLengths}
use Rattle.files.specs.Writing.{is_boundary_writable, is_left_writable, written_lengths}
use borrow.Author.Rules.{rules}
use Rattle.file_checks.proofs.writable_refusal.Statement.{statement}
use Rattle.file_checks.proofs.writable_refusal.Tie as tie

lengths-of-requires : tie.Need-lengths_of-lengths-requires
lengths-of-requires c κs = search rules

word-of-requires : tie.Need-word_of-requires
word-of-requires c κs = search rules

is-boundary-writable-requires : tie.Need-is_boundary_writable-requires
is-boundary-writable-requires c κs = search rules

returns : tie.Need-returns-then-not-is_boundary_writable
returns c =
    let n = count c.args.instructions.now in
    rw (
    tested (λ (z : ℤ). is_boundary_writable z n) (word_passed c.ranges.boundary c.word_of.ensures) c.is_boundary_writable.ensures
    (c.if-not-is_boundary_writable.true)
    )

are-writable-requires : tie.Need-are_writable-requires
are-writable-requires c κs = search rules

returns-2 : tie.Need-returns-then-not-are_writable
returns-2 c =
    let n = count c.args.instructions.now in
    rw (
      tested (λ (z : ℤ). is_boundary_writable z n) (word_passed c.ranges.boundary c.word_of.ensures) c.is_boundary_writable.ensures
          (c.if-not-is_boundary_writable.false),
      sym c.are_writable.ensures ∙ c.if-not-are_writable.true,
    )

are-entries-writable-requires : tie.Need-are_entries_writable-requires
are-entries-writable-requires c κs = c.lengths_of-lengths.ensures

returns-3 : tie.Need-returns-then-not-are_entries_writable
returns-3 c =
    let n = count c.args.instructions.now in
    rw (
      tested (λ (z : ℤ). is_boundary_writable z n) (word_passed c.ranges.boundary c.word_of.ensures) c.is_boundary_writable.ensures
          (c.if-not-is_boundary_writable.false),
      sym c.are_writable.ensures ∙ c.if-not-are_writable.false,
      sym c.are_entries_writable.ensures ∙ c.if-not-are_entries_writable.true,
    )

word-of-requires-2 : tie.Need-word_of-requires-2
word-of-requires-2 c κs = search rules

is-left-writable-requires : tie.Need-is_left_writable-requires
is-left-writable-requires c κs = search rules

returns-4 : tie.Need-returns-then-not-is_left_writable
returns-4 c =
    let n = count c.args.instructions.now in
    rw (
      tested (λ (z : ℤ). is_boundary_writable z n) (word_passed c.ranges.boundary c.word_of.ensures) c.is_boundary_writable.ensures
          (c.if-not-is_boundary_writable.false),
      sym c.are_writable.ensures ∙ c.if-not-are_writable.false,
      sym c.are_entries_writable.ensures ∙ c.if-not-are_entries_writable.false,
      tested (λ (z : ℤ). is_left_writable z n) (word_passed c.ranges.left_entry c.word_of-2.ensures) c.is_left_writable.ensures
          (c.if-not-is_left_writable.true),
    )

is-short-requires : tie.Need-is_short-requires
is-short-requires c κs = search rules

returns-5 : tie.Need-returns-then-is_short
returns-5 c =
    let n = count c.args.instructions.now in
    rw (
      tested (λ (z : ℤ). is_boundary_writable z n) (word_passed c.ranges.boundary c.word_of.ensures) c.is_boundary_writable.ensures
          (c.if-not-is_boundary_writable.false),
      sym c.are_writable.ensures ∙ c.if-not-are_writable.false,
      sym c.are_entries_writable.ensures ∙ c.if-not-are_entries_writable.false,
      tested (λ (z : ℤ). is_left_writable z n) (word_passed c.ranges.left_entry c.word_of-2.ensures) c.is_left_writable.ensures
          (c.if-not-is_left_writable.false),
      sym (c.is_short.ensures ∙ ap (λ (l : FileLengths). leb (written_lengths l c.args.words c.args.shared).lf 32767) c.lengths_of-lengths.ensures)
          ∙ c.if-is_short.true,
    )

returns-6 : tie.Need-returns-else-is_short
returns-6 c =
    let n = count c.args.instructions.now in
    rw (
      tested (λ (z : ℤ). is_boundary_writable z n) (word_passed c.ranges.boundary c.word_of.ensures) c.is_boundary_writable.ensures
          (c.if-not-is_boundary_writable.false),
      sym c.are_writable.ensures ∙ c.if-not-are_writable.false,
      sym c.are_entries_writable.ensures ∙ c.if-not-are_entries_writable.false,
      tested (λ (z : ℤ). is_left_writable z n) (word_passed c.ranges.left_entry c.word_of-2.ensures) c.is_left_writable.ensures
          (c.if-not-is_left_writable.false),
      sym (c.is_short.ensures ∙ ap (λ (l : FileLengths). leb (written_lengths l c.args.words c.args.shared).lf 32767) c.lengths_of-lengths.ensures)
          ∙ c.if-is_short.false,
    )

pub writable_refusal_spec : {M : Type 1} → statement M
writable_refusal_spec =
    tie.close
    (tie.spec
    lengths-of-requires
    word-of-requires
    is-boundary-writable-requires
    returns
    are-writable-requires
    returns-2
    are-entries-writable-requires
    returns-3
    word-of-requires-2
    is-left-writable-requires
    returns-4
    is-short-requires
    returns-5
    returns-6)
