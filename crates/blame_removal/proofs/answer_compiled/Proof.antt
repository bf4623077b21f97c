-- `blame_removal::answer_compiled` meets its contract: compile's number, or the items over what it wrote.
-- Assumes nothing.
use mathlib.Core.Path.{◌≡◌, sym, ap, subst, ◌∙◌}
use Prim.Native.Nat.{ℕ, ◌*◌, ◌≤◌}
use native.Mathlib.Omega.{arith}
use lib.IntN.{ℤ}
use lib.ListN.{length, take}
use lib.Seq.{length-take-le}
use borrow.Author.Rules.{rules}
use Rattle.words.proofs.Bits.{number_word}
use Rattle.fonts.specs.declared.Compiled.{Compiled}
use Rattle.captions.specs.Begin.{fresh_state}
use Rattle.removals.specs.Items.{run_items, same_items}
use Rattle.removals.specs.Search.{removal_answer}
use Rattle.blame_removal.specs.Edited.{TablesFit}
use Rattle.blame_removal.proofs.answer_compiled.Statement.{statement}
use Rattle.blame_removal.proofs.answer_compiled.Tie as tie

enum-known-compiled : tie.Need-enum_known-compiled
enum-known-compiled c = search rules

removal-answer-requires : tie.Need-removal_answer-requires
removal-answer-requires c κs = search rules

enum-known-compiled-2 : tie.Need-enum_known-compiled-in-Tables-1
enum-known-compiled-2 c = search rules

-- the counts that compile answered are within the second table
fit : (v : tie.In-Tables) → let a = v.args in
    (6 * v.in-Tables.p ≤ length a.pairs_without.now) × (2 * v.in-Tables.o ≤ length a.ops_without.now)
fit v =
    subst (λ (x : Compiled). TablesFit x v.args.pairs_without.now v.args.ops_without.now) v.in-Tables.is v.requires

mul-same-run : tie.Need-overflow_mul-p
mul-same-run c = let b = c.well_formed in omega (arith, (fit c).0)

slice-aggregate-same-run : tie.Need-slice_bounds-same_run-end
slice-aggregate-same-run c = sym (length-take-le (6 * c.in-Tables.p)
    c.args.pairs_without.now (fit c).0)

mul-same-run-2 : tie.Need-overflow_mul-o
mul-same-run-2 c = let b = c.well_formed in omega (arith, (fit c).1)

slice-aggregate-same-run-2 : tie.Need-slice_bounds-same_run-end-in-Tables
slice-aggregate-same-run-2 c =
    sym (length-take-le (2 * c.in-Tables.o) c.args.ops_without.now (fit c).1)

same-run-requires : tie.Need-same_run-same-requires
same-run-requires c κs = search rules

removal-answer-requires-2 : tie.Need-removal_answer-requires-in-Tables
removal-answer-requires-2 c κs = search rules

returns : tie.Need-returns-in-Refused
returns c = rw c.in-Refused.is c.removal_answer.ensures

returns-2 : tie.Need-returns-in-Tables
returns-2 c =
    let a = c.args in
    let w = a.word.now in
    let o = a.options in
    rw c.in-Tables.is
    (c.removal_answer-in-Tables.ensures
    ∙ ap (removal_answer a.i 0)
    (c.same_run-same.ensures
    ∙ ap (λ (z : ℤ). same_items (run_items a.pairs.now a.ops.now z w o (fresh_state w o))
    (run_items (take (6 * c.in-Tables.p) a.pairs_without.now) (take (2 * c.in-Tables.o) a.ops_without.now) z w o
    (fresh_state w o))) (number_word a.boundary c.ranges.boundary)))

pub answer_compiled_spec : {M : Type 1} → statement M
answer_compiled_spec =
    tie.close
    (tie.spec
    enum-known-compiled
    removal-answer-requires
    enum-known-compiled-2
    mul-same-run
    slice-aggregate-same-run
    mul-same-run-2
    slice-aggregate-same-run-2
    same-run-requires
    removal-answer-requires-2
    returns
    returns-2)
