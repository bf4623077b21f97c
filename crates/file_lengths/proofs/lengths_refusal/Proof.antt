-- `file_lengths::lengths_refusal` meets its contract: its tests are those of the definition, in the same order.
-- Assumes nothing.
use mathlib.Core.Path.{sym, ap, ◌∙◌}
use Prim.Native.Nat.{◌*◌}
use lib.ListN.{length}
use borrow.Author.Tests.{eq-eqb, ne_eqb}
use borrow.Author.Rules.{rules}
use Rattle.files.specs.declared.FileLengths.{FileLengths}
use Rattle.files.specs.Lengths.{lengths_of, lengths_fit}
use Rattle.file_lengths.proofs.lengths_refusal.Statement.{statement}
use Rattle.file_lengths.proofs.lengths_refusal.Tie as tie

lengths-small-requires : tie.Need-lengths_small-requires
lengths-small-requires c κs = search rules

returns : tie.Need-returns-then-not-lengths_small
returns c = rw (sym c.lengths_small.ensures ∙ c.if-not-lengths_small.true)

lengths-of-requires : tie.Need-lengths_of-l-requires
lengths-of-requires c κs = search rules

lengths-fit-requires : tie.Need-lengths_fit-requires
lengths-fit-requires c κs = search rules

returns-2 : tie.Need-returns-then-not-lengths_fit
returns-2 c =
    rw (
      sym c.lengths_small.ensures ∙ c.if-not-lengths_small.false,
      sym (c.lengths_fit.ensures ∙ ap lengths_fit c.lengths_of-l.ensures) ∙ c.if-not-lengths_fit.true,
    )

cast-if3 : tie.Need-overflow_cast-l
cast-if3 c = search rules

mul-if3 : tie.Need-overflow_mul-l
mul-if3 c = search rules

returns-3 : tie.Need-returns-then-file-l
returns-3 c =
    let file = c.args.file.now in
    let l = c.lengths_of-l.ensures in
    rw (
      sym c.lengths_small.ensures ∙ c.if-not-lengths_small.false,
      sym (c.lengths_fit.ensures ∙ ap lengths_fit l) ∙ c.if-not-lengths_fit.false,
      eq-eqb (length file) (4 * (lengths_of file).lf) (c.if-file-l.true ∙ ap (λ (x : FileLengths). 4 * x.lf) l),
    )

returns-4 : tie.Need-returns-else-file-l
returns-4 c =
    let file = c.args.file.now in
    let l = c.lengths_of-l.ensures in
    rw (
      sym c.lengths_small.ensures ∙ c.if-not-lengths_small.false,
      sym (c.lengths_fit.ensures ∙ ap lengths_fit l) ∙ c.if-not-lengths_fit.false,
      ne_eqb (length file) (4 * (lengths_of file).lf) (λ e. c.if-file-l.false (e ∙ sym (ap (λ (x : FileLengths). 4 * x.lf) l))),
    )

pub lengths_refusal_spec : {M : Type 1} → statement M
lengths_refusal_spec =
    tie.close
    (tie.spec
    lengths-small-requires
    returns
    lengths-of-requires
    lengths-fit-requires
    returns-2
    cast-if3
    mul-if3
    returns-3
    returns-4)
