-- `pl_read::whole::finish` meets its contract.
-- Assumes nothing.
use mathlib.Core.Path.{ap, ◌∙◌}
use lib.IntN.{negsuc}
use Prim.Native.Nat.{ℕ, ◌*◌}
use lib.ListN.{set}
use borrow.Author.Tests.{lt-leb, le-leb, eq-eqb, ne_eqb}
use Rattle.property_lists.specs.declared.Property.TheVariants as property
use Rattle.pl_read.proofs.Running.{finish_open, finish_short, finish_kept, finish_ended}
use borrow.Author.Rules.{rules}
use Rattle.pl_read.proofs.whole.finish.Statement.{statement}
use Rattle.pl_read.proofs.whole.finish.Tie as tie

returns : tie.Need-returns-then-s-eq2
returns c =
    let args = c.args in
    λ z l b st. finish_open st (eq-eqb args.s.stage 2 c.if-s-eq2.true)

returns-2 : tie.Need-returns-then-s
returns-2 c =
    let args = c.args in
    λ z l b st. finish_short st (ne_eqb args.s.stage 2 c.if-s-eq2.false) (lt-leb args.s.needed args.s.steps c.if-s.true)

minus-requires : tie.Need-saturating_sub-requires
minus-requires c κs = search rules

mul-put-word : tie.Need-overflow_mul-saturating_sub
mul-put-word c = search rules

put-word-requires : tie.Need-put_word-requires
put-word-requires c κs = search rules

same_length : tie.Need-shape_of-instructions-then-s-2
same_length c = search rules

returns-3 : tie.Need-returns-then-s-2
returns-3 c =
    let args = c.args in
    let e = c.put_word.ensures ∙ ap (λ (k : ℕ). set args.instructions.now (4 * k) (negsuc 0)) c.saturating_sub.ensures in
    λ z l b st. finish_ended st (ne_eqb args.s.stage 2 c.if-s-eq2.false) (le-leb args.s.needed args.s.steps c.if-s.false) c.if-s-2.true e

returns-4 : tie.Need-returns
returns-4 c =
    let args = c.args in
    λ z l b st. finish_kept st (ne_eqb args.s.stage 2 c.if-s-eq2.false) (le-leb args.s.needed args.s.steps c.if-s.false) c.if-s-2.false

pub finish_spec : {M : Type 1} → statement M
finish_spec =
    tie.close
    (tie.spec
    returns
    returns-2
    minus-requires
    mul-put-word
    put-word-requires
    same_length
    returns-3
    returns-4)
