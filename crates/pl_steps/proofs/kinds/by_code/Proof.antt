-- `pl_steps::kinds::by_code` meets its contract.
-- Assumes nothing.
use mathlib.Core.Path.{sym}
use borrow.Author.Tests.{eq-eqb, ne_eqb}
use Rattle.property_lists.specs.declared.Property.TheVariants as property
use Rattle.property_lists.specs.declared.ValueRead.TheVariants as value
use Rattle.pl_steps.proofs.ReadLaws.{property_at_lem, property_from_lem}
use borrow.Author.Rules.{rules}
use native.Mathlib.Omega.{arith}
use Rattle.pl_steps.proofs.kinds.by_code.Statement.{statement}
use Rattle.pl_steps.proofs.kinds.by_code.Tie as tie

comment-requires : tie.Need-comment-requires
comment-requires c κs = search rules

returns : tie.Need-returns-then-code-eq0
returns c =
    let args = c.args in
    property_from_lem c.comment.result c.comment.ensures (sym (rw (eq-eqb args.code 0 c.if-code-eq0.true))) (λ h. (λ p. omega arith, h))

returns-2 : tie.Need-returns-then-code-eq10
returns-2 c =
    let args = c.args in
    let pre = c.requires in
    property_at_lem _ (rw (ne_eqb args.code 0 c.if-code-eq0.false, eq-eqb args.code 10 c.if-code-eq10.true)) (λ h. omega arith) (pre)

boundary-requires : tie.Need-boundary-requires
boundary-requires c κs = search rules

returns-3 : tie.Need-returns-then-code-eq11
returns-3 c =
    let args = c.args in
    property_from_lem c.boundary.result c.boundary.ensures (sym (rw (ne_eqb args.code 0 c.if-code-eq0.false, ne_eqb args.code 10 c.if-code-eq10.false, eq-eqb args.code 11 c.if-code-eq11.true))) (λ h. (λ p. omega arith, h))

label-requires : tie.Need-label-requires
label-requires c κs = search rules

returns-4 : tie.Need-returns-then-code-eq70
returns-4 c =
    let args = c.args in
    property_from_lem c.label.result c.label.ensures (sym (rw (ne_eqb args.code 0 c.if-code-eq0.false, ne_eqb args.code 10 c.if-code-eq10.false, ne_eqb args.code 11 c.if-code-eq11.false, eq-eqb args.code 70 c.if-code-eq70.true))) (λ h. (λ p. omega arith, h))

closed-by-requires : tie.Need-closed_by-requires
closed-by-requires c κs = search rules

returns-5 : tie.Need-returns-then-code-eq71
returns-5 c =
    let args = c.args in
    property_from_lem c.closed_by.result c.closed_by.ensures (sym (rw (ne_eqb args.code 0 c.if-code-eq0.false, ne_eqb args.code 10 c.if-code-eq10.false, ne_eqb args.code 11 c.if-code-eq11.false, ne_eqb args.code 70 c.if-code-eq70.false, eq-eqb args.code 71 c.if-code-eq71.true))) (λ h. (λ p. omega arith, h))

skip-requires : tie.Need-skip-requires
skip-requires c κs = search rules

returns-6 : tie.Need-returns-then-code-eq72
returns-6 c =
    let args = c.args in
    property_from_lem c.skip.result c.skip.ensures (sym (rw (ne_eqb args.code 0 c.if-code-eq0.false, ne_eqb args.code 10 c.if-code-eq10.false, ne_eqb args.code 11 c.if-code-eq11.false, ne_eqb args.code 70 c.if-code-eq70.false, ne_eqb args.code 71 c.if-code-eq71.false, eq-eqb args.code 72 c.if-code-eq72.true))) (λ h. (λ p. omega arith, h))

kern-from-requires : tie.Need-kern_from-requires
kern-from-requires c κs = search rules

returns-7 : tie.Need-returns-then-code-eq73
returns-7 c =
    let args = c.args in
    property_from_lem c.kern_from.result c.kern_from.ensures (sym (rw (ne_eqb args.code 0 c.if-code-eq0.false, ne_eqb args.code 10 c.if-code-eq10.false, ne_eqb args.code 11 c.if-code-eq11.false, ne_eqb args.code 70 c.if-code-eq70.false, ne_eqb args.code 71 c.if-code-eq71.false, ne_eqb args.code 72 c.if-code-eq72.false, eq-eqb args.code 73 c.if-code-eq73.true))) (λ h. (λ p. omega arith, h))

op-of-requires : tie.Need-op_of-requires
op-of-requires c κs = search rules

ligature-from-requires : tie.Need-ligature_from-requires
ligature-from-requires c κs = search rules

returns-8 : tie.Need-returns
returns-8 c =
    let args = c.args in
    property_from_lem c.ligature_from.result c.ligature_from.ensures (sym (rw (ne_eqb args.code 0 c.if-code-eq0.false, ne_eqb args.code 10 c.if-code-eq10.false, ne_eqb args.code 11 c.if-code-eq11.false, ne_eqb args.code 70 c.if-code-eq70.false, ne_eqb args.code 71 c.if-code-eq71.false, ne_eqb args.code 72 c.if-code-eq72.false, ne_eqb args.code 73 c.if-code-eq73.false, c.op_of.ensures))) (λ h. (λ p. omega arith, h))

pub by_code_spec : {M : Type 1} → statement M
by_code_spec =
    tie.close
    (tie.spec
    comment-requires
    returns
    returns-2
    boundary-requires
    returns-3
    label-requires
    returns-4
    closed-by-requires
    returns-5
    skip-requires
    returns-6
    kern-from-requires
    returns-7
    op-of-requires
    ligature-from-requires
    returns-8)
