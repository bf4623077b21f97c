use mathlib.Core.Path.{refl, sym, ◌∙◌}
use native.Mathlib.Omega.{arith}
use Rattle.pl_read.proofs.Running.{no_bytes, any_bytes, going_start, going_stuck, going_done, going_refused, going_on}
use Rattle.pl_steps.proofs.ReadLaws.{read_at, read_none}
use Rattle.pl_read.proofs.whole.read_all.Goals as goal

pub loop-p-init : goal.loop-p-init
loop-p-init c = going_start _ _ c.requires

pub returns-in_default-clause-follows : goal.returns-in_default-clause-follows
returns-in_default-clause-follows c = going_stuck c.loop-p.invariant (read_none c.property.ensures c.in_default.is)

pub returns-then-least_bytes-eq0-clause-follows : goal.returns-then-least_bytes-eq0-clause-follows
returns-then-least_bytes-eq0-clause-follows c =
    going_done c.loop-p.invariant (read_at c.property.ensures c.in-Read.is).0 (no_bytes c.in-Read.p (sym c.least_bytes.ensures.0 ∙ c.if-least_bytes-eq0.true))

pub returns-in_err-s-clause-follows : goal.returns-in_err-s-clause-follows
returns-in_err-s-clause-follows c =
    let v = c.loop-p.invariant in
    let k = read_at c.property.ensures c.in-Read.is in
    rw c.from_residual.ensures
    (going_refused v k.0 (any_bytes c.in-Read.p (λ e. c.if-least_bytes-eq0.false (c.least_bytes.ensures.0 ∙ e)))
    (c.applied.ensures (omega (arith, k.1 v.within, k.2, v.few)) _ _ v.stands) c.in_err-s.was)

pub loop-p-preserved : goal.loop-p-preserved
loop-p-preserved c =
    let v = c.loop-p.invariant in
    let k = read_at c.property.ensures c.in-Read.is in
    going_on v k.0 (any_bytes c.in-Read.p (λ e. c.if-least_bytes-eq0.false (c.least_bytes.ensures.0 ∙ e)))
    (c.applied.ensures (omega (arith, k.1 v.within, k.2, v.few)) _ _ v.stands) c.in_ok-s.was refl (k.1 v.within) k.2
