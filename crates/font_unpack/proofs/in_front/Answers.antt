use Rattle.std.proofs.Common.{◌≡◌, sym, ◌∙◌, arith}
use Rattle.lang.specs.Records.{is_kind}
use Rattle.lang.proofs.Every.{every_none, every_more}
use Rattle.font_unpackings.proofs.Ends.{front_all, front_to}
use Rattle.font_unpack.proofs.in_front.Goals as goal

pub loop-i-init : goal.loop-i-init
loop-i-init c = every_none (is_kind 3 c.args.instructions.now)

pub loop-i-preserved : goal.loop-i-preserved
loop-i-preserved c =
    every_more c.loop-i.i (is_kind 3 c.args.instructions.now) c.loop-i.invariant (sym c.is_redirect.ensures ∙ c.if-not-is_redirect.false)

pub returns-then-not-is_redirect : goal.returns-then-not-is_redirect
returns-then-not-is_redirect c =
    let a = c.args in
    sym (front_to a.instructions.now a.end c.loop-i.i c.loop-i.invariant (sym c.is_redirect.ensures ∙ c.if-not-is_redirect.true)
    c.loop-i-test.true)

pub returns : goal.returns
returns c =
    let a = c.args in
    let e : c.loop-i.i ≡ a.end = omega arith in
    sym (front_all a.instructions.now a.end (rw e at c.loop-i.invariant))
