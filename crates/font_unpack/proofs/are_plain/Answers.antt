use Rattle.std.proofs.Common.{ℕ, ℤ, List, Bool, ◌+◌, ◌-◌, sym, ap, ◌∙◌, not}
use Rattle.lang.specs.Records.{is_kind}
use Rattle.lang.proofs.Every.{every_none, every_more, every_fails}
use Rattle.font_unpack.proofs.are_plain.Goals as goal

-- instruction i from `start` on is no redirect
abbrev is_plain : List ℤ → ℕ → ℕ → Bool
is_plain s start i = not (is_kind 3 s (start + i))

pub loop-i-init : goal.loop-i-init
loop-i-init c = every_none (is_plain c.args.instructions.now c.args.start)

pub loop-i-preserved : goal.loop-i-preserved
loop-i-preserved c =
    let a = c.args in
    every_more c.loop-i.i (is_plain a.instructions.now a.start) c.loop-i.invariant (ap not (sym c.is_redirect.ensures ∙ c.if-is_redirect.false))

pub returns-then-is_redirect : goal.returns-then-is_redirect
returns-then-is_redirect c =
    let a = c.args in
    sym (every_fails (a.end - a.start) c.loop-i.i (is_plain a.instructions.now a.start) c.loop-i-test.true
    (ap not (sym c.is_redirect.ensures ∙ c.if-is_redirect.true)))
