use Rattle.std.proofs.Common.{◌/◌, length, sym, ◌∙◌}
use Rattle.lang.proofs.Every.{every_none, every_more, every_fails}
use Rattle.entry_unpack.specs.Unpacking.{entry_safe}
use Rattle.entry_unpack.proofs.all_are_safe.Goals as goal

pub loop-i-init : goal.loop-i-init
loop-i-init c = every_none (entry_safe c.args.instructions.now c.args.entries.now)

pub loop-i-preserved : goal.loop-i-preserved
loop-i-preserved c =
    every_more c.loop-i.i (entry_safe c.args.instructions.now c.args.entries.now) c.loop-i.invariant
    (sym c.entry_is_safe.ensures ∙ c.if-not-entry_is_safe.false)

pub returns-then-not-entry_is_safe : goal.returns-then-not-entry_is_safe
returns-then-not-entry_is_safe c =
    let a = c.args in
    sym (every_fails (length a.entries.now / 2) c.loop-i.i (entry_safe a.instructions.now a.entries.now) c.loop-i-test.true
    (sym c.entry_is_safe.ensures ∙ c.if-not-entry_is_safe.true))
