use Rattle.std.proofs.Common.{◌/◌, length, sym, ◌∙◌}
use Rattle.lang.proofs.Every.{every_none, every_more, every_fails}
use Rattle.files.specs.Writing.{is_entry_writable}
use Rattle.file_checks.proofs.are_entries_writable.Goals as goal

pub loop-i-init : goal.loop-i-init
loop-i-init c = let a = c.args in every_none (is_entry_writable a.old.now a.entries.now a.n)

pub loop-i-preserved : goal.loop-i-preserved
loop-i-preserved c =
    let a = c.args in
    every_more c.loop-i.i (is_entry_writable a.old.now a.entries.now a.n) c.loop-i.invariant
    (sym c.is_entry_writable.ensures ∙ c.if-not-is_entry_writable.false)

pub returns-then-not-is_entry_writable : goal.returns-then-not-is_entry_writable
returns-then-not-is_entry_writable c =
    let a = c.args in
    sym (every_fails (length a.entries.now / 2) c.loop-i.i (is_entry_writable a.old.now a.entries.now a.n) c.loop-i-test.true
    (sym c.is_entry_writable.ensures ∙ c.if-not-is_entry_writable.true))
