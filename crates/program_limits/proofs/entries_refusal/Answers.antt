use Rattle.std.proofs.Common.{◌≡◌, ◌%◌, ◌/◌, length, true, sym, ◌∙◌, arith}
use borrow.Author.Tests.{eq-eqb}
use Rattle.lang.specs.Checks.{entry_fits}
use Rattle.lang.proofs.Every.{every_none, every_more, every_fails}
use Rattle.lang.proofs.Checks.{marks_none, marks_more, marks_fit, entry_character}
use Rattle.program_limits.proofs.entries_refusal.Goals as goal

pub loop-i-init : goal.loop-i-init
loop-i-init c = record { fit = every_none (entry_fits c.args.limit c.args.entries.now); marked = marks_none c.args.entries.now }

pub loop-i-preserved : goal.loop-i-preserved
loop-i-preserved c =
    let a = c.args in
    let s = c.loop-i in
    let m = s.invariant.marked in
    let fits : entry_fits a.limit a.entries.now s.i ≡ true = sym (c.entry_fits.ensures ∙ marks_fit a.limit a.entries.now s.seen s.i m) ∙ c.if-not-entry_fits.false in
    record {
      fit = every_more s.i (entry_fits a.limit a.entries.now) s.invariant.fit fits;
      marked =
          marks_more a.entries.now s.seen s.i c.word_at-c.result m c.word_at-c.ensures.is
          (omega (arith, c.word_at-c.ensures.is, entry_character a.limit a.entries.now s.i fits));
    }

pub returns-then-not-entry_fits : goal.returns-then-not-entry_fits
returns-then-not-entry_fits c =
    let a = c.args in
    let s = c.loop-i in
    rw (
      eq-eqb (length a.entries.now % 2) 0 c.if-entries-ne0.false,
      every_fails (length a.entries.now / 2) s.i (entry_fits a.limit a.entries.now) c.loop-i-test.true
          (sym (c.entry_fits.ensures ∙ marks_fit a.limit a.entries.now s.seen s.i s.invariant.marked) ∙ c.if-not-entry_fits.true),
    )
