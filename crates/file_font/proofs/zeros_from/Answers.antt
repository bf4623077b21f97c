use Rattle.std.proofs.Common.{ℕ, List, Bool, ◌+◌, ◌-◌, length, sym, ◌∙◌, eqb}
use borrow.Author.Tests.{eq-eqb, ne_eqb}
use Rattle.lang.proofs.Every.{every_none, every_more, every_fails}
use Rattle.files.specs.Lengths.{file_byte}
use Rattle.file_font.proofs.zeros_from.Goals as goal

-- byte i behind the first ones
abbrev is_zero : List ℕ → ℕ → ℕ → Bool
is_zero bytes from i = eqb (file_byte bytes (from + i)) 0

pub loop-i-init : goal.loop-i-init
loop-i-init c = every_none (is_zero c.args.bytes.now c.args.from)

pub loop-i-preserved : goal.loop-i-preserved
loop-i-preserved c =
    let a = c.args in
    every_more c.loop-i.i (is_zero a.bytes.now a.from) c.loop-i.invariant
    (eq-eqb (file_byte a.bytes.now (a.from + c.loop-i.i)) 0 (sym c.item_at.ensures ∙ c.if-item_at-ne0.false))

pub returns-then-item_at-ne0 : goal.returns-then-item_at-ne0
returns-then-item_at-ne0 c =
    let a = c.args in
    sym (every_fails (length a.bytes.now - a.from) c.loop-i.i (is_zero a.bytes.now a.from) c.loop-i-test.true
    (ne_eqb (file_byte a.bytes.now (a.from + c.loop-i.i)) 0 (λ e. c.if-item_at-ne0.true (c.item_at.ensures ∙ e))))
