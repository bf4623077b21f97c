use Rattle.std.proofs.Common.{ℕ, ℤ, List, Bool, ◌/◌, length, sym, ap, ◌∙◌, leb, ltb}
use Rattle.words.specs.Words.{word_of}
use Rattle.lang.specs.Every.{both}
use Rattle.lang.specs.Checks.{entry_at}
use Rattle.lang.proofs.Every.{every_none, every_more, every_fails}
use Rattle.font_unpack.proofs.are_own.Goals as goal

-- an entry leads there
abbrev leads_there : ℕ → ℕ → ℕ → Bool
leads_there start end e = both (leb start e) (ltb e end)

-- entry i does
abbrev is_own_at : List ℤ → ℕ → ℕ → ℕ → Bool
is_own_at es start end i = leads_there start end (word_of (entry_at es i))

pub loop-i-init : goal.loop-i-init
loop-i-init c = let a = c.args in every_none (is_own_at a.entries.now a.start a.end)

pub loop-i-preserved : goal.loop-i-preserved
loop-i-preserved c =
    let a = c.args in
    every_more c.loop-i.i (is_own_at a.entries.now a.start a.end) c.loop-i.invariant
    (sym (c.is_own.ensures ∙ ap (leads_there a.start a.end) c.word_at-entry.ensures.is) ∙ c.if-not-is_own.false)

pub returns-then-not-is_own : goal.returns-then-not-is_own
returns-then-not-is_own c =
    let a = c.args in
    sym (every_fails (length a.entries.now / 2) c.loop-i.i (is_own_at a.entries.now a.start a.end) c.loop-i-test.true
    (sym (c.is_own.ensures ∙ ap (leads_there a.start a.end) c.word_at-entry.ensures.is) ∙ c.if-not-is_own.true))
