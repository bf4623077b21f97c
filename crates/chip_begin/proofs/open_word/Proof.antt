-- `chip_begin::open_word` meets its contract: by whether it is the turn of begin, and by the caller.
-- Assumes nothing.
use mathlib.Core.Path.{◌≡◌, sym, ◌∙◌}
use mathlib.Core.Bool.{true}
use Prim.Native.Nat.{ℕ}
use native.Mathlib.Omega.{arith}
use borrow.Author.Tests.{not-true, not-false, lt-leb, le-leb}
use Rattle.captions.specs.declared.State.{State}
use Rattle.chips.specs.declared.Chip.{Chip}
use Rattle.chips.specs.declared.Commanded.{Commanded}
use Rattle.chips.specs.Commands.{may_begin, caller_refusal, in_turn, chip_begun}
use Rattle.chip_begin.proofs.Laws.{refused_by, taken_by, out_of_turn}
use borrow.Author.Rules.{rules}
use Rattle.chip_begin.proofs.open_word.Statement.{statement}
use Rattle.chip_begin.proofs.open_word.Tie as tie

-- the chip that begin leaves, with any state
abbrev begun_from : ℕ → Chip → State → Commanded
begun_from caller chip s =
    record {
      number = 0;
      chip = record {
        opened = true;
        length = 0;
        letters = chip.letters;
        counts = chip.counts;
        caller = caller;
        item = chip.item;
        state = s;
      };
    }

may-begin-requires : tie.Need-may_begin-requires
may-begin-requires c κs = search rules

returns : tie.Need-returns-then-not-may_begin
returns c =
    let a = c.args in
    out_of_turn (caller_refusal a.caller) (chip_begun a.caller a.chip) a.chip (sym c.may_begin.ensures ∙ c.if-not-may_begin.true)

returns-2 : tie.Need-returns-then-caller-gt7
returns-2 c =
    let a = c.args in
    let e : 26 ≡ in_turn (may_begin a.caller a.chip) (caller_refusal a.caller) =
    rw (sym c.may_begin.ensures ∙ c.if-not-may_begin.false, lt-leb a.caller 7 c.if-caller-gt7.true) in
    refused_by (chip_begun a.caller a.chip) a.chip e (λ z. omega (arith, z))

returns-3 : tie.Need-returns
returns-3 c =
    let m = c.before.before in
    let a = c.args in
    (λ j. begun_from a.caller a.chip (c.requires j))
    ∙ taken_by (chip_begun a.caller a.chip) a.chip {m = in_turn (may_begin a.caller a.chip) (caller_refusal a.caller)}
    (rw (sym c.may_begin.ensures ∙ c.if-not-may_begin.false, le-leb a.caller 7 c.if-caller-gt7.false))

pub open_word_spec : {M : Type 1} → statement M
open_word_spec =
    tie.close
    (tie.spec
    may-begin-requires
    returns
    returns-2
    returns-3)
