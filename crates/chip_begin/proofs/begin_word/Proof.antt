-- `chip_begin::begin_word` meets its contract: by whether begin refuses.
-- Assumes nothing.
use mathlib.Core.Path.{sym, ap, ◌∙◌}
use mathlib.Core.List.{[]}
use Prim.Native.Nat.{ℕ}
use lib.IntN.{ℤ}
use Rattle.words.proofs.Bits.{number_word}
use Rattle.lang.proofs.Refusals.{second_is, first_refusal}
use Rattle.captions.specs.Begin.{begin_refusal, begin_of, plain_options}
use Rattle.chips.specs.Commands.{may_begin, caller_refusal, in_turn, chip_begun, commanded_by}
use Rattle.chip_begin.proofs.Laws.{refused_by, run_by, refused_in}
use borrow.Author.Rules.{rules}
use Rattle.chip_begin.proofs.begin_word.Statement.{statement}
use Rattle.chip_begin.proofs.begin_word.Tie as tie

begin-run-requires : tie.Need-begin_run-requires
begin-run-requires c κs = search rules

enum-known-n : tie.Need-enum_known-n
enum-known-n c = search rules

enum-known-state : tie.Need-enum_known-state
enum-known-state c = search rules

open-word-requires : tie.Need-open_word-requires
open-word-requires c κs =
    let a = c.args in
    let e = c.begin_run.ensures ∙ ap (λ (z : ℤ). begin_of a.pairs.now a.ops.now z [] plain_options) (number_word a.boundary c.ranges.boundary) in
    (run_by (begin_refusal a.pairs.now a.ops.now a.boundary [] plain_options) c.in-Run.state _ (sym c.in-Run.is ∙ e)).1

returns : tie.Need-returns-in-Refused
returns c =
    let a = c.args in
    let e = c.begin_run.ensures ∙ ap (λ (z : ℤ). begin_of a.pairs.now a.ops.now z [] plain_options) (number_word a.boundary c.ranges.boundary) in
    let q = refused_in (begin_refusal a.pairs.now a.ops.now a.boundary [] plain_options) c.in-Refused.n _ (sym c.in-Refused.is ∙ e) in
    refused_by (chip_begun a.caller a.chip) a.chip
    (first_refusal (in_turn (may_begin a.caller a.chip) (caller_refusal a.caller)) q.0 q.1) q.1

returns-2 : tie.Need-returns-in-Run
returns-2 c =
    let a = c.args in
    let r = begin_refusal a.pairs.now a.ops.now a.boundary [] plain_options in
    let e = c.begin_run.ensures ∙ ap (λ (q : ℤ). begin_of a.pairs.now a.ops.now q [] plain_options) (number_word a.boundary c.ranges.boundary) in
    let z = (run_by r c.in-Run.state _ (sym c.in-Run.is ∙ e)).0 in
    c.open_word.ensures
    ∙ ap (λ (n : ℕ). commanded_by n (chip_begun a.caller a.chip) a.chip)
    (sym (second_is r (in_turn (may_begin a.caller a.chip) (caller_refusal a.caller)) z))

pub begin_word_spec : {M : Type 1} → statement M
begin_word_spec =
    tie.close
    (tie.spec
    begin-run-requires
    enum-known-n
    enum-known-state
    open-word-requires
    returns
    returns-2)
