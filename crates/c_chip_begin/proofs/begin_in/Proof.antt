-- `c_chip_begin::begin_in` meets its contract: a short block, a table or boundary character that is refused, or begin.
-- Assumes nothing.
use mathlib.Core.Path.{◌≡◌, sym, ap, subst, ◌∙◌}
use mathlib.Core.List.{List, []}
use Prim.Native.Nat.{ℕ}
use lib.IntN.{ℤ}
use lib.ListN.{length, get_or}
use Rattle.words.specs.Words.{word_of, number_of}
use Rattle.words.proofs.Bits.{number_word}
use Rattle.chips.specs.declared.Chip.{Chip}
use Rattle.chips.specs.Commands.{may_begin, caller_refusal, in_turn, chip_begun}
use Rattle.c_chips.specs.ChipLists.{chip_read, after_early, MovesChip}
use Rattle.lang.specs.Checks.{or_else}
use Rattle.captions.specs.Form.{table_refusal}
use Rattle.captions.specs.Begin.{begin_refusal, begin_of, plain_options}
use Rattle.chip_begin.proofs.Laws.{run_by, refused_in}
use Rattle.c_chip_begin.proofs.Laws.{short_moves, table_moves, formed_moves}
use borrow.Author.Rules.{rules}
use Rattle.c_chip_begin.proofs.begin_in.Statement.{statement}
use Rattle.c_chip_begin.proofs.begin_in.Tie as tie

-- what is lent, and begin's number and chip
module _ (c : tie.After-begin_run) where
  abbrev boundary : ℤ
  boundary = c.args.boundary

  abbrev pairs : List ℤ
  pairs = c.args.pairs.now

  abbrev ops : List ℤ
  ops = c.args.ops.now

  abbrev block : List ℕ
  block = c.args.block.now

  abbrev ns : List ℕ
  ns = c.args.list.now

  lent : number_of (word_of boundary) ≡ boundary
  lent = number_word boundary c.ranges.boundary

  abbrev number : ℕ
  number = in_turn (may_begin (get_or block 1 0) (chip_read ns)) (caller_refusal (get_or block 1 0))

  abbrev after : Chip
  after = chip_begun (get_or block 1 0) (chip_read ns)

  abbrev refusal : ℕ
  refusal = begin_refusal pairs ops boundary [] plain_options

  run : c.begin_run.result ≡ begin_of pairs ops boundary [] plain_options
  run = c.begin_run.ensures ∙ ap (λ (z : ℤ). begin_of pairs ops z [] plain_options) lent

begin-run-requires : tie.Need-begin_run-requires
begin-run-requires c κs = search rules

enum-known-n : tie.Need-enum_known-n
enum-known-n c = search rules

list-refusal-requires : tie.Need-list_refusal-requires
list-refusal-requires c κs = search rules

same_length : tie.Need-shape_of-list-then-block-lt16
same_length c = search rules

returns : tie.Need-returns-then-block-lt16
returns c =
    let e = c.list_refusal.ensures ∙ ap (λ (z : ℤ). after_early z (chip_read (ns (c.before.before.before))) (length (block (c.before.before.before))) 0) (lent (c.before.before.before)) in
    short_moves (boundary (c.before.before.before)) (ns (c.before.before.before)) (block (c.before.before.before)) (or_else (table_refusal (pairs (c.before.before.before)) (ops (c.before.before.before))) (number (c.before.before.before))) (after (c.before.before.before)) c.if-block-lt16.true e

enum-known-state : tie.Need-enum_known-state
enum-known-state c = search rules

begin-with-requires : tie.Need-begin_with-requires
begin-with-requires c κs =
    (run_by (refusal (c.before.before.before)) c.in-Run.state _ (sym c.in-Run.is ∙ run (c.before.before.before))).1

returns-2 : tie.Need-returns-else-block-lt16
returns-2 c =
    let q = refused_in (refusal (c.before.before)) c.in-Refused.n _ (sym c.in-Refused.is ∙ run (c.before.before)) in
    table_moves (pairs (c.before.before)) (ops (c.before.before)) (boundary (c.before.before)) (ns (c.before.before)) (block (c.before.before)) (number (c.before.before)) (after (c.before.before)) c.if-block-lt16.false q.0 q.1

same-length-2 : tie.Need-shape_of-block
same-length-2 c = search rules

same-length-3 : tie.Need-shape_of-list
same-length-3 c = search rules

returns-3 : tie.Need-returns-in-Run
returns-3 c =
    formed_moves (pairs (c.before.before.before.before.before.before.before.before)) (ops (c.before.before.before.before.before.before.before.before)) (boundary (c.before.before.before.before.before.before.before.before)) (ns (c.before.before.before.before.before.before.before.before)) (block (c.before.before.before.before.before.before.before.before)) (number (c.before.before.before.before.before.before.before.before)) (after (c.before.before.before.before.before.before.before.before))
    (run_by (refusal (c.before.before.before.before.before.before.before.before)) c.in-Run.state _ (sym c.in-Run.is ∙ run (c.before.before.before.before.before.before.before.before))).0
    (subst (λ (z : ℤ). MovesChip (after_early z (chip_read (ns (c.before.before.before.before.before.before.before.before))) (length (block (c.before.before.before.before.before.before.before.before))) (number (c.before.before.before.before.before.before.before.before))) (after (c.before.before.before.before.before.before.before.before)) (block (c.before.before.before.before.before.before.before.before)) (ns (c.before.before.before.before.before.before.before.before)) c.begin_with.result c.begin_with.new.block
    c.begin_with.new.list) (lent (c.before.before.before.before.before.before.before.before)) c.begin_with.ensures)

pub begin_in_spec : {M : Type 1} → statement M
begin_in_spec =
    tie.close
    (tie.spec
    begin-run-requires
    enum-known-n
    list-refusal-requires
    same_length
    returns
    enum-known-state
    begin-with-requires
    returns-2
    same-length-2
    same-length-3
    returns-3)
