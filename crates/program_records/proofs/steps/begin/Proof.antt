-- `program_records::steps::begin` meets its contract, by whether the walk is refused.
-- Assumes nothing.
use mathlib.Core.Path.{◌≡◌, sym, ap, ◌∙◌}
use Prim.Native.Nat.{ℕ}
use lib.IntN.{ℤ}
use mir.Syntax.{w32}
use mir.Val.{of_z, to_z, SFits}
use mir.ValLaws.{to_z-of_z}
use borrow.Author.Rules.{rules}
use Rattle.words.specs.Words.{word_of}
use Rattle.program_records.specs.declared.steps.ChainWalk.{ChainWalk}
use Rattle.program_records.specs.WalkSteps.{early_refusal, start_of}
use Rattle.program_records.proofs.RecordTurns.{early_passed, start_refused, start_taken}
use Rattle.program_records.proofs.steps.begin.Statement.{statement}
use Rattle.program_records.proofs.steps.begin.Tie as tie

abbrev begun : ℕ → ChainWalk
begun i = record { at = i; count = 0 }

-- the entry was passed on as its 32 bits
module _ (n : ℕ) (entry : ℤ) (r : ℕ) (f : SFits w32 entry) (asked : r ≡ early_refusal n (to_z w32 (of_z w32 entry))) where
  early-is : r ≡ early_refusal n entry
  early-is = early_passed n entry r f asked

  refused : (r ≡ 0 → ⊥) → n ≡ start_of n entry
  refused h = sym (start_refused n entry (λ z. h (early-is ∙ z)))

  taken : r ≡ 0 → (w : ℕ) → w ≡ word_of (to_z w32 (of_z w32 entry)) → w ≡ start_of n entry
  taken h w e = e ∙ ap word_of (to_z-of_z w32 entry f) ∙ sym (start_taken n entry (sym early-is ∙ h))

early-refusal-requires : tie.Need-early_refusal-requires
early-refusal-requires c κs = search rules

returns : tie.Need-returns-then-early_refusal-ne0
returns c =
    ap begun (refused c.args.n c.args.entry c.early_refusal.result c.ranges.entry c.early_refusal.ensures c.if-early_refusal-ne0.true)

word-of-requires : tie.Need-word_of-requires
word-of-requires c κs = search rules

cast-t5 : tie.Need-overflow_cast-result
cast-t5 c = search rules

returns-2 : tie.Need-returns
returns-2 c =
    ap begun
    (taken c.args.n c.args.entry c.early_refusal.result c.ranges.entry c.early_refusal.ensures c.if-early_refusal-ne0.false
    c.word_of.result c.word_of.ensures)

pub begin_spec : {M : Type 1} → statement M
begin_spec =
    tie.close
    (tie.spec
    early-refusal-requires
    returns
    word-of-requires
    cast-t5
    returns-2)
