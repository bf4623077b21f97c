-- A command whole: refused, or taken and shown.
-- Assumes nothing.
use mathlib.Core.Path.{◌≡◌, refl, sym, ap, ◌∙◌}
use mathlib.Core.Bool.{Bool, true, false, cond}
use mathlib.Core.List.{List}
use Prim.Native.Nat.{ℕ, zero, suc}
use native.Mathlib.Omega.{arith}
use lib.Dec.{leb}
use lib.IntN.{ℤ}
use lib.ListN.{length}
use Rattle.lang.specs.Checks.{or_else, absent_refusal}
use Rattle.chips.specs.declared.Chip.{Chip}
use Rattle.chips.specs.declared.Commanded.{Commanded}
use Rattle.chips.specs.Blocks.{caller_count, shown_block}
use Rattle.chips.specs.Commands.{chip_refusal, chip_after, turn_refusal, command_refusal, commanded_by, command_of, block_by, Commands}
use Rattle.chip_block.specs.Showing.{chip_showing, shown_where}

-- a command that is not refused has a block of 16 bytes
none_short : (a b : ℕ) (t : Bool) (n : ℕ) → or_else a (or_else b (cond t n 15)) ≡ 0 → t ≡ true
none_short zero zero true n e = refl
none_short zero zero false n e = absurd (omega arith)
none_short zero (suc b) t n e = absurd (omega arith)
none_short (suc a) b t n e = absurd (omega arith)

number_by : (n : ℕ) (after chip : Chip) → (commanded_by n after chip).number ≡ n
number_by zero after chip = refl
number_by (suc n) after chip = refl

module _ (pairs ops : List ℤ) (boundary : ℤ) (block : List ℕ) (chip : Chip) {r : Commanded} (done : r ≡ command_of pairs ops boundary block chip) where
  abbrev refusal : ℕ
  refusal = command_refusal pairs ops boundary block chip

  abbrev after : Chip
  after = chip_after pairs ops boundary block chip

  told : {block' : List ℕ} → block' ≡ block_by refusal block after → Commands pairs ops boundary block chip r block'
  told f = record { number = ap (λ (c : Commanded). c.number) done; chip_after_lem = ap (λ (c : Commanded). c.chip) done; block_after = f }

  number : r.number ≡ refusal
  number = ap (λ (c : Commanded). c.number) done ∙ number_by refusal after chip

  -- refused
  pub refused_told : (r.number ≡ 0 → ⊥) → Commands pairs ops boundary block chip r block
  refused_told h = told (by refusal number)
    where
      by : (n : ℕ) → r.number ≡ n → block ≡ block_by n block after
      by zero q = absurd (h q)
      by (suc n) q = refl

  -- taken, and shown
  pub taken_told : {block' : List ℕ} → r.number ≡ 0 →
      block' ≡ shown_where block (chip_showing r.chip.opened (caller_count r.chip.caller r.chip) r.chip.item) →
      Commands pairs ops boundary block chip r block'
  taken_told {block'} z f =
      let n : refusal ≡ 0 = sym number ∙ z in
      let t = turn_refusal pairs ops boundary block chip in
      let long : leb 16 (length block) ≡ true = none_short (absent_refusal 255 boundary) (chip_refusal chip) (leb 16 (length block)) t n in
      told (rw n (f ∙ rw long (ap (shown_block block) (ap (λ (c : Commanded). c.chip) (done ∙ ap (λ (m : ℕ). commanded_by m after chip) n)))))
