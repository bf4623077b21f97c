-- What a command answers has the chip as it was, where its number is one of a refusal.
use Rattle.std.proofs.Common.{◌≡◌, refl, sym, ap, ◌∙◌, List, ℕ, zero, suc, ℤ}
use Rattle.chips.specs.declared.Chip.{Chip}
use Rattle.chips.specs.declared.Commanded.{Commanded}
use Rattle.chips.specs.Commands.{chip_after, command_refusal, commanded_by, Commands}
use Rattle.test_chip_turns.proofs.turn.Goals as goal

kept_by : (n : ℕ) (after chip : Chip) →
    commanded_by n after chip ≡ commanded_by (commanded_by n after chip).number (commanded_by n after chip).chip chip
kept_by zero after chip = refl
kept_by (suc n) after chip = refl

kept : {pairs ops : List ℤ} {boundary : ℤ} {block : List ℕ} {chip : Chip} {r : Commanded} {block' : List ℕ} →
    Commands pairs ops boundary block chip r block' → r ≡ commanded_by r.number r.chip chip
kept {pairs} {ops} {boundary} {block} {chip} {r} d =
    let n = command_refusal pairs ops boundary block chip in
    let x = chip_after pairs ops boundary block chip in
    let e : r ≡ commanded_by n x chip = λ j. record { number = d.number j; chip = d.chip_after_lem j } in
    e ∙ kept_by n x chip ∙ sym (ap (λ (c : Commanded). commanded_by c.number c.chip chip) e)

pub returns : goal.returns
returns g c = kept c.command-done.ensures
