-- A list whose chip is another's but for some parts, and the command that is taken on it.
-- Assumes nothing.
use mathlib.Core.Path.{◌≡◌, sym, ap, ◌∙◌}
use mathlib.Core.Bool.{Bool, true}
use mathlib.Core.List.{List, ◌++◌}
use Prim.Native.Nat.{ℕ, ◌≤◌}
use lib.ListN.{length, get_or, take, drop}
use borrow.Author.Tests.{le-leb}
use Rattle.captions.specs.declared.State.{State}
use Rattle.captions.specs.declared.Answer.{Answer}
use Rattle.chips.specs.declared.Chip.{Chip}
use Rattle.chips.specs.Blocks.{shown_block}
use Rattle.c_chips.specs.ChipLists.{letters_at, chip_at, chip_numbers, chip_with, MovesChip}
use Rattle.c_chip_write.specs.Changes.{can_show, ShowsChanges}

-- with these letters and counts, and otherwise the same
pub record Altered (ns ns₁ : List ℕ) (n : ℕ) (letters counts : List ℕ) : Type 0 where
  pub n_is : get_or ns₁ 1 0 ≡ n
  pub letters_are : letters_at n ns₁ ≡ letters
  pub counts_are : take 8 (drop 82 ns₁) ≡ counts
  pub caller_is : get_or ns₁ 90 0 ≡ get_or ns 90 0
  pub rest_is : drop 91 ns₁ ≡ drop 91 ns
  pub can_show_lem : can_show ns₁ ≡ true

module _ {ns ns₁ : List ℕ} {n : ℕ} {letters counts : List ℕ} (a : Altered ns ns₁ n letters counts) (opened : Bool) (item : Answer) (state : State) where
  abbrev pub after : Chip
  after = record { opened = opened; length = n; letters = letters; counts = counts; caller = get_or ns 90 0; item = item; state = state }

  altered_with : chip_with opened item state (chip_at ns₁) ≡ after
  altered_with = λ j.
      record {
        opened = opened;
        length = a.n_is j;
        letters = (ap (λ (k : ℕ). letters_at k ns₁) a.n_is ∙ a.letters_are) j;
        counts = a.counts_are j;
        caller = a.caller_is j;
        item = item;
        state = state;
      }

  -- a command that is taken
  pub altered_moves : {number : ℕ} (block : List ℕ) {block' ns' : List ℕ} {chip : Chip} → 16 ≤ length block → number ≡ 0 → after ≡ chip →
      ShowsChanges opened item state block ns₁ block' ns' → MovesChip number chip block ns 0 block' ns'
  altered_moves block {block'} {ns'} {chip} b z e w =
      record {
        number = sym z;
        shown = rw z (w.shown ∙ rw (a.can_show_lem, le-leb 16 (length block) b) (ap (shown_block block) (altered_with ∙ e)));
        moved = rw z (w.moved ∙ rw a.can_show_lem (λ j. chip_numbers ((altered_with ∙ e) j) ++ a.rest_is j));
      }
