-- The bytes that are shown: where they stand in the block, and when they are zeros.
-- Assumes nothing.
use mathlib.Core.Path.{◌≡◌, refl, sym, ap}
use mathlib.Core.Bool.{Bool, true, false, not}
use mathlib.Core.List.{List, [], ◌∷◌, ◌++◌}
use mathlib.Core.Logic.{◌↔◌}
use Prim.Native.Nat.{ℕ, ◌<◌, ◌≤◌}
use native.Mathlib.Omega.{arith}
use lib.ListN.{length, get_or, take, drop, replicate, get_or-replicate}
use lib.Seq.{take_at}
use Rattle.captions.specs.declared.Answer.{Answer}
use Rattle.captions.specs.declared.Answer.TheVariants.{Char, Ligature, Kern, End, Refused}
use Rattle.captions.specs.Replies.{is_end}
use Rattle.chips.specs.declared.Chip.{Chip}
use Rattle.chips.specs.Blocks.{block_byte, status_byte, caller_count, high_first, item_bytes, shown_block}
use Rattle.chips.specs.Commands.{item_stands}

pub item_eight : (a : Answer) → length (item_bytes a) ≡ 8
item_eight (Char c start) = refl
item_eight (Ligature c start n left right) = refl
item_eight (Kern k) = refl
item_eight End = refl
item_eight (Refused n) = refl

-- bytes 8 to 15 are the item's
pub shown_item : (block : List ℕ) (chip : Chip) → 16 ≤ length block → take 8 (drop 8 (shown_block block chip)) ≡ item_bytes chip.item
shown_item [] chip h = absurd (omega (arith, h))
shown_item (a ∷ []) chip h = absurd (omega (arith, h))
shown_item (a ∷ b ∷ r) chip h = take_at (item_bytes chip.item) (drop 16 (a ∷ b ∷ r)) 8 (item_eight chip.item)

-- bytes 4 to 7 are the count of the chip's caller
pub shown_count : (block : List ℕ) (chip : Chip) → 16 ≤ length block → take 4 (drop 4 (shown_block block chip)) ≡ high_first (caller_count chip.caller chip)
shown_count [] chip h = absurd (omega (arith, h))
shown_count (a ∷ []) chip h = absurd (omega (arith, h))
shown_count (a ∷ b ∷ r) chip h = refl

-- bytes 2 to 15 are the status, the mask, the count and the item
pub shown_rest : (block : List ℕ) (chip : Chip) → 16 ≤ length block →
    take 14 (drop 2 (shown_block block chip))
    ≡ (status_byte block chip ∷ block_byte block 3 ∷ high_first (caller_count chip.caller chip)) ++ item_bytes chip.item
shown_rest [] chip h = absurd (omega (arith, h))
shown_rest (a ∷ []) chip h = absurd (omega (arith, h))
shown_rest (a ∷ b ∷ r) chip h =
    take_at
    ((status_byte (a ∷ b ∷ r) chip ∷ block_byte (a ∷ b ∷ r) 3 ∷ high_first (caller_count chip.caller chip)) ++ item_bytes chip.item)
    (drop 16 (a ∷ b ∷ r)) 14
    (omega (arith, item_eight chip.item))

no : {A : Type 0} → ◌≡◌ {A = Bool} true false → A
no e = absurd (let z : ◌≡◌ {A = ℕ} 0 1 = cc in omega arith)

-- a byte of it is not 0
some_byte : {A : Type 0} (l : List ℕ) (i : ℕ) → i < 8 → 0 < get_or l i 0 → l ≡ replicate 8 0 → A
some_byte l i k h e = absurd (omega (arith, h, ap (λ (m : List ℕ). get_or m i 0) e, get_or-replicate {A = ℕ} 8 i 0 0 k))

-- zeros stand for no item
pub zeros_none : (a : Answer) → item_stands a ≡ true → (item_bytes a ≡ replicate 8 0) ↔ (not (is_end a) ≡ false)
zeros_none (Char c start) h = (some_byte (item_bytes (Char c start)) 3 (omega arith) (omega arith), no)
zeros_none (Ligature c start n left right) h = (some_byte (item_bytes (Ligature c start n left right)) 0 (omega arith) (omega arith), no)
zeros_none (Kern k) h = (some_byte (item_bytes (Kern k)) 0 (omega arith) (omega arith), no)
zeros_none End h = (λ e. refl, λ e. refl)
zeros_none (Refused n) h = no (sym h)
