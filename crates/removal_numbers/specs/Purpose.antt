-- What a removal brings (R485): its pairs are among those of the font, so that of a font that is taken it brings no number but 13 and
-- 14, and 15 for a loop. Proved: proofs/Theorems. No contract cites this.
use Rattle.std.specs.Prelude.{◌≡◌, ℕ, ◌<◌, ◌≤◌, length}
use Rattle.std.proofs.Math.Option.{none}
use Rattle.lang.specs.Records.{count}
use Rattle.reading.specs.Items.{Left}
use Rattle.fonts.specs.Fonts.{Font, table_of, index_of, pairs_of}
use Rattle.fonts.specs.Compiled.{Room, loops_of_font, font_refusal, pairs_refusal, sized_refusal}
use Rattle.removals.specs.Removed.{font_without}

-- a pair that has no rule gets none, and there are no more pairs than there were
abbrev pub PairsAmong : Type 0
PairsAmong =
    (f : Font) (i : ℕ) → i < count f.instructions →
    ((l : Left) (r : ℕ) → index_of f.instructions (table_of f) l r ≡ none → index_of (font_without f i).instructions (table_of f) l r ≡ none)
    × (length (pairs_of (font_without f i)) ≤ length (pairs_of f))

-- what compile can say of a removal, where the number n is its own
pub data Brings (g : Font) (n : ℕ) : Type 0 where
  nothing : n ≡ 0 → Brings g n
  bad_kern : n ≡ 13 → Brings g n
  more_ops : n ≡ 14 → Brings g n
  a_loop : n ≡ 15 → 0 < length (loops_of_font g) → Brings g n

-- of a font that no number up to 12 refuses, at a size that is in range
abbrev pub NumbersBrought : Type 0
NumbersBrought =
    (f : Font) (room : Room) (i : ℕ) → i < count f.instructions → font_refusal f ≡ 0 → pairs_refusal f room ≡ 0 →
    Brings (font_without f i) (sized_refusal (font_without f i) room 0)
