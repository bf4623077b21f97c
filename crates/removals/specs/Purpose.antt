-- What the answers mean (R487), where nothing is refused before any removal, and what a removal does to the rules of a font (R488). Proved:
-- proofs/Theorems. No contract cites this.
use Rattle.std.specs.Prelude.{◌≡◌, cond, List, ◌↔◌, ℕ, ◌<◌, ◌≤◌, ℤ, eqb, length}
use Rattle.std.proofs.Math.Option.{Option, none, some}
use Rattle.lang.specs.Records.{count, instruction_at}
use Rattle.program_chain.specs.Chains.{onward_from, rule_index_of}
use Rattle.reading.specs.Items.{Left}
use Rattle.fonts.specs.Fonts.{Font, table_of, index_of}
use Rattle.fonts.specs.Compiled.{Room, sized_refusal}
use Rattle.captions.specs.declared.RunOptions.{RunOptions}
use Rattle.captions.specs.declared.State.{State}
use Rattle.captions.specs.Tables.{op_count}
use Rattle.word_set.specs.Setting.{items_from}
use Rattle.removals.specs.declared.Blamed.TheVariants.{At, Nothing}
use Rattle.removals.specs.Removed.{font_without}
use Rattle.removals.specs.Items.{most_items, run_items, font_items}
use Rattle.removals.specs.Search.{blame_refusal, blamed_of}

-- ---- what the answers mean

-- two fonts give the same items of a word: both runs come to their end, with the same numbers
pub record SameIn (f g : Font) (word : List ℕ) (options : RunOptions) : Type 0 where
  pub first_ends : (font_items f word options).number ≡ 0
  pub second_ends : (font_items g word options).number ≡ 0
  pub numbers : (font_items f word options).values ≡ (font_items g word options).values

-- removal i alters nothing: it compiles, with no room for a loop, and gives the same items
pub record Unaltered (f : Font) (room : Room) (size : ℕ) (word : List ℕ) (options : RunOptions) (i : ℕ) : Type 0 where
  pub compiles : sized_refusal (font_without f i) room size ≡ 0
  pub same : SameIn f (font_without f i) word options

-- removal i alters: compile's number of it is 15, which is a loop where there is no room for one; or it compiles, and gives other items
pub data Altered (f : Font) (room : Room) (size : ℕ) (word : List ℕ) (options : RunOptions) (i : ℕ) : Type 0 where
  loops : sized_refusal (font_without f i) room size ≡ 15 → Altered f room size word options i
  differs : sized_refusal (font_without f i) room size ≡ 0 → (SameIn f (font_without f i) word options → ⊥) →
      Altered f room size word options i

-- nothing is answered exactly when no single removal alters anything, or brings a number
abbrev pub NothingMeans : Type 0
NothingMeans =
    (f : Font) (room : Room) (size : ℕ) (word : List ℕ) (options : RunOptions) (edited : ℕ) →
    blame_refusal f room size word options edited ≡ 0 →
    (blamed_of f room size word options edited ≡ Nothing)
    ↔ ((i : ℕ) → i < count f.instructions → Unaltered f room size word options i)

-- an instruction is answered only if its removal alters, and none below it does or brings a number
abbrev pub AtMeans : Type 0
AtMeans =
    (f : Font) (room : Room) (size : ℕ) (word : List ℕ) (options : RunOptions) (edited i : ℕ) →
    blame_refusal f room size word options edited ≡ 0 → blamed_of f room size word options edited ≡ At i →
    (i < count f.instructions) × Altered f room size word options i × ((j : ℕ) → j < i → Unaltered f room size word options j)

-- a run gives at most as many items as its measure says: any greater room gives the same list
abbrev pub RoomForAll : Type 0
RoomForAll =
    (pairs ops : List ℤ) (boundary : ℤ) (word : List ℕ) (options : RunOptions) (n : ℕ) (s : State) →
    most_items (op_count ops) (length word) s ≤ n → items_from pairs ops boundary word options n s ≡ run_items pairs ops boundary word options s

-- ---- what a removal does to the rules

-- where a chain goes on after instruction i
abbrev pub goes_on_after : List ℤ → ℕ → ℕ
goes_on_after s i = onward_from (count s) (instruction_at s i).next_instruction i

-- the index of a rule with i passed over: a rule that is not i stays, and in the place of i comes what the chain has for the right
-- character
-- from where i goes on
abbrev pub rule_without : List ℤ → ℕ → ℕ → Option ℕ → Option ℕ
rule_without s i r none = none
rule_without s i r (some j) = cond (eqb i j) (rule_index_of s (goes_on_after s i) r) (some j)

-- of every pair: without instruction i it has the rule that the font has with i passed over. So a pair that has none gets none.
abbrev pub RulesWithout : Type 0
RulesWithout =
    (f : Font) (i : ℕ) → i < count f.instructions → (l : Left) (r : ℕ) →
    index_of (font_without f i).instructions (table_of f) l r ≡ rule_without f.instructions i r (index_of f.instructions (table_of f) l r)
