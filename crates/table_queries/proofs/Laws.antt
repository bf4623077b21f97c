-- What else a host asks: by the tests of the code.
-- Assumes nothing.
use mathlib.Core.Path.{◌≡◌, ap, ◌∙◌}
use mathlib.Core.Bool.{false}
use mathlib.Core.List.{List, []}
use Prim.Native.Nat.{ℕ, ◌+◌, ◌-◌, ◌%◌, ◌^◌, ◌<◌, ◌≤◌}
use native.Mathlib.Omega.{arith}
use lib.IntN.{ℤ}
use lib.ListN.{length, take, drop}
use borrow.Author.Tests.{le-leb, lt-leb, eq-eqb, ne_eqb}
use Rattle.words.specs.Words.{Word}
use Rattle.words.proofs.Bits.{read_pos, read_neg}
use Rattle.captions.specs.declared.State.{State}
use Rattle.captions.specs.Tables.{key_by, left_place, find}
use Rattle.captions.specs.Steps.{right_item}
use Rattle.captions.specs.Queries.{not_ligature, is_separation_point, original_of, is_found, has_entry}

-- ---- a separation point

pub not_parted : (s : State) → (s.ops ≡ 0 → ⊥) → false ≡ is_separation_point s
not_parted s h = rw (ne_eqb s.ops 0 h)

pub parted : (s : State) → s.ops ≡ 0 → not_ligature s.next_left ≡ is_separation_point s
parted s e = rw (eq-eqb s.ops 0 e)

-- ---- the original of an item

pub original_outside : (word : List ℕ) (start n : ℕ) → length word < start + n → [] ≡ original_of word start n
original_outside word start n h = rw (lt-leb (start + n) (length word) h)

pub original_inside : (word : List ℕ) (start n : ℕ) → start + n ≤ length word → take (start + n - start) (drop start word) ≡ original_of word start n
original_inside word start n h = let e : start + n - start ≡ n = omega arith in rw (e, le-leb (start + n) (length word) h)

-- ---- an entry, from the words of the left, the right and the boundary

module _ (pairs : List ℤ) (boundary left right : ℤ) {w v place : ℕ} (p : Word left w) (e : place ≡ (w + 1) % 4294967296) (q : Word right v) where
  place_is : place ≡ left_place left
  place_is = e ∙ ap (λ (x : ℕ). (x + 1) % 4294967296) p.is

  pub entry_right : v < 2 ^ 31 → is_found (find pairs (key_by place v)) ≡ has_entry pairs left (right_item boundary right)
  entry_right h = rw (place_is, read_pos q h)

  module _ (h : 2 ^ 31 ≤ v) {u : ℕ} (r : Word boundary u) where
    pub entry_edge : u < 2 ^ 31 → is_found (find pairs (key_by place u)) ≡ has_entry pairs left (right_item boundary right)
    entry_edge k = rw (place_is, read_neg q h, read_pos r k)

    pub entry_none : 2 ^ 31 ≤ u → false ≡ has_entry pairs left (right_item boundary right)
    entry_none k = rw (read_neg q h, read_neg r k)
