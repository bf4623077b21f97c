-- How kern values that stand in a list once are found again: their places are the nodes of a digital search tree (Knuth, TAOCP 3, 6.3).
-- A search goes on from place p to the left or to the right by the next of the value's 32 bits, the lowest first. `links` has the root
-- in slot 0, and what is left and right of place p in slots 2 p + 1 and 2 p + 2. A link is one more than a place, and 0 for none. Only
-- private functions' contracts cite this.
use Rattle.std.specs.Prelude.{◌≡◌, List, ℕ, zero, suc, ◌+◌, ◌-◌, ◌*◌, ◌/◌, ◌%◌, ◌^◌, ◌<◌, ◌≤◌, ℤ, pos, length, get_or, replicate}
use Rattle.words.specs.Words.{word_of}
use Rattle.words.specs.Lists.{Appending}
use Rattle.program_kerns.specs.Kerns.{kern_place, values}

-- the 32 bits of the value at place p
abbrev pub word_at : List ℤ → ℕ → ℕ
word_at ks p = word_of (get_or ks p (pos 0))

-- the slot to which the search for w comes after n values, each left by one bit of w
unfoldable pub slot_after : List ℕ → ℕ → ℕ → ℕ
slot_after links w zero = 0
slot_after links w (suc n) = 2 * (get_or links (slot_after links w n) 0 - 1) + 1 + w / 2 ^ n % 2

-- the link there
abbrev pub link_after : List ℕ → ℕ → ℕ → ℕ
link_after links w n = get_or links (slot_after links w n) 0

-- the search for w goes down by n values: there are that many on its way, and all are others
pub record Descends (ks : List ℤ) (links : List ℕ) (w n : ℕ) : Type 0 where
  pub linked : (j : ℕ) → j < n → link_after links w j ≡ 0 → ⊥
  pub others : (j : ℕ) → j < n → word_at ks (link_after links w j - 1) ≡ w → ⊥

-- it goes down by at most 32 values and ends at a slot that has no link, or w's
pub record SearchEnds (ks : List ℤ) (links : List ℕ) (w slot : ℕ) : Type 0 where
  pub depth : ℕ
  pub near : depth ≤ 32
  pub descends : Descends ks links w depth
  pub slot_is : slot ≡ slot_after links w depth
  pub stops : (get_or links slot 0 ≡ 0 → ⊥) → word_at ks (get_or links slot 0 - 1) ≡ w

-- it comes to the link of place p
pub record SearchReaches (ks : List ℤ) (links : List ℕ) (w p : ℕ) : Type 0 where
  pub depth : ℕ
  pub descends : Descends ks links w depth
  pub link_is : link_after links w depth ≡ p + 1

-- each value of ks stands there once, has one link, and is reached by the search for it
pub record Linked (ks : List ℤ) (links : List ℕ) : Type 0 where
  pub few : length ks ≤ 32767
  pub slots : length links ≡ 65536
  pub once : (j : ℕ) → j < length ks → kern_place (get_or ks j (pos 0)) ks ≡ j
  pub words : (p : ℕ) → p < length ks → word_at ks p < 2 ^ 32
  pub places : (s : ℕ) → get_or links s 0 ≤ length ks
  pub single : (s t : ℕ) → (get_or links s 0 ≡ 0 → ⊥) → get_or links s 0 ≡ get_or links t 0 → s ≡ t
  pub reached : (p : ℕ) → p < length ks → SearchReaches ks links (word_at ks p) p

-- the m kern values of the first i instructions stand in a list of n places, with zeros after them
pub record Gathered (s : List ℤ) (i n : ℕ) (kerns : List ℤ) (links : List ℕ) (m : ℕ) : Type 0 where
  pub counted : m ≡ length (values s i)
  pub stands : Appending (values s i) (replicate n (pos 0)) kerns
  pub linked : Linked (values s i) links

-- so it is, or a number m past n says that n places are too few
pub record Counted (s : List ℤ) (i n : ℕ) (kerns : List ℤ) (links : List ℕ) (m : ℕ) : Type 0 where
  pub short : n < m → n < length (values s i)
  pub whole : m ≤ n → Gathered s i n kerns links m
