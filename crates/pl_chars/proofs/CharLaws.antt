-- What is passed over: comments, single bytes and names.
-- Assumes nothing.
use mathlib.Core.Path.{◌≡◌}
use mathlib.Core.Bool.{true, false}
use mathlib.Core.List.{List}
use mathlib.Core.Option.{none, some}
use Prim.Native.Nat.{ℕ, ◌+◌, ◌-◌, ◌<◌, ◌≤◌}
use native.Mathlib.Numerals.{add-one}
use lib.ListN.{length, get_or, drop}
use borrow.Author.Tests.{eq-eqb, ne_eqb}
use Rattle.property_lists.specs.Chars.{upper_case, in_name, past_comment, past_byte, name_ends, past_name}
use Rattle.pl_blanks.proofs.Places.{at_byte, at_end_lem}

-- ---- comments

module _ (text : List ℕ) (i depth : ℕ) (h : i < length text) where
  pub comment_closed : get_or text i 0 ≡ 41 → depth ≡ 0 → past_comment depth (drop i text) ≡ some (drop (i + 1) text)
  unfolding past_comment
  comment_closed e z = rw (at_byte text i h, eq-eqb (get_or text i 0) 41 e, eq-eqb depth 0 z)

  pub comment_close : get_or text i 0 ≡ 41 → (depth ≡ 0 → ⊥) → past_comment depth (drop i text) ≡ past_comment (depth - 1) (drop (i + 1) text)
  unfolding past_comment
  comment_close e z = rw (at_byte text i h, eq-eqb (get_or text i 0) 41 e, ne_eqb depth 0 z)

  pub comment_open : get_or text i 0 ≡ 40 → past_comment depth (drop i text) ≡ past_comment (depth + 1) (drop (i + 1) text)
  unfolding past_comment
  comment_open e = rw (at_byte text i h, e, add-one depth)

  pub comment_more : (get_or text i 0 ≡ 41 → ⊥) → (get_or text i 0 ≡ 40 → ⊥) → past_comment depth (drop i text) ≡ past_comment depth (drop (i + 1) text)
  unfolding past_comment
  comment_more e f = rw (at_byte text i h, ne_eqb (get_or text i 0) 41 e, ne_eqb (get_or text i 0) 40 f)

pub comment_end : (text : List ℕ) (i depth : ℕ) → length text ≤ i → past_comment depth (drop i text) ≡ none
unfolding past_comment
comment_end text i depth h = rw (at_end_lem text i h)

-- ---- one byte

module _ (text : List ℕ) (i a : ℕ) where
  pub byte_there : i < length text → get_or text i 0 ≡ a → past_byte a (drop i text) ≡ some (drop (i + 1) text)
  byte_there h e = rw (at_byte text i h, eq-eqb (get_or text i 0) a e)

  pub byte_other : i < length text → (get_or text i 0 ≡ a → ⊥) → past_byte a (drop i text) ≡ none
  byte_other h e = rw (at_byte text i h, ne_eqb (get_or text i 0) a e)

  pub byte_end : length text ≤ i → past_byte a (drop i text) ≡ none
  byte_end h = rw (at_end_lem text i h)

-- ---- names

module _ (text : List ℕ) (i : ℕ) where
  pub ends_no : i < length text → in_name (get_or text i 0) ≡ true → name_ends (drop i text) ≡ none
  ends_no h e = rw (at_byte text i h, e)

  pub ends_here : i < length text → in_name (get_or text i 0) ≡ false → name_ends (drop i text) ≡ some (drop i text)
  ends_here h e = rw (at_byte text i h, e)

  pub ends_end : length text ≤ i → name_ends (drop i text) ≡ some (drop i text)
  ends_end h = rw (at_end_lem text i h)

module _ (text name : List ℕ) (i k : ℕ) (h : k < length name) where
  pub name_more : i < length text → upper_case (get_or text i 0) ≡ get_or name k 0 →
      past_name (drop k name) (drop i text) ≡ past_name (drop (k + 1) name) (drop (i + 1) text)
  unfolding past_name
  name_more l e = rw (at_byte text i l, at_byte name k h, eq-eqb (upper_case (get_or text i 0)) (get_or name k 0) e)

  pub name_other : i < length text → (upper_case (get_or text i 0) ≡ get_or name k 0 → ⊥) → past_name (drop k name) (drop i text) ≡ none
  unfolding past_name
  name_other l e = rw (at_byte text i l, at_byte name k h, ne_eqb (upper_case (get_or text i 0)) (get_or name k 0) e)

  pub name_short : length text ≤ i → past_name (drop k name) (drop i text) ≡ none
  unfolding past_name
  name_short l = rw (at_end_lem text i l, at_byte name k h)

pub name_all : (text name : List ℕ) (i k : ℕ) → length name ≤ k → past_name (drop k name) (drop i text) ≡ name_ends (drop i text)
unfolding past_name
name_all text name i k h = rw (at_end_lem name k h)
