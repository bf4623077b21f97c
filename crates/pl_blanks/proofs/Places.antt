-- The byte at a place of a text, and the contract of functions that pass over a part of it.
-- Assumes nothing.
use mathlib.Core.Path.{◌≡◌, sym, ap, ◌∙◌}
use mathlib.Core.List.{List, [], ◌∷◌}
use mathlib.Core.Option.{Option, none, some}
use Prim.Native.Nat.{ℕ, ◌+◌, ◌<◌, ◌≤◌}
use native.Mathlib.Numerals.{add-one}
use native.Mathlib.Omega.{arith}
use lib.ListN.{length, get_or, drop, drop_of_length-le}
use lib.Seq.{drop-cons}
use Rattle.std.specs.Prelude.{Option as Answer, Some, None}
use Rattle.property_lists.specs.Chars.{then_by, text_after, place_after, Passes}

module _ (text : List ℕ) (i : ℕ) where
  pub at_byte : i < length text → drop i text ≡ get_or text i 0 ∷ drop (i + 1) text
  at_byte h = drop-cons text i 0 h ∙ rw add-one

  pub at_end_lem : length text ≤ i → drop i text ≡ []
  at_end_lem h = drop_of_length-le text {i = i} h

-- ---- the contract

pub passed_at : (text : List ℕ) {o : Option (List ℕ)} {at least n : ℕ} → o ≡ some (drop n text) → (at ≤ length text → at + least ≤ n) → n ≤ length text →
    Passes o text at least (Some n)
passed_at text e l h = record { is = sym e; low = l; high = h }

pub passed_none : (text : List ℕ) {o : Option (List ℕ)} {at least : ℕ} → o ≡ none → Passes o text at least None
passed_none text e = record { is = sym e; low = λ _. omega arith; high = omega arith }

-- from a place before
pub passed_from : {o o' : Option (List ℕ)} {text : List ℕ} {at l i k : ℕ} (r : Answer ℕ) → Passes o text i k r → o ≡ o' →
    (at ≤ length text → (at + l ≤ i + k) × (i ≤ length text)) → Passes o' text at l r
passed_from (Some n) p e f =
    record { is = p.is ∙ e; low = λ h. let g = f h in omega (arith, g.0, p.low g.1); high = p.high }
passed_from None p e f = record { is = p.is ∙ e; low = λ _. omega arith; high = omega arith }

-- what is known of an answer
module _ {o : Option (List ℕ)} {text : List ℕ} {at least : ℕ} {r : Answer ℕ} (p : Passes o text at least r) where
  pub known_at : {n : ℕ} → r ≡ Some n → (o ≡ some (drop n text)) × (at ≤ length text → at + least ≤ n) × (n ≤ length text)
  known_at {n} e =
      (sym p.is ∙ ap (text_after text) e, λ h. rw e at (p.low h), rw e at p.high)

  pub known_none : r ≡ None → o ≡ none
  known_none e = sym p.is ∙ ap (text_after text) e
