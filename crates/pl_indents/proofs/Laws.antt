-- Indentation, byte by byte: the contract of private functions, and one byte of a text.
-- Assumes nothing.
use mathlib.Core.Path.{◌≡◌, refl, sym, ap, ◌∙◌}
use mathlib.Core.Bool.{true, false}
use mathlib.Core.List.{List, [], ◌∷◌}
use mathlib.Core.Option.{Option, none, some}
use Prim.Native.Nat.{ℕ, ◌+◌, ◌<◌, ◌≤◌}
use native.Mathlib.Numerals.{add-one}
use native.Mathlib.Omega.{arith}
use lib.ListN.{length, get_or, drop, drop_of_length-le}
use lib.Seq.{drop-cons}
use Rattle.property_lists.specs.declared.Indents.{Indents}
use Rattle.property_lists.specs.declared.Indented.{Indented}
use Rattle.property_lists.specs.declared.Indented.TheVariants as indented
use Rattle.property_lists.specs.Indents.{after_byte, indents_kept, indented_to}
use Rattle.pl_indents.specs.Bounds.{IndentsTo}

pub refused_to : {o : Option Indents} {a b c : ℕ} → o ≡ none → IndentsTo o a b c indented.Refused
refused_to e = record { is = sym e; few_blanks = omega arith; few_open = omega arith; few_good = omega arith }

-- with greater bounds
pub at_most : {o o' : Option Indents} {a b c a' b' c' : ℕ} (r : Indented) → IndentsTo o a b c r → o ≡ o' → a ≤ a' → b ≤ b' → c ≤ c' → IndentsTo o' a' b' c' r
at_most r p e f g h =
    record { is = p.is ∙ e; few_blanks = omega (arith, p.few_blanks, f); few_open = omega (arith, p.few_open, g); few_good = omega (arith, p.few_good, h) }

-- what is known of an answer
module _ {o : Option Indents} {a b c : ℕ} {r : Indented} (p : IndentsTo o a b c r) where
  pub grown : {t : Indents} → r ≡ indented.To t → (o ≡ some t) × (t.blanks ≤ a) × (t.level ≤ b) × (t.good ≤ c)
  grown e = (sym p.is ∙ ap indented_to e, rw e at p.few_blanks, rw e at p.few_open, rw e at p.few_good)

  pub refused : r ≡ indented.Refused → o ≡ none
  refused e = sym p.is ∙ ap indented_to e

-- one byte
module _ (text : List ℕ) (i : ℕ) (s : Indents) where
  pub kept_more : {t : Indents} → i < length text → after_byte (get_or text i 0) s ≡ some t → indents_kept s (drop i text) ≡ indents_kept t (drop (i + 1) text)
  unfolding indents_kept
  kept_more h e = rw (drop-cons text i 0 h, e, add-one)

  pub kept_none : i < length text → after_byte (get_or text i 0) s ≡ none → indents_kept s (drop i text) ≡ false
  unfolding indents_kept
  kept_none h e = rw (drop-cons text i 0 h, e)

  pub kept_end : length text ≤ i → indents_kept s (drop i text) ≡ true
  unfolding indents_kept
  kept_end h = rw (drop_of_length-le text {i = i} h)
