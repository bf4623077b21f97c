-- The contract of functions that read a property from a place of a text on.
-- Assumes nothing.
use mathlib.Core.Path.{◌≡◌, sym, ap, ◌∙◌}
use mathlib.Core.List.{List}
use mathlib.Core.Option.{Option, none, some}
use Prim.Native.Nat.{ℕ, ◌+◌, ◌≤◌}
use native.Mathlib.Omega.{arith}
use lib.ListN.{length, drop}
use Rattle.property_lists.specs.declared.Property.{Property}
use Rattle.property_lists.specs.declared.Property.TheVariants as property
use Rattle.property_lists.specs.declared.PropertyRead.{PropertyRead}
use Rattle.property_lists.specs.declared.PropertyRead.TheVariants as read
use Rattle.property_lists.specs.Properties.{least_bytes, least_read, place_property, property_after, ReadsProperty}

pub property_at_lem : (text : List ℕ) {o : Option (Property × List ℕ)} {at n : ℕ} {least : Property → ℕ} {p : Property} → o ≡ some (p, drop n text) →
    (at ≤ length text → at + least p ≤ n) → n ≤ length text → ReadsProperty o text at least (read.Read p n)
property_at_lem text e l h = record { is = sym e; low = l; high = h }

pub property_none : (text : List ℕ) {o : Option (Property × List ℕ)} {at : ℕ} {least : Property → ℕ} → o ≡ none → ReadsProperty o text at least read.Refused
property_none text e = record { is = sym e; low = λ _. omega arith; high = omega arith }

-- from a place before
pub property_from_lem : {o o' : Option (Property × List ℕ)} {text : List ℕ} {at i : ℕ} {least least' : Property → ℕ} (r : PropertyRead) →
    ReadsProperty o text i least r → o ≡ o' → (at ≤ length text → ((p : Property) → at + least' p ≤ i + least p) × (i ≤ length text)) →
    ReadsProperty o' text at least' r
property_from_lem (read.Read p n) q e f =
    record { is = q.is ∙ e; low = λ h. let g = f h in omega (arith, g.0 p, q.low g.1); high = q.high }
property_from_lem read.Refused q e f = record { is = q.is ∙ e; low = λ _. omega arith; high = omega arith }

-- what is known of an answer
module _ {o : Option (Property × List ℕ)} {text : List ℕ} {at : ℕ} {least : Property → ℕ} {r : PropertyRead} (q : ReadsProperty o text at least r) where
  pub read_at : {p : Property} {n : ℕ} → r ≡ read.Read p n → (o ≡ some (p, drop n text)) × (at ≤ length text → at + least p ≤ n) × (n ≤ length text)
  read_at e =
      (sym q.is ∙ ap (property_after text) e, λ h. rw e at (q.low h), rw e at q.high)

  pub read_none : r ≡ read.Refused → o ≡ none
  read_none e = sym q.is ∙ ap (property_after text) e

-- no property is shorter
pub four_bytes : (p : Property) → least_bytes p ≤ 4
four_bytes property.Ended = omega arith
four_bytes property.Closed = omega arith
four_bytes property.Comment = omega arith
four_bytes (property.Boundary c) = omega arith
four_bytes property.Table = omega arith
four_bytes (property.Label c) = omega arith
four_bytes property.Stop = omega arith
four_bytes (property.Skip n) = omega arith
four_bytes (property.Ligature op right inserted) = omega arith
four_bytes (property.Kern right bits) = omega arith
