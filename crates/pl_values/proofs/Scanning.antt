-- The contract of functions that read a number from a place of a text on.
-- Assumes nothing.
use mathlib.Core.Path.{◌≡◌, sym, ap, ◌∙◌}
use mathlib.Core.List.{List}
use mathlib.Core.Option.{Option, none, some}
use Prim.Native.Nat.{ℕ, ◌+◌, ◌≤◌}
use native.Mathlib.Omega.{arith}
use lib.ListN.{length, drop}
use Rattle.property_lists.specs.declared.ValueRead.{ValueRead}
use Rattle.property_lists.specs.declared.ValueRead.TheVariants as read
use Rattle.property_lists.specs.Values.{number_after, Scans}

pub scanned_at : (text : List ℕ) {o : Option (ℕ × List ℕ)} {at least v n : ℕ} → o ≡ some (v, drop n text) → (at ≤ length text → at + least ≤ n) →
    n ≤ length text → Scans o text at least (read.Value v n)
scanned_at text e l h = record { is = sym e; low = l; high = h }

pub scanned_none : (text : List ℕ) {o : Option (ℕ × List ℕ)} {at least : ℕ} → o ≡ none → Scans o text at least read.Refused
scanned_none text e = record { is = sym e; low = λ _. omega arith; high = omega arith }

-- from a place before
pub scanned_from : {o o' : Option (ℕ × List ℕ)} {text : List ℕ} {at l i k : ℕ} (r : ValueRead) → Scans o text i k r → o ≡ o' →
    (at ≤ length text → (at + l ≤ i + k) × (i ≤ length text)) → Scans o' text at l r
scanned_from (read.Value v n) p e f =
    record { is = p.is ∙ e; low = λ h. let g = f h in omega (arith, g.0, p.low g.1); high = p.high }
scanned_from read.Refused p e f = record { is = p.is ∙ e; low = λ _. omega arith; high = omega arith }

-- what is known of an answer
module _ {o : Option (ℕ × List ℕ)} {text : List ℕ} {at least : ℕ} {r : ValueRead} (p : Scans o text at least r) where
  pub value_at : {v n : ℕ} → r ≡ read.Value v n → (o ≡ some (v, drop n text)) × (at ≤ length text → at + least ≤ n) × (n ≤ length text)
  value_at e = (sym p.is ∙ ap (number_after text) e, λ h. rw e at (p.low h), rw e at p.high)

  pub value_none : r ≡ read.Refused → o ≡ none
  value_none e = sym p.is ∙ ap (number_after text) e
