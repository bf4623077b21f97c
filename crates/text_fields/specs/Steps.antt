-- What the steps of reading a field (R186, R187) promise. A part of a text is `slice from end text`.
use Rattle.std.specs.Prelude.{◌≡◌, List, ℕ, ◌+◌, ◌<◌, ◌≤◌, length, get_or, take, drop}
use Rattle.std.proofs.Math.Option.{Option, none, some}
use Rattle.std.proofs.Math.Seq.{slice}
use Rattle.columns.specs.Numbers.{read_field}
use Rattle.text_fields.specs.declared.numbers.Decimal.{Decimal}
use Rattle.text_fields.specs.declared.numbers.Decimal.TheVariants as decimal

-- the value of digits; none where they are no number
abbrev pub digits_of : Decimal → Option ℕ
digits_of (decimal.Value n) = some n
digits_of decimal.Nothing = none

-- a part of a field: of 12 columns at most
pub record WithinText (text : List ℕ) (from end : ℕ) : Type 0 where
  pub order : from ≤ end
  pub few : end ≤ from + 12
  pub inside : end ≤ length text

-- the field from a place on ends here
pub record EndsField (text : List ℕ) (at r : ℕ) : Type 0 where
  pub part : WithinText text at r
  pub is : take 12 (drop at text) ≡ slice at r text

-- only blanks stand between two places: a field reads from the second as from the first
pub record Blank (text : List ℕ) (from to : ℕ) : Type 0 where
  pub reads : (end : ℕ) → to ≤ end → end ≤ length text → read_field (slice from end text) ≡ read_field (slice to end text)

-- n bytes as one number, the first lowest: below a limit, and all of them blanks where it is `blank`
pub record Blanks (text : List ℕ) (at n limit blank r : ℕ) : Type 0 where
  pub below : r < limit
  pub all : r ≡ blank → Blank text at (at + n)

-- the blanks from a place on end here
pub record BlanksEnd (text : List ℕ) (from end r : ℕ) : Type 0 where
  pub after : from ≤ r
  pub before : r ≤ end
  pub blank : Blank text from r
  pub other : r < end → get_or text r 0 ≡ 32 → ⊥

-- a part of a field that does not start with a blank
pub record Unblank (text : List ℕ) (from end : ℕ) : Type 0 where
  pub part : WithinText text from end
  pub other : from < end → get_or text from 0 ≡ 32 → ⊥
