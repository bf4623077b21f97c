-- A line of n numbers (R185), from the byte after its letter on, and what is stored of it. The contracts of crate text_line_numbers.
use Rattle.std.specs.Prelude.{◌≡◌, Bool, true, false, cond, List, [], ◌∷◌, map, ℕ, zero, suc, ◌+◌, ◌*◌, ℤ, leb, ltb, eqb, length, get_or, take, drop}
use Rattle.std.proofs.Math.Option.{Option, none, some}
use Rattle.std.proofs.lemmas.List.Edits.{sets}
use Rattle.words.specs.Words.{word_of}
use Rattle.lang.specs.Every.{both}
use Rattle.columns.specs.Numbers.{read_field}
use Rattle.columns.specs.Lines.{read_fields}

-- ---- a line of n numbers

-- n fields, and a line feed
abbrev pub line_ends : ℕ → List ℕ → Bool
line_ends n bs = both (ltb (12 * n) (length bs)) (eqb (get_or bs (12 * n) 0) 10)

-- the n numbers of such a line; none where it is no such line or a field is unreadable
abbrev pub numbers_on : ℕ → List ℕ → Option (List ℤ)
numbers_on n bs = cond (line_ends n bs) (read_fields n bs) none

-- .. where there is room for them
abbrev pub numbers_in : ℕ → ℕ → List ℕ → Option (List ℤ)
numbers_in room n bs = cond (leb n room) (numbers_on n bs) none

-- .. from a place of a list on
abbrev pub numbers_at : ℕ → ℕ → ℕ → List ℕ → Option (List ℤ)
numbers_at long place n bs = cond (leb (place + n) long) (numbers_on n bs) none

-- one
abbrev pub number_on : List ℕ → Option ℤ
number_on bs = cond (line_ends 1 bs) (read_field (take 12 bs)) none

-- ---- stored

-- a number and those after it; none where it is unreadable
abbrev pub or_stop : Option ℤ → List ℤ → List ℤ
or_stop none zs = []
or_stop (some z) zs = z ∷ zs

-- the numbers of n fields, up to the first that is unreadable
unfoldable pub leading_fields : ℕ → List ℕ → List ℤ
leading_fields zero bs = []
leading_fields (suc n) bs = or_stop (read_field (take 12 bs)) (leading_fields n (drop 12 bs))

-- those that are stored of a line: none where it is no line of n numbers
abbrev pub leading_on : ℕ → List ℕ → List ℤ
leading_on n bs = cond (line_ends n bs) (leading_fields n bs) []

-- .. or has no room
abbrev pub leading_in : ℕ → ℕ → List ℕ → List ℤ
leading_in room n bs = cond (leb n room) (leading_on n bs) []

-- .. from a place of a list on
abbrev pub leading_at : ℕ → ℕ → ℕ → List ℕ → List ℤ
leading_at long place n bs = cond (leb (place + n) long) (leading_on n bs) []

-- the numbers that were read, by their 32 bits
abbrev pub words_of : Option (List ℤ) → Option (List ℕ)
words_of none = none
words_of (some zs) = some (map word_of zs)

-- something was read
abbrev pub is_some {ℓ} : {A : Type ℓ} → Option A → Bool
is_some none = false
is_some (some x) = true

-- whether something was read; and the values vs stored from a place on, which are also known where it was not: those of the fields
-- before the one that is unreadable
pub record Stores {A : Type 0} (o : Option (List A)) (vs list : List A) (place : ℕ) (r : Bool) (list' : List A) : Type 0 where
  pub answer : r ≡ is_some o
  pub stored : list' ≡ sets list place vs
