-- Lines that are written are read back, where none has a line feed in it, and a written line has none. A text of lines is empty or ends in a line feed.
-- Assumes nothing.
use mathlib.Core.Path.{◌≡◌, refl, ap}
use mathlib.Core.Bool.{Bool, true, false, cond}
use mathlib.Core.List.{List, [], ◌∷◌, ◌++◌, map, append_assoc}
use mathlib.Core.Logic.{◌⊎◌, inl, inr}
use mathlib.Core.Option.{some}
use Prim.Native.Nat.{ℕ, zero, suc, ◌+◌, ◌-◌, ◌/◌, ◌%◌}
use native.Mathlib.Omega.{arith}
use lib.IntN.{ℤ, pos, negsuc}
use lib.Dec.{ltb}
use lib.ListN.{length, replicate}
use borrow.Author.Tests.{ne_eqb}
use Rattle.words.specs.Lists.{tabulate}
use Rattle.columns.specs.Numbers.{digits, spelled}
use Rattle.columns.specs.Lines.{Line, on_first, after_feed, lines_of, fields_of, write_line, text_of}
use Rattle.columns.specs.Purpose.{all_i32}

-- ---- the end of a text

pub text_ends : (ls : List (List ℕ)) → (text_of ls ≡ []) ⊎ ((bs : List ℕ) × (text_of ls ≡ bs ++ (10 ∷ [])))
unfolding text_of
text_ends [] = inl refl
text_ends (l ∷ ls) = inr (by (text_ends ls))
  where
    by : (text_of ls ≡ []) ⊎ ((bs : List ℕ) × (text_of ls ≡ bs ++ (10 ∷ []))) → (bs : List ℕ) × (l ++ (10 ∷ text_of ls) ≡ bs ++ (10 ∷ []))
    by (inl e) = (l, rw e)
    by (inr h) = (l ++ (10 ∷ h.0), rw (h.1, append_assoc l (10 ∷ h.0) (10 ∷ [])))

-- ---- bytes without a line feed

pub data Unfed : List ℕ → Type 0 where
  none : Unfed []
  byte : (b : ℕ) {bs : List ℕ} → (b ≡ 10 → ⊥) → Unfed bs → Unfed (b ∷ bs)

unfed_both : {cs bs : List ℕ} → Unfed cs → Unfed bs → Unfed (cs ++ bs)
unfed_both none u = u
unfed_both (byte b h t) u = byte b h (unfed_both t u)

blanks_unfed : (n : ℕ) → Unfed (replicate n 32)
blanks_unfed zero = none
blanks_unfed (suc n) = byte 32 (λ e. omega (arith, e)) (blanks_unfed n)

digits_unfed : (f n : ℕ) → Unfed (digits f n)
unfolding digits
digits_unfed zero n = none
digits_unfed (suc f) n = by (ltb n 10) (digits_unfed f (n / 10))
  where
    by : (t : Bool) → Unfed (digits f (n / 10)) → Unfed (cond t ((48 + n) ∷ []) (digits f (n / 10) ++ ((48 + n % 10) ∷ [])))
    by true u = byte (48 + n) (λ e. omega (arith, e)) none
    by false u = unfed_both u (byte (48 + n % 10) (λ e. omega (arith, e)) none)

spelled_unfed : (z : ℤ) → Unfed (spelled z)
spelled_unfed (pos n) = digits_unfed 10 n
spelled_unfed (negsuc n) = byte 45 (λ e. omega (arith, e)) (digits_unfed 10 (suc n))

pub fields_unfed : (zs : List ℤ) → Unfed (fields_of zs)
unfolding fields_of
fields_unfed [] = none
fields_unfed (z ∷ zs) = unfed_both (unfed_both (blanks_unfed (12 - length (spelled z))) (spelled_unfed z)) (fields_unfed zs)

-- ---- lines

pub line_back : {l : List ℕ} → Unfed l → (bs : List ℕ) (ls : List (List ℕ)) → lines_of bs ≡ some ls → lines_of (l ++ (10 ∷ bs)) ≡ some (l ∷ ls)
unfolding lines_of
line_back none bs ls e = ap after_feed e
line_back (byte b h u) bs ls e = rw (ne_eqb b 10 h) (ap (on_first b) (line_back u bs ls e))

-- a line that is read back: its letter is no line feed, and its numbers are i32
pub record Writable (l : Line) : Type 0 where
  pub letter : (l.letter ≡ 10 → ⊥)
  pub fits : all_i32 l.numbers ≡ true

pub data AllWritable : List Line → Type 0 where
  none : AllWritable []
  line : {l : Line} {ls : List Line} → Writable l → AllWritable ls → AllWritable (l ∷ ls)

pub lines_back : {ls : List Line} → AllWritable ls → lines_of (text_of (map write_line ls)) ≡ some (map write_line ls)
unfolding lines_of text_of
lines_back none = refl
lines_back (line {l = l} {ls = ls} h t) =
    line_back (byte l.letter h.letter (fields_unfed l.numbers)) (text_of (map write_line ls)) (map write_line ls) (lines_back t)

pub writable_both : {ls ks : List Line} → AllWritable ls → AllWritable ks → AllWritable (ls ++ ks)
writable_both none u = u
writable_both (line h t) u = line h (writable_both t u)

pub writable_tabulated : (n : ℕ) (f : ℕ → Line) → ((i : ℕ) → Writable (f i)) → AllWritable (tabulate n f)
unfolding tabulate
writable_tabulated zero f h = none
writable_tabulated (suc n) f h = writable_both (writable_tabulated n f h) (line (h n) none)
