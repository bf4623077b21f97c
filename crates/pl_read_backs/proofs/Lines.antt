-- Each line as it is written, read again as its property.
-- Assumes nothing.
use mathlib.Core.Path.{◌≡◌, refl, ap, sym, ◌∙◌}
use mathlib.Core.Bool.{Bool, true, false, cond}
use mathlib.Core.List.{List, [], ◌∷◌, ◌++◌, append_assoc}
use mathlib.Core.Option.{Option, none, some}
use Prim.Native.Nat.{ℕ, zero, suc, ◌+◌, ◌*◌, ◌<◌, ◌≤◌}
use native.Mathlib.Omega.{arith}
use lib.IntN.{ℤ, pos, negsuc}
use lib.ListN.{length}
use Rattle.words.specs.Lists.{tabulate}
use Rattle.lang.specs.Operations.{is_standard}
use Rattle.lang.proofs.Table.{agree_below}
use Rattle.property_lists.specs.RealTexts.{real_text}
use Rattle.property_lists.specs.Displays.{octal_char, line_end, label_line, boundary_label_line, lig_name, lig_line, krn_line, next_line, boundary_line}
use Rattle.property_lists.specs.Chars.{then_by, pass_over, past_name, past_comment}
use Rattle.property_lists.specs.Values.{byte_digits, byte_value, real_value}
use Rattle.property_lists.specs.declared.Property.{Property}
use Rattle.property_lists.specs.declared.Property.TheVariants as property
use Rattle.property_lists.specs.Properties.{first_named, closed_by, ligature_from, kern_from, property_at}
use Rattle.pl_read_backs.proofs.Values.{char_before_paren, char_before_blank, bits_read, size_of, real_read}

-- ---- lines of a number below 256

pub label_read : (r : List ℕ) (c : ℕ) → c < 256 → property_at (label_line c ++ r) ≡ some (property.Label c, 10 ∷ r)
unfolding pass_over byte_digits tabulate past_name first_named
label_read r = agree_below (λ c. property_at (label_line c ++ r)) (λ c. some (property.Label c, 10 ∷ r)) 256 refl

pub boundary_read : (r : List ℕ) (c : ℕ) → c < 256 → property_at (boundary_line (pos c) ++ r) ≡ some (property.Boundary c, 10 ∷ r)
unfolding pass_over byte_digits tabulate past_name first_named
boundary_read r = agree_below (λ c. property_at (boundary_line (pos c) ++ r)) (λ c. some (property.Boundary c, 10 ∷ r)) 256 refl

pub skip_read : (r : List ℕ) (n : ℕ) → n < 127 → property_at (next_line (pos (suc n)) ++ r) ≡ some (property.Skip (suc n), 10 ∷ r)
unfolding pass_over byte_digits tabulate past_name first_named
skip_read r = agree_below (λ n. property_at (next_line (pos (suc n)) ++ r)) (λ n. some (property.Skip (suc n), 10 ∷ r)) 127 refl

-- ---- lines that are always the same

pub boundary_label_read : (r : List ℕ) → property_at (boundary_label_line ++ r) ≡ some (property.Label 256, 10 ∷ r)
unfolding pass_over past_name first_named
boundary_label_read r = refl

pub stop_read : (r : List ℕ) (n : ℕ) → property_at (next_line (negsuc n) ++ r) ≡ some (property.Stop, 10 ∷ r)
unfolding pass_over past_name first_named
stop_read r n = refl

pub table_read : (r : List ℕ) → property_at (40 ∷ 76 ∷ 73 ∷ 71 ∷ 84 ∷ 65 ∷ 66 ∷ 76 ∷ 69 ∷ 10 ∷ r) ≡ some (property.Table, 10 ∷ r)
unfolding pass_over past_name first_named
table_read r = refl

pub closed_read : (r : List ℕ) → property_at (32 ∷ 32 ∷ 32 ∷ 41 ∷ 10 ∷ r) ≡ some (property.Closed, 10 ∷ r)
unfolding pass_over
closed_read r = refl

-- a line's end in front of a property is a blank
pub line_feed_read : (r : List ℕ) → property_at (10 ∷ r) ≡ property_at r
unfolding pass_over
line_feed_read r = refl

-- ---- ligatures

assoc_3 : (a b c r : List ℕ) → (a ++ (b ++ c)) ++ r ≡ a ++ (b ++ (c ++ r))
assoc_3 a b c r = simp append_assoc

lig_named : (r : List ℕ) (op : ℕ) → op < 128 →
    cond (is_standard op) (property_at (32 ∷ 32 ∷ 32 ∷ 40 ∷ (lig_name op ++ (32 ∷ 79 ∷ r)))) none ≡
    cond (is_standard op) (ligature_from op (32 ∷ 79 ∷ r)) none
unfolding pass_over tabulate past_name first_named
lig_named r =
    agree_below (λ op. cond (is_standard op) (property_at (32 ∷ 32 ∷ 32 ∷ 40 ∷ (lig_name op ++ (32 ∷ 79 ∷ r)))) none)
    (λ op. cond (is_standard op) (ligature_from op (32 ∷ 79 ∷ r)) none) 128 refl

named : (r : List ℕ) (op : ℕ) → op < 128 → is_standard op ≡ true →
    property_at (32 ∷ 32 ∷ 32 ∷ 40 ∷ (lig_name op ++ (32 ∷ 79 ∷ r))) ≡ ligature_from op (32 ∷ 79 ∷ r)
named r op h s = by (is_standard op) s (lig_named r op h)
  where
    by : (t : Bool) → t ≡ true → cond t (property_at (32 ∷ 32 ∷ 32 ∷ 40 ∷ (lig_name op ++ (32 ∷ 79 ∷ r)))) none ≡ cond t (ligature_from op (32 ∷ 79 ∷ r)) none →
        property_at (32 ∷ 32 ∷ 32 ∷ 40 ∷ (lig_name op ++ (32 ∷ 79 ∷ r))) ≡ ligature_from op (32 ∷ 79 ∷ r)
    by true e q = q
    by false e q = let z : ◌≡◌ {A = ℕ} 0 1 = ap (λ (b : Bool). cond b 1 0) e in absurd (omega arith)

chars_read : (op right inserted : ℕ) (r : List ℕ) → right < 256 → inserted < 256 →
    ligature_from op (octal_char right ++ (octal_char inserted ++ (41 ∷ 10 ∷ r))) ≡ some (property.Ligature op right inserted, 10 ∷ r)
unfolding pass_over
chars_read op right inserted r h l =
    rw (char_before_blank _ right h, char_before_paren (10 ∷ r) inserted l)

pub lig_read : (op right inserted : ℕ) (r : List ℕ) → op < 128 → is_standard op ≡ true → right < 256 → inserted < 256 →
    property_at (lig_line op right inserted ++ r) ≡ some (property.Ligature op right inserted, 10 ∷ r)
lig_read op right inserted r h s a b =
    ap (λ (t : List ℕ). property_at (32 ∷ 32 ∷ 32 ∷ 40 ∷ t))
    (append_assoc (lig_name op) (octal_char right ++ (octal_char inserted ++ line_end)) r
    ∙ ap (λ (t : List ℕ). lig_name op ++ t) (assoc_3 (octal_char right) (octal_char inserted) line_end r))
    ∙ named _ op h s ∙ chars_read op right inserted r a b

-- ---- kerns

kern_read : (right : ℕ) (z : ℤ) (r : List ℕ) → right < 256 → size_of z < 2147483648 →
    kern_from (octal_char right ++ (32 ∷ 82 ∷ 32 ∷ (real_text z ++ (41 ∷ 10 ∷ r)))) ≡ some (property.Kern right (bits_read z), 10 ∷ r)
unfolding pass_over
kern_read right z r h l = rw (char_before_blank _ right h, real_read z l (10 ∷ r))

pub krn_read : (right : ℕ) (z : ℤ) (r : List ℕ) → right < 256 → size_of z < 2147483648 →
    property_at (krn_line right z ++ r) ≡ some (property.Kern right (bits_read z), 10 ∷ r)
unfolding pass_over past_name first_named
krn_read right z r h l =
    ap (λ (t : List ℕ). property_at (32 ∷ 32 ∷ 32 ∷ 40 ∷ 75 ∷ 82 ∷ 78 ∷ t))
    (append_assoc (octal_char right) (32 ∷ 82 ∷ 32 ∷ (real_text z ++ line_end)) r
    ∙ ap (λ (t : List ℕ). octal_char right ++ (32 ∷ 82 ∷ 32 ∷ t)) (append_assoc (real_text z) line_end r))
    ∙ kern_read right z r h l
