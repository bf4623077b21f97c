-- What holds of every property that is read.
-- Assumes nothing.
use mathlib.Core.Path.{◌≡◌, refl}
use mathlib.Core.Bool.{Bool, true, false, cond, not}
use mathlib.Core.List.{List, [], ◌∷◌}
use mathlib.Core.Option.{Option, none, some}
use Prim.Native.Nat.{ℕ, ◌+◌, ◌-◌, ◌*◌, ◌%◌, ◌<◌, ◌≤◌}
use native.Mathlib.Omega.{arith}
use lib.Dec.{leb, ltb, eqb}
use borrow.Author.Tests.{leb-true, ltb-true}
use Rattle.lang.specs.Every.{both}
use Rattle.lang.proofs.Every.{both_left, both_right}
use Rattle.lang.specs.Operations.{is_standard}
use Rattle.property_lists.specs.declared.Property.{Property}
use Rattle.property_lists.specs.declared.Property.TheVariants as property
use Rattle.property_lists.specs.Chars.{upper_case, one_of, is_visible, is_paren, then_by, past_blanks, to_paren, past_comment, past_end, past_name}
use Rattle.property_lists.specs.Reals.{real_magnitude, real_decimals}
use Rattle.property_lists.specs.Values.{figure_of, byte_digits, char_value, face_of, face_value, typed_byte, by_type, byte_value, past_signs, whole_digits}
use Rattle.property_lists.specs.Values.{decimals_at, past_decimals, bits_of, real_from, real_digits, typed_real, real_value}
use Rattle.property_lists.specs.Properties.{common_names, ligature_names, or_named, first_named, name_at, closed_by, of_byte, label_from, label_at, kern_from}
use Rattle.property_lists.specs.Properties.{ligature_from, by_code, named_from, property_from, property_at}

-- ---- something holds of what a scanner gives, if it gives anything

pub data Gives {A : Type 0} (P : A → Type 0) : Option A → Type 0 where
  nothing : Gives P none
  this : {a : A} → P a → Gives P (some a)

pub given : {A : Type 0} {P : A → Type 0} {a : A} → Gives P (some a) → P a
given (this p) = p

pub then_gives : {A B : Type 0} {P : A → Type 0} {Q : B → Type 0} {o : Option A} (f : A → Option B) → Gives P o → ((a : A) → P a → Gives Q (f a)) →
    Gives Q (then_by o f)
then_gives f nothing h = nothing
then_gives f (this {a} p) h = h a p

-- whatever is given
pub any_gives : {A : Type 0} (o : Option A) → Gives (λ _. Unit {0}) o
any_gives none = nothing
any_gives (some a) = this tt

pub either_gives : {A : Type 0} {P : A → Type 0} (t : Bool) {a b : Option A} → (t ≡ true → Gives P a) → (t ≡ false → Gives P b) → Gives P (cond t a b)
either_gives true f g = f refl
either_gives false f g = g refl

-- ---- a byte

abbrev pub ByteRead : ℕ × List ℕ → Type 0
ByteRead v = v.0 ≤ 255

digits_give : (base n : ℕ) (bs : List ℕ) → n ≤ 255 → Gives ByteRead (byte_digits base n bs)
unfolding byte_digits
digits_give base n [] h = this h
digits_give base n (b ∷ bs) h =
    either_gives (ltb (figure_of b) base)
    (λ _. either_gives (leb (base * n + figure_of b) 255)
    (λ e. digits_give base (base * n + figure_of b) bs (leb-true (base * n + figure_of b) 255 e)) (λ _. nothing))
    (λ _. this h)

char_gives : (bs : List ℕ) → Gives ByteRead (char_value bs)
char_gives [] = nothing
char_gives (b ∷ bs) = either_gives (is_visible b) (λ e. this (few e)) (λ _. nothing)
  where
    few : is_visible b ≡ true → b ≤ 255
    few e =
        let r = both_right (leb 33 b) (both (leb b 126) (not (is_paren b))) e in
        let l = leb-true b 126 (both_left (leb b 126) (not (is_paren b)) r) in
        omega arith

face_gives : (bs : List ℕ) → Gives ByteRead (face_value bs)
face_gives [] = nothing
face_gives (a ∷ []) = nothing
face_gives (a ∷ b ∷ []) = nothing
face_gives (a ∷ b ∷ c ∷ bs) =
    either_gives (ltb (face_of a b c) 18) (λ e. this (let l = ltb-true (face_of a b c) 18 e in omega arith)) (λ _. nothing)

typed_gives : (t : ℕ) (bs : List ℕ) → Gives ByteRead (typed_byte t bs)
typed_gives t bs =
    either_gives (eqb t 67) (λ _. char_gives bs)
    (λ _. either_gives (eqb t 68) (λ _. digits_give 10 0 bs (omega arith))
    (λ _. either_gives (eqb t 79) (λ _. digits_give 8 0 bs (omega arith))
    (λ _. either_gives (eqb t 72) (λ _. digits_give 16 0 bs (omega arith))
    (λ _. either_gives (eqb t 70) (λ _. face_gives bs) (λ _. nothing)))))

byte_gives : (bs : List ℕ) → Gives ByteRead (byte_value bs)
byte_gives bs = then_gives (by_type typed_byte) (any_gives (past_blanks bs)) (λ r _. by r)
  where
    by : (r : List ℕ) → Gives ByteRead (by_type typed_byte r)
    by [] = nothing
    by (t ∷ r) = then_gives (typed_byte (upper_case t)) (any_gives (past_blanks r)) (λ q _. typed_gives (upper_case t) q)

-- ---- a real: the bits of an i32 other than -2 ^ 31

abbrev pub RealBits : ℕ → Type 0
RealBits w = (w < 4294967296) × (w ≡ 2147483648 → ⊥)

abbrev RealRead : ℕ × List ℕ → Type 0
RealRead v = RealBits v.0

bits_are : (minus m : ℕ) → m < 2147483648 → RealBits (bits_of minus m)
bits_are minus m h = by (eqb minus 1)
  where
    by : (t : Bool) → RealBits (cond t ((4294967296 - m) % 4294967296) m)
    by true = (omega arith, λ e. omega (arith, e))
    by false = (omega arith, λ e. omega (arith, e))

magnitude_gives : (whole : ℕ) (bs : List ℕ) → Gives (λ m. m < 2147483648) (real_magnitude whole bs)
magnitude_gives whole bs =
    either_gives (ltb (1048576 * whole + real_decimals bs) 2147483648)
    (λ e. this (ltb-true (1048576 * whole + real_decimals bs) 2147483648 e)) (λ _. nothing)

real_gives : (bs : List ℕ) → Gives RealRead (real_value bs)
real_gives bs = then_gives typed_real (any_gives (past_blanks bs)) (λ r _. by r)
  where
    from : (minus whole : ℕ) (r : List ℕ) → Gives RealRead (real_from minus whole r)
    from minus whole r =
        then_gives (λ m. some (bits_of minus m, past_decimals r)) (magnitude_gives whole (decimals_at r)) (λ m h. this (bits_are minus m h))

    digits : (s : ℕ × List ℕ) → Gives RealRead (real_digits s)
    digits s = then_gives (λ w. real_from s.0 w.0 w.1) (any_gives (whole_digits 0 s.1)) (λ w _. from s.0 w.0 w.1)

    by : (r : List ℕ) → Gives RealRead (typed_real r)
    by [] = nothing
    by (t ∷ r) =
        either_gives (one_of (eqb (upper_case t) 82) (eqb (upper_case t) 68))
        (λ _. then_gives real_digits (any_gives (past_signs false 0 r)) (λ s _. digits s)) (λ _. nothing)

-- ---- a name: the op byte that its code stands for is standard

abbrev standard_code : ℕ → Bool
standard_code code = is_standard ((code - 74) % 128)

abbrev NameRead : ℕ × List ℕ → Type 0
NameRead n = standard_code n.0 ≡ true

unfoldable standard_codes : List (ℕ × List ℕ) → Bool
standard_codes [] = true
standard_codes (n ∷ ns) = both (standard_code n.0) (standard_codes ns)

or_gives : {o : Option (ℕ × List ℕ)} (code : ℕ) (r : Option (List ℕ)) → standard_code code ≡ true → Gives NameRead o → Gives NameRead (or_named o code r)
or_gives code r e (this p) = this p
or_gives code none e nothing = nothing
or_gives code (some bs) e nothing = this e

first_gives : {o : Option (ℕ × List ℕ)} (ns : List (ℕ × List ℕ)) (bs : List ℕ) → standard_codes ns ≡ true → Gives NameRead o →
    Gives NameRead (first_named o ns bs)
unfolding first_named standard_codes
first_gives [] bs e g = g
first_gives {o = o} (n ∷ ns) bs e g =
    first_gives {o = or_named o n.0 (past_name n.1 bs)} ns bs (both_right (standard_code n.0) (standard_codes ns) e)
    (or_gives n.0 (past_name n.1 bs) (both_left (standard_code n.0) (standard_codes ns) e) g)

name_gives : (bs : List ℕ) → Gives NameRead (name_at bs)
unfolding standard_codes
name_gives bs = first_gives ligature_names bs refl (first_gives common_names bs refl nothing)

-- ---- a property

pub data InProperty : Property → Type 0 where
  a_comment : InProperty property.Comment
  a_boundary : (c : ℕ) → c ≤ 255 → InProperty (property.Boundary c)
  a_table : InProperty property.Table
  a_closing : InProperty property.Closed
  an_end : InProperty property.Ended
  a_label : (c : ℕ) → c ≤ 256 → InProperty (property.Label c)
  a_stop : InProperty property.Stop
  a_skip : (n : ℕ) → InProperty (property.Skip n)
  a_ligature : (op right inserted : ℕ) → is_standard (op % 128) ≡ true → InProperty (property.Ligature op right inserted)
  a_kern : (right bits : ℕ) → RealBits bits → InProperty (property.Kern right bits)

abbrev PropertyGiven : Property × List ℕ → Type 0
PropertyGiven p = InProperty p.0

closed_gives : (p : Property) (bs : List ℕ) → InProperty p → Gives PropertyGiven (closed_by p bs)
closed_gives p bs i = then_gives (λ rest. some (p, rest)) (any_gives (past_end bs)) (λ rest _. this i)

of_byte_gives : (f : ℕ → Property) → ((c : ℕ) → c ≤ 255 → InProperty (f c)) → (bs : List ℕ) → Gives PropertyGiven (of_byte f bs)
of_byte_gives f h bs = then_gives (λ v. closed_by (f v.0) v.1) (byte_gives bs) (λ v l. closed_gives (f v.0) v.1 (h v.0 l))

label_gives : (bs : List ℕ) → Gives PropertyGiven (label_at bs)
label_gives bs = then_gives label_from (any_gives (past_blanks bs)) (λ r _. by r)
  where
    by : (r : List ℕ) → Gives PropertyGiven (label_from r)
    by [] = nothing
    by (b ∷ r) =
        either_gives (eqb (upper_case b) 66)
        (λ _. then_gives (closed_by (property.Label 256)) (any_gives (to_paren r)) (λ q _. closed_gives (property.Label 256) q (a_label 256 (omega arith))))
        (λ _. of_byte_gives property.Label (λ c h. a_label c (omega arith)) (b ∷ r))

kern_gives : (bs : List ℕ) → Gives PropertyGiven (kern_from bs)
kern_gives bs =
    then_gives (λ v. then_by (real_value v.1) (λ w. closed_by (property.Kern v.0 w.0) w.1)) (byte_gives bs)
    (λ v _. then_gives (λ w. closed_by (property.Kern v.0 w.0) w.1) (real_gives v.1)
    (λ w h. closed_gives (property.Kern v.0 w.0) w.1 (a_kern v.0 w.0 h)))

ligature_gives : (op : ℕ) → is_standard (op % 128) ≡ true → (bs : List ℕ) → Gives PropertyGiven (ligature_from op bs)
ligature_gives op e bs =
    then_gives (λ v. then_by (byte_value v.1) (λ w. closed_by (property.Ligature op v.0 w.0) w.1)) (byte_gives bs)
    (λ v _. then_gives (λ w. closed_by (property.Ligature op v.0 w.0) w.1) (byte_gives v.1)
    (λ w h. closed_gives (property.Ligature op v.0 w.0) w.1 (a_ligature op v.0 w.0 e)))

code_gives : (code : ℕ) → standard_code code ≡ true → (bs : List ℕ) → Gives PropertyGiven (by_code code bs)
code_gives code e bs =
    either_gives (eqb code 0) (λ _. then_gives (λ rest. some (property.Comment, rest)) (any_gives (past_comment 0 bs)) (λ rest _. this a_comment))
    (λ _. either_gives (eqb code 10) (λ _. this a_table)
    (λ _. either_gives (eqb code 11) (λ _. of_byte_gives property.Boundary a_boundary bs)
    (λ _. either_gives (eqb code 70) (λ _. label_gives bs)
    (λ _. either_gives (eqb code 71) (λ _. closed_gives property.Stop bs a_stop)
    (λ _. either_gives (eqb code 72) (λ _. of_byte_gives property.Skip (λ n h. a_skip n) bs)
    (λ _. either_gives (eqb code 73) (λ _. kern_gives bs) (λ _. ligature_gives (code - 74) e bs)))))))

pub property_gives : (bs : List ℕ) → Gives PropertyGiven (property_at bs)
property_gives bs = then_gives property_from (any_gives (past_blanks bs)) (λ r _. by r)
  where
    named : (r : List ℕ) → Gives PropertyGiven (named_from r)
    named r = then_gives (λ n. by_code n.0 n.1) (name_gives r) (λ n e. code_gives n.0 e n.1)

    by : (r : List ℕ) → Gives PropertyGiven (property_from r)
    by [] = this an_end
    by (b ∷ r) =
        either_gives (eqb b 41) (λ _. this a_closing)
        (λ _. either_gives (eqb b 40) (λ _. then_gives named_from (any_gives (past_blanks r)) (λ q _. named q)) (λ _. nothing))
