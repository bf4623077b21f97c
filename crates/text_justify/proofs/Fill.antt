-- Numbers as fields: blanks, and numbers spelled over them, one after the other.
-- Assumes nothing.
use mathlib.Core.Path.{◌≡◌, refl, sym, ap, subst, ◌∙◌}
use mathlib.Core.List.{List, [], ◌∷◌, ◌++◌, append_assoc, append-nil}
use Prim.Native.Nat.{ℕ, suc, ◌+◌, ◌-◌, ◌*◌, ◌<◌}
use native.Mathlib.Numerals.{add-one}
use native.Mathlib.Omega.{arith}
use lib.IntN.{ℤ, pos}
use lib.ListN.{length, get_or, replicate, length-append, replicate-append-replicate}
use lib.Seq.{sets}
use Rattle.words.specs.Words.{Word}
use Rattle.words.specs.Lists.{tabulate}
use Rattle.words.proofs.Bits.{number_is}
use Rattle.words.proofs.Lists.{sets_append, length_tabulate}
use Rattle.columns.specs.Numbers.{spelled, field_of}
use Rattle.columns.specs.Lines.{fields_of}
use Rattle.columns.proofs.ReadBack.{field_long, fields_long}
use Rattle.text_digits.specs.Spelling.{spells}
use Rattle.text_digits.proofs.Stores.{sets_first, sets_after, sets_end}
use Rattle.text_digits.proofs.Decimal.{few_bytes}
use Rattle.text_justify.specs.InFields.{numbers_from, five_from}

pub fields_append : (ys zs : List ℤ) → fields_of (ys ++ zs) ≡ fields_of ys ++ fields_of zs
unfolding fields_of
fields_append [] zs = refl
fields_append (y ∷ ys) zs = ap (λ (t : List ℕ). field_of y ++ t) (fields_append ys zs) ∙ sym (append_assoc (field_of y) (fields_of ys) (fields_of zs))

pub fields_one : (z : ℤ) → fields_of (z ∷ []) ≡ field_of z
unfolding fields_of
fields_one z = append-nil (field_of z)

-- ---- of a list
module _ (numbers : List ℤ) (from : ℕ) where
  pub from_length : (n : ℕ) → length (fields_of (numbers_from numbers from n)) ≡ 12 * n
  from_length n = fields_long (numbers_from numbers from n) ∙ ap (λ (k : ℕ). 12 * k) (length_tabulate n (λ j. get_or numbers (from + j) (pos 0)))

-- the fields of some numbers, and blanks in so many more
abbrev pub filled : List ℕ → ℕ → List ℤ → ℕ → List ℕ
filled l at zs m = sets l at (fields_of zs ++ replicate (12 * m) 32)

module _ (l : List ℕ) (at : ℕ) where
  pub filled_none : (n : ℕ) → sets l at (replicate (12 * n) 32) ≡ filled l at [] n
  unfolding fields_of
  filled_none n = refl

  pub filled_all : (zs : List ℤ) → filled l at zs 0 ≡ sets l at (fields_of zs)
  filled_all zs = ap (sets l at) (append-nil (fields_of zs))

  -- one more spelled over the blanks
  pub filled_more : (zs : List ℤ) (m : ℕ) {d d' : List ℕ} {w next : ℕ} {z : ℤ} → next ≡ at + 12 * length zs → d ≡ filled l at zs (suc m) → Word z w →
      d' ≡ spells d next w → d' ≡ filled l at (zs ++ (z ∷ [])) m
  filled_more zs m {d} {d'} {w} {next} {z} h e r g =
      let fs = fields_of zs in
      let b = replicate {A = ℕ} 12 32 in
      let rest = replicate {A = ℕ} (12 * m) 32 in
      let s = spelled z in
      let x = sets l at fs in
      let p : next ≡ at + length fs = omega (arith, fields_long zs) in
      let twelve : 12 * suc m ≡ 12 + 12 * m = omega arith in
      let more : replicate {A = ℕ} (12 * suc m) 32
      ≡ b ++ rest = ap (λ (k : ℕ). replicate {A = ℕ} k 32) twelve ∙ sym (replicate-append-replicate 12 (12 * m) 32) in
      let blanks : d ≡ sets (sets x next b) (next + 12) rest =
      e ∙ ap (λ (t : List ℕ). sets l at (fs ++ t)) more ∙ sets_append fs (b ++ rest) l at ∙ ap (λ (k : ℕ). sets x k (b ++ rest)) (sym p)
      ∙ sets_append b rest x next in
      let spelt : d' ≡ sets (sets x next (field_of z)) (next + 12) rest =
      g ∙ ap (λ (y : ℤ). sets d (next + (12 - length (spelled y))) (spelled y)) (number_is r)
      ∙ ap (λ (t : List ℕ). sets t (next + (12 - length s)) s) blanks
      ∙ sets_first s rest (sets x next b) (next + 12) (next + (12 - length s)) (omega (arith, few_bytes z))
      ∙ ap (λ (t : List ℕ). sets t (next + 12) rest) (sets_end 12 32 s x next (next + (12 - length s)) (few_bytes z) (omega (arith, few_bytes z))) in
      let one : fs ++ field_of z ≡ fields_of (zs ++ (z ∷ [])) = ap (λ (t : List ℕ). fs ++ t) (sym (fields_one z)) ∙ sym (fields_append zs (z ∷ [])) in
      sets_after (fs ++ field_of z) rest l (sets x next (field_of z)) d' at (next + 12)
      (sets_after fs (field_of z) l x (sets x next (field_of z)) at next refl p refl)
      (omega (arith, p, field_long z, length-append fs (field_of z)))
      spelt
      ∙ ap (λ (t : List ℕ). sets l at (t ++ rest)) one

  -- .. of a list: none, and one more
  pub fields_none : (numbers : List ℤ) (from n : ℕ) {d : List ℕ} → d ≡ sets l at (replicate (12 * n) 32) → d ≡ filled l at (numbers_from numbers from 0) (n - 0)
  unfolding tabulate
  fields_none numbers from n e =
      let o : n ≡ n - 0 = omega arith in
      e ∙ filled_none n ∙ ap (filled l at []) o

  pub fields_more : (numbers : List ℤ) (from n j : ℕ) → j < n → {d d' : List ℕ} {w next : ℕ} → next ≡ at + 12 * j →
      d ≡ filled l at (numbers_from numbers from j) (n - j) → Word (get_or numbers (from + j) (pos 0)) w → d' ≡ spells d next w →
      d' ≡ filled l at (numbers_from numbers from (j + 1)) (n - (j + 1))
  unfolding tabulate
  fields_more numbers from n j o {d} {d'} {w} {next} h e r g =
      let zs = numbers_from numbers from j in
      let z = get_or numbers (from + j) (pos 0) in
      let k : n - j ≡ suc (n - (j + 1)) = omega arith in
      let q : next ≡ at + 12 * length zs = omega (arith, length_tabulate j (λ i. get_or numbers (from + i) (pos 0))) in
      filled_more zs (n - (j + 1)) q (e ∙ ap (filled l at zs) k) r g
      ∙ ap (λ (i : ℕ). filled l at (numbers_from numbers from i) (n - (j + 1))) (sym (add-one j))

-- ---- five of a pair's six numbers

-- their bits, each spelled over the blanks
module _ (pairs : List ℤ) (first : ℕ) (l : List ℕ) (at : ℕ) where
  abbrev pub number_from : ℕ → ℤ
  number_from j = get_or pairs (first + j) (pos 0)

  pub five_filled : {d₀ d₁ d₂ d₃ d₄ d₅ : List ℕ} {w₀ w₁ w₂ w₃ w₅ : ℕ} → d₀ ≡ sets l at (replicate 60 32) → Word (get_or pairs first (pos 0)) w₀ →
      d₁ ≡ spells d₀ at w₀ → Word (number_from 1) w₁ → d₂ ≡ spells d₁ (at + 12) w₁ → Word (number_from 2) w₂ → d₃ ≡ spells d₂ (at + 24) w₂ →
      Word (number_from 3) w₃ → d₄ ≡ spells d₃ (at + 36) w₃ → Word (number_from 5) w₅ → d₅ ≡ spells d₄ (at + 48) w₅ →
      d₅ ≡ sets l at (fields_of (five_from pairs first))
  unfolding tabulate
  five_filled {w₀ = w₀} e r₀ g₀ r₁ g₁ r₂ g₂ r₃ g₃ r₅ g₅ =
      let o : first ≡ first + 0 = omega arith in
      let q₀ = subst (λ (i : ℕ). Word (get_or pairs i (pos 0)) w₀) o r₀ in
      let f₁ = filled_more l at [] 4 {z = number_from 0} (omega arith) (e ∙ filled_none l at 5) q₀ g₀ in
      let f₂ = filled_more l at (number_from 0 ∷ []) 3 {z = number_from 1} (omega arith) f₁ r₁ g₁ in
      let f₃ = filled_more l at (number_from 0 ∷ number_from 1 ∷ []) 2 {z = number_from 2} (omega arith) f₂ r₂ g₂ in
      let f₄ = filled_more l at (number_from 0 ∷ number_from 1 ∷ number_from 2 ∷ []) 1 {z = number_from 3} (omega arith) f₃ r₃ g₃ in
      let f₅ = filled_more l at (number_from 0 ∷ number_from 1 ∷ number_from 2 ∷ number_from 3 ∷ []) 0 {z = number_from 5} (omega arith) f₄ r₅ g₅ in
      f₅ ∙ filled_all l at (five_from pairs first)

  -- four, and one
  pub five_parts : {d d' : List ℕ} → d ≡ sets l at (fields_of (numbers_from pairs first 4)) → d' ≡ sets d (at + 48) (fields_of (numbers_from pairs (first + 5) 1)) →
      d' ≡ sets l at (fields_of (five_from pairs first))
  unfolding tabulate
  five_parts {d} {d'} e g =
      let zs = numbers_from pairs first 4 in
      let p : at + 48 ≡ at + length (fields_of zs) = omega (arith, from_length pairs first 4) in
      let o : first + 5 + 0 ≡ first + 5 = omega arith in
      sets_after (fields_of zs) (fields_of (get_or pairs (first + 5 + 0) (pos 0) ∷ [])) l d d' at (at + 48) e p g
      ∙ ap (sets l at) (sym (fields_append zs (get_or pairs (first + 5 + 0) (pos 0) ∷ [])) ∙ ap (λ (i : ℕ). fields_of (zs ++ (get_or pairs i (pos 0) ∷ []))) o)
