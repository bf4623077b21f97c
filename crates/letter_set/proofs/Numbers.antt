-- The letters of a set by its numbers: one bit, the ones, and the lowest bit from a place on.
-- Assumes nothing.
use mathlib.Core.Path.{◌≡◌, refl, sym, ap, ap₂, ◌∙◌}
use mathlib.Core.Bool.{Bool, true, false, cond}
use mathlib.Core.List.{List}
use mathlib.Core.Logic.{◌⊎◌, inl, inr}
use mathlib.Core.Option.{none, some}
use Prim.Native.Nat.{ℕ, zero, suc, ◌+◌, ◌-◌, ◌*◌, ◌/◌, ◌%◌, ◌^◌, ◌<◌, ◌≤◌}
use native.Mathlib.Nat.{zero-add, add_assoc, add_comm, mul-le-mul, eq-or-lt_of_le, mod-eq_of_lt, div-eq_of_lt}
use native.Mathlib.Numerals.{add-one}
use native.Mathlib.Omega.{arith}
use lib.Count.{ones, count_trailing_zeros}
use lib.Dec.{ltb, eqb}
use lib.ListN.{get_or}
use lib.Pow.{pow-lt, shr-shr, shr_le, mod-pow-add}
use borrow.Author.Tests.{lt-ltb, le-ltb}
use Rattle.words.proofs.Tests.{less_or_not}
use Rattle.lang.specs.Every.{both}
use Rattle.compile_survey.specs.Bits.{bit_in, bit_at}
use Rattle.compile_survey.proofs.Bits.{bit_is, bit_few, none_set, Lowest, lowest_is}
use Rattle.index.specs.Index.{how_many, bits_by}
use Rattle.index.proofs.Bits.{bits_step, ones_bits}
use Rattle.index.proofs.Tests.{one, many_ext, many_add, many_le}
use Rattle.letter_set.specs.LetterSets.{letter_in, alphabet_size, least_from, letter_from}
use Rattle.letter_set.proofs.Least.{least_zero, least_here, least_skip}

-- bit i of a number, as a test
abbrev is_set : ℕ → ℕ → Bool
is_set n i = eqb (bit_in n i) 1

-- character i of number w
pub in_number : (letters : List ℕ) (w i : ℕ) → w < 4 → i < 64 → letter_in letters (64 * w + i) ≡ is_set (get_or letters w 0) i
in_number letters w i l k =
    let a : (64 * w + i) / 64 ≡ w = omega arith in
    let b : (64 * w + i) % 64 ≡ i = omega arith in
    let t : ltb (64 * w + i) 256 ≡ true = lt-ltb (64 * w + i) 256 (omega arith) in
    ap (λ (u : Bool). both u (eqb (bit_at letters (64 * w + i)) 1)) t ∙ ap₂ (λ (x y : ℕ). is_set (get_or letters x 0) y) a b

-- any character, as it is read
pub letter_is : (letters : List ℕ) (c n : ℕ) → c ≤ 255 → n ≡ get_or letters (c / 64) 0 → eqb (n / 2 ^ (c % 64) % 2) 1 ≡ letter_in letters c
letter_is letters c n h e =
    let d : 64 * (c / 64) + c % 64 ≡ c = omega arith in
    ap (λ (x : ℕ). eqb x 1) (sym (bit_is n (c % 64))) ∙ ap (λ (m : ℕ). is_set m (c % 64)) e
    ∙ sym (in_number letters (c / 64) (c % 64) (omega arith) (omega arith)) ∙ ap (letter_in letters) d

pub no_letter : (letters : List ℕ) (c : ℕ) → 255 < c → false ≡ letter_in letters c
no_letter letters c h = sym (ap (λ (u : Bool). both u (eqb (bit_at letters c) 1)) (le-ltb c 256 (omega arith)))

-- ---- ones

bit_one : (d : ℕ) → d < 2 → one (eqb d 1) ≡ d
bit_one zero h = refl
bit_one (suc zero) h = refl
bit_one (suc (suc d)) h = absurd (omega arith)

-- the low k bits of a number are the number of these bits
low_bits : (n k : ℕ) → bits_by k (is_set n) ≡ n % 2 ^ k
unfolding bits_by
low_bits n zero = omega arith
low_bits n (suc k) =
    bits_step k (is_set n)
    ∙ ap₂ (λ (a b : ℕ). a * 2 ^ k + b) (bit_one (bit_in n k) (bit_few n k) ∙ bit_is n k) (low_bits n k)
    ∙ sym (mod-pow-add n 1 k)
    ∙ ap (λ (m : ℕ). n % 2 ^ m) (add_comm 1 k ∙ add-one k)

pub ones_are : (n k : ℕ) → n < 2 ^ k → ones n ≡ how_many k (is_set n)
ones_are n k h = ap ones (sym (low_bits n k ∙ mod-eq_of_lt h)) ∙ ones_bits k (is_set n)

module _ (letters : List ℕ) where
  -- the letters of number w, the first of which is `at`
  number_ones : (w at : ℕ) {n : ℕ} → w < 4 → at ≡ 64 * w → n ≡ get_or letters w 0 → n < 2 ^ 64 → how_many 64 (λ i. letter_in letters (at + i)) ≡ ones n
  number_ones w at {n} l a e h =
      many_ext 64 (λ i. letter_in letters (at + i)) (is_set n)
      (λ i k. ap (λ (j : ℕ). letter_in letters (j + i)) a ∙ in_number letters w i l k ∙ ap (λ (m : ℕ). is_set m i) (sym e))
      ∙ sym (ones_are n 64 h)

  -- those of the numbers after one
  after : (at n : ℕ) → how_many (64 + n) (λ i. letter_in letters (at + i)) ≡
      how_many 64 (λ i. letter_in letters (at + i)) + how_many n (λ i. letter_in letters (at + 64 + i))
  after at n =
      many_add 64 n (λ i. letter_in letters (at + i))
      ∙ ap (λ (x : ℕ). how_many 64 (λ i. letter_in letters (at + i)) + x)
      (many_ext n (λ i. letter_in letters (at + (64 + i))) (λ i. letter_in letters (at + 64 + i)) (λ i _. ap (letter_in letters) (sym (add_assoc at 64 i))))

  pub size_is : {n₀ n₁ n₂ n₃ : ℕ} → n₀ ≡ get_or letters 0 0 → n₁ ≡ get_or letters 1 0 → n₂ ≡ get_or letters 2 0 → n₃ ≡ get_or letters 3 0 → n₀ < 2 ^ 64 → n₁ < 2 ^ 64 →
      n₂ < 2 ^ 64 → n₃ < 2 ^ 64 → ones n₀ + ones n₁ + (ones n₂ + ones n₃) ≡ alphabet_size letters
  size_is e₀ e₁ e₂ e₃ h₀ h₁ h₂ h₃ =
      let whole : alphabet_size letters ≡ how_many 256 (λ i. letter_in letters (0 + i)) =
      many_ext 256 (letter_in letters) (λ i. letter_in letters (0 + i)) (λ i _. ap (letter_in letters) (sym (zero-add i))) in
      omega (
        arith,
        whole,
        after 0 192,
        after 64 128,
        after 128 64,
        number_ones 0 0 (omega arith) (omega arith) e₀ h₀,
        number_ones 1 64 (omega arith) (omega arith) e₁ h₁,
        number_ones 2 128 (omega arith) (omega arith) e₂ h₂,
        number_ones 3 192 (omega arith) (omega arith) e₃ h₃,
      )

-- ---- the lowest bit from a place on

bit_shifted : (n b i : ℕ) → bit_in (n / 2 ^ b) i ≡ bit_in n (b + i)
bit_shifted n b i = bit_is (n / 2 ^ b) i ∙ ap (λ (x : ℕ). x % 2) (shr-shr n b i) ∙ sym (bit_is n (b + i))

bit_past : (n k i : ℕ) → n < 2 ^ k → (k ≡ i) ⊎ (k < i) → bit_in n i ≡ 0
bit_past n k i h (inl e) = bit_is n i ∙ ap (λ (x : ℕ). x % 2) (div-eq_of_lt (rw e at h))
bit_past n k i h (inr l) = let g : n < 2 ^ i = omega (arith, pow-lt l) in bit_is n i ∙ ap (λ (x : ℕ). x % 2) (div-eq_of_lt g)

place_by : (n k i : ℕ) → n < 2 ^ k → bit_in n i ≡ 1 → (i < k) ⊎ (k ≤ i) → i < k
place_by n k i h e (inl l) = l
place_by n k i h e (inr l) = absurd (omega (arith, bit_past n k i h (eq-or-lt_of_le l), e))

nonzero : (n : ℕ) → (n ≡ 0 → ⊥) → 0 < n
nonzero zero h = absurd (h refl)
nonzero (suc n) h = omega arith

-- from a letter on, in the number that it belongs to
module _ (letters : List ℕ) (c n : ℕ) (inside : c < 256) (e : n ≡ get_or letters (c / 64) 0) (fits : n < 2 ^ 64) where
  abbrev b : ℕ
  b = c % 64

  abbrev own : ℕ
  own = n / 2 ^ b

  letter_on : (j : ℕ) → b + j < 64 → letter_in letters (c + j) ≡ eqb (bit_in own j) 1
  letter_on j l =
      let d : c + j ≡ 64 * (c / 64) + (b + j) = omega arith in
      ap (letter_in letters) d ∙ in_number letters (c / 64) (b + j) (omega arith) l ∙ ap (λ (m : ℕ). is_set m (b + j)) (sym e)
      ∙ ap (λ (x : ℕ). eqb x 1) (sym (bit_shifted n b j))

  clear : (m : ℕ) → b + m ≤ 64 → ((j : ℕ) → j < m → bit_in own j ≡ 0) → (y : ℕ) → c ≤ y → y < c + m → letter_in letters y ≡ false
  clear m l h y g k =
      let d : c + (y - c) ≡ y = omega arith in
      ap (letter_in letters) (sym d) ∙ letter_on (y - c) (omega arith) ∙ ap (λ (x : ℕ). eqb x 1) (h (y - c) (omega arith))

  -- nothing is left of its number: the search goes on with the next
  pub goes_on : own ≡ 0 → letter_from letters (64 * (c / 64) + 64) ≡ letter_from letters c
  goes_on z =
      let m = 64 - b in
      let d : c + m ≡ 64 * (c / 64) + 64 = omega arith in
      let k : 256 - c ≡ m + (256 - (64 * (c / 64) + 64)) = omega arith in
      sym
      (ap (λ (i : ℕ). least_from i c (letter_in letters)) k
      ∙ least_skip (letter_in letters) m (256 - (64 * (c / 64) + 64)) c (clear m (omega arith) (λ j _. none_set own z j))
      ∙ ap (λ (i : ℕ). least_from (256 - (64 * (c / 64) + 64)) i (letter_in letters)) d)

  module _ (some_left : own ≡ 0 → ⊥) where
    abbrev t : ℕ
    t = count_trailing_zeros 64 own

    lowest : Lowest 64 own t
    lowest = lowest_is 64 own (nonzero own some_left) (omega (arith, shr_le n b))

    pub zeros_inside : b + t < 64
    zeros_inside = place_by n 64 (b + t) fits (sym (bit_shifted n b t) ∙ lowest.set_here) (less_or_not (b + t) 64)

    -- its lowest bit is the letter
    pub letter_here : letter_from letters c ≡ some (c + t)
    letter_here =
        let k : 256 - c ≡ t + suc (255 - c - t) = omega (arith, zeros_inside) in
        ap (λ (i : ℕ). least_from i c (letter_in letters)) k
        ∙ least_skip (letter_in letters) t (suc (255 - c - t)) c (clear t (omega (arith, zeros_inside)) lowest.clear_below)
        ∙ least_here (letter_in letters) (255 - c - t) (c + t) (letter_on t zeros_inside ∙ ap (λ (x : ℕ). eqb x 1) lowest.set_here)

-- past the last number
pub nothing_past : (letters : List ℕ) (c : ℕ) → 256 ≤ c → letter_from letters c ≡ none
nothing_past letters c h = let k : 256 - c ≡ 0 = omega arith in ap (λ (i : ℕ). least_from i c (letter_in letters)) k ∙ least_zero (letter_in letters) c

-- ---- how many words

-- the powers of a number of letters
pub record Powers (n : ℕ) : Type 0 where
  pub first : n ≤ 256
  pub two : n * n ≤ 65536
  pub three : n * n * n ≤ 16777216
  pub four : n * n * n * n ≤ 4294967296

pub powers : (letters : List ℕ) (n : ℕ) → n ≡ alphabet_size letters → Powers n
powers letters n e =
    let a : n ≤ 256 = omega (arith, e, many_le 256 (letter_in letters)) in
    let b : n * n ≤ 256 * 256 = mul-le-mul a a in
    let d : n * n * n ≤ 65536 * 256 = mul-le-mul b a in
    record { first = a; two = b; three = d; four = mul-le-mul d a }
