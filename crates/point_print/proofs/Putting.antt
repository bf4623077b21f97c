-- Bytes put into a list, one after the other, and the list that comes back.
-- Assumes nothing.
use mathlib.Core.Path.{◌≡◌, refl, sym, ◌∙◌}
use mathlib.Core.List.{List, [], ◌∷◌, ◌++◌}
use Prim.Native.Nat.{ℕ, suc, ◌+◌, ◌-◌, ◌/◌, ◌%◌, ◌^◌, ◌<◌, ◌≤◌}
use native.Mathlib.Omega.{arith}
use lib.ListN.{set, length-append}
use lib.Seq.{sets}
use borrow.Author.Tests.{eq-eqb, ne_eqb}
use Rattle.words.specs.Words.{number_of}
use Rattle.words.proofs.Bits.{number_pos, number_neg}
use Rattle.words.proofs.Lists.{sets_append}
use Rattle.points.specs.Printing.{leading_digit, whole_text, decimals_of, size_text, scaled_text}
use Rattle.point_print.specs.Putting.{PutsBytes}

pub puts_none : (out : List ℕ) (at : ℕ) → PutsBytes out at [] at out
puts_none out at = record { next = omega arith; list = refl }

pub puts_one : (out : List ℕ) (at b : ℕ) {d : List ℕ} → d ≡ set out at b → PutsBytes out at (b ∷ []) (at + 1) d
puts_one out at b e = record { next = refl; list = e }

module _ {out : List ℕ} {at : ℕ} {xs : List ℕ} {m : ℕ} {d : List ℕ} where
  pub puts_more : {ys : List ℕ} {r : ℕ} {d' : List ℕ} → PutsBytes out at xs m d → PutsBytes d m ys r d' → PutsBytes out at (xs ++ ys) r d'
  puts_more {ys} {r} {d'} a b =
      record {
        next = simp length-append (omega (arith, a.next, b.next));
        list = b.list ∙ (λ i. sets (a.list i) (a.next i) ys) ∙ sym (sets_append xs ys out at);
      }

-- ---- whole points

pub leading_none : (out : List ℕ) (at n : ℕ) → n ≡ 0 → PutsBytes out at (leading_digit n) at out × (at ≤ at + 1)
leading_none out at n e = (rw (eq-eqb n 0 e) (puts_none out at), omega arith)

pub leading_one : (out : List ℕ) (at n : ℕ) {d : List ℕ} → (n ≡ 0 → ⊥) → d ≡ set out at (48 + n % 10) →
    PutsBytes out at (leading_digit n) (at + 1) d × (at + 1 ≤ at + 1)
leading_one out at n h e = (rw (ne_eqb n 0 h) (puts_one out at (48 + n % 10) e), omega arith)

pub puts_whole : (n : ℕ) {out : List ℕ} {at : ℕ} {a b c d : ℕ} {out₁ out₂ out₃ out₄ out₅ : List ℕ} →
    PutsBytes out at (leading_digit (n / 10 / 10 / 10 / 10)) a out₁ →
    PutsBytes out₁ a (leading_digit (n / 10 / 10 / 10)) b out₂ →
    PutsBytes out₂ b (leading_digit (n / 10 / 10)) c out₃ →
    PutsBytes out₃ c (leading_digit (n / 10)) d out₄ →
    out₅ ≡ set out₄ d (48 + n % 10) →
    PutsBytes out at (whole_text n) (d + 1) out₅
puts_whole n {d = d} {out₄ = out₄} p₁ p₂ p₃ p₄ e = puts_more p₁ (puts_more p₂ (puts_more p₃ (puts_more p₄ (puts_one out₄ d (48 + n % 10) e))))

-- ---- the whole text

pub puts_size : (n : ℕ) {out : List ℕ} {at a r : ℕ} {out₁ out₂ out₃ : List ℕ} → PutsBytes out at (whole_text (n / 65536)) a out₁ → out₂ ≡ set out₁ a 46 →
    PutsBytes out₂ (a + 1) (decimals_of (n % 65536)) r out₃ → PutsBytes out at (size_text n) r out₃
puts_size n {a = a} {out₁ = out₁} p e q = puts_more p (puts_more (puts_one out₁ a 46 e) q)

pub puts_positive : (w : ℕ) {out : List ℕ} {r : ℕ} {out₁ : List ℕ} → w < 2147483648 → PutsBytes out 0 (size_text w) r out₁ →
    PutsBytes out 0 (scaled_text (number_of w)) r out₁
puts_positive w h p = rw (number_pos w h) p

pub puts_negative : (w : ℕ) {out : List ℕ} {r : ℕ} {out₁ out₂ : List ℕ} → 2147483648 ≤ w → w < 2 ^ 32 → out₁ ≡ set out 0 45 →
    PutsBytes out₁ 1 (size_text (4294967295 - w + 1)) r out₂ → PutsBytes out 0 (scaled_text (number_of w)) r out₂
puts_negative w {out} {r} {out₁} {out₂} h l e p =
    let s : 4294967295 - w + 1 ≡ suc (2 ^ 32 - suc w) = omega arith in
    rw (number_neg w h)
    (puts_more (puts_one out 0 45 e) (let q : PutsBytes out₁ 1 (size_text (suc (2 ^ 32 - suc w))) r out₂ = rw s at p in q))
