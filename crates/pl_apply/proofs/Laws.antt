-- What a function lets through, and the lent list.
-- Assumes nothing.
use mathlib.Core.Path.{◌≡◌, refl, sym, ap, ◌∙◌}
use mathlib.Core.Bool.{Bool, true, false, cond}
use mathlib.Core.List.{List, [], ◌∷◌, ◌++◌}
use mathlib.Core.Option.{Option, none, some}
use Prim.Native.Nat.{ℕ, zero, suc, ◌+◌, ◌-◌, ◌*◌, ◌<◌, ◌≤◌, min}
use native.Mathlib.Nat.{min-le_right}
use native.Mathlib.Numerals.{add-one}
use native.Mathlib.Omega.{arith}
use lib.IntN.{ℤ, pos}
use lib.ListN.{length, drop, set, length-append, length-set}
use lib.Seq.{sets}
use Rattle.words.specs.Words.{number_of}
use Rattle.words.proofs.Bits.{number_pos}
use Rattle.lang.specs.Every.{both}
use Rattle.property_lists.specs.declared.Progress.{Progress}
use Rattle.std.specs.Prelude.{Option as Answer, Some, None}
use Rattle.pl_apply.specs.Standing.{overlay, ChangesBy}

-- ---- a test that lets through

pub let_through : {test : Bool} {s : Progress} {list list₀ list' : List ℤ} → test ≡ true → list' ≡ list → ChangesBy test s list list₀ (Some s) list'
let_through e f = record { is = sym (rw e); list_is = rw e f }

pub let_through_to : {test : Bool} {s s' : Progress} {list list₀ list' : List ℤ} → test ≡ true → s' ≡ s → list' ≡ list →
    ChangesBy test s list list₀ (Some s') list'
let_through_to e g f = record { is = rw (e, g); list_is = rw e f }

pub both_no : (a : Bool) {b : Bool} → b ≡ false → both a b ≡ false
both_no true e = e
both_no false e = refl

-- a further test that passes, and other names for the same
pub skips : {test more : Bool} {s s' : Progress} {list list'' list₀ list' : List ℤ} {r : Answer Progress} → more ≡ true → ChangesBy test s list list₀ r list' → s ≡ s' →
    list ≡ list'' → ChangesBy (both test more) s' list'' list₀ r list'
skips {test} e p f g = rw (e, both_yes test, ← f, ← g) p
  where
    both_yes : (a : Bool) → both a true ≡ a
    both_yes true = refl
    both_yes false = refl

pub small_number : (w : ℕ) → w < 65536 → number_of w ≡ pos w
small_number w h = number_pos w (omega arith)

pub at_most_right : (a b : ℕ) → min a b ≤ b
at_most_right a b = min-le_right a b

pub held_back : {test : Bool} {s : Progress} {list list₀ : List ℤ} → test ≡ false → ChangesBy test s list list₀ None list₀
held_back e = record { is = sym (rw e); list_is = sym (rw e) }

-- ---- the lent list

-- four numbers one after the other
pub four_stored : (d : List ℤ) {d₁ d₂ d₃ d₄ : List ℤ} (k : ℕ) (a b c e : ℤ) → d₁ ≡ set d k a → d₂ ≡ set d₁ (k + 1) b → d₃ ≡ set d₂ (k + 2) c →
    d₄ ≡ set d₃ (k + 3) e → d₄ ≡ sets d k (a ∷ b ∷ c ∷ e ∷ [])
four_stored d k a b c e p q r s =
    let x : k + 1 ≡ suc k = omega arith in
    let y : k + 2 ≡ suc (suc k) = omega arith in
    let z : k + 3 ≡ suc (suc (suc k)) = omega arith in
    rw (s, r, q, p, x, y, z)

pub overlay_more : (xs d : List ℤ) (v : ℤ) → overlay (xs ++ (v ∷ [])) d ≡ set (overlay xs d) (length xs) v
unfolding overlay
overlay_more [] [] v = refl
overlay_more [] (y ∷ d) v = refl
overlay_more (x ∷ xs) [] v = refl
overlay_more (x ∷ xs) (y ∷ d) v = ap (λ (l : List ℤ). x ∷ l) (overlay_more xs d v)

pub overlay_set : (xs d : List ℤ) (k : ℕ) (v : ℤ) → k < length xs → overlay (set xs k v) d ≡ set (overlay xs d) k v
unfolding overlay
overlay_set [] d k v h = absurd (omega arith)
overlay_set (x ∷ xs) [] zero v h = refl
overlay_set (x ∷ xs) [] (suc k) v h = refl
overlay_set (x ∷ xs) (y ∷ d) zero v h = refl
overlay_set (x ∷ xs) (y ∷ d) (suc k) v h = ap (λ (l : List ℤ). x ∷ l) (overlay_set xs d k v (omega arith))

pub overlay_all : (xs d : List ℤ) → length xs ≤ length d → overlay xs d ≡ xs ++ drop (length xs) d
unfolding overlay
overlay_all [] d h = refl
overlay_all (x ∷ xs) [] h = absurd (omega arith)
overlay_all (x ∷ xs) (y ∷ d) h = ap (λ (l : List ℤ). x ∷ l) (overlay_all xs d (omega arith))

pub overlay_length : (xs d : List ℤ) → length (overlay xs d) ≡ length d
unfolding overlay
overlay_length [] d = refl
overlay_length (x ∷ xs) [] = refl
overlay_length (x ∷ xs) (y ∷ d) = ap suc (overlay_length xs d)
