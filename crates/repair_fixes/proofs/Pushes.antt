-- Laws of warnings that are pushed one after the other: how many they are at most, one by its 32 bits, and those of the steps so far.
-- Assumes nothing.
use mathlib.Core.Path.{◌≡◌, refl, sym, ap, ◌∙◌, subst}
use mathlib.Core.Bool.{Bool, true, false, cond}
use mathlib.Core.List.{List, [], ◌++◌}
use Prim.Native.Nat.{ℕ, ◌+◌, ◌*◌, ◌%◌, ◌<◌, ◌≤◌}
use native.Mathlib.Numerals.{add-one}
use native.Mathlib.Omega.{arith}
use lib.IntN.{ℤ, pos}
use lib.Dec.{ltb}
use lib.ListN.{length}
use mir.Syntax.{w32}
use mir.Val.{SFits}
use Rattle.words.specs.Words.{Word, word_of, number_of}
use Rattle.words.proofs.Bits.{number_pos, number_is, number_word}
use Rattle.lang.specs.Every.{both}
use Rattle.lang.specs.Records.{field, is_kind}
use Rattle.repairs.specs.declared.Faults.{Faults}
use Rattle.repairs.specs.Damaged.{DamagedProgram}
use Rattle.repairs.specs.Repaired.{skip_goes, is_ligature, inserted_by, faults_of}
use Rattle.repairs.specs.Warnings.{warning, warn_if, skip_warnings, step_warnings, steps_warnings}
use Rattle.repairs.specs.Pushed.{Pushed}
use Rattle.repairs.proofs.Pushing.{pushed_none, pushed_append, pushed_if}
use Rattle.repair_fixes.specs.StepFixes.{FaultsAt, PushedUpTo}

-- none
pub none_yet : (w : List ℤ) (n : ℕ) → PushedUpTo 0 w n [] w n
none_yet w n = record { pushed = pushed_none w n; most = omega arith }

-- some, and then others
pub and_then : {j k : ℕ} {w : List ℤ} {n : ℕ} {xs w₁ : List ℤ} {m : ℕ} {ys w₂ : List ℤ} {r : ℕ} → PushedUpTo j w n xs w₁ m → PushedUpTo k w₁ m ys w₂ r →
    PushedUpTo (j + k) w n (xs ++ ys) w₂ r
and_then {w = w} {n} {xs} {w₁} {m} {ys} {w₂} {r} a b =
    record { pushed = pushed_append w n xs w₁ m ys w₂ r a.pushed b.pushed; most = omega (arith, a.most, b.most) }

-- one, by its 32 bits
one_long : (t : Bool) (kind : ℕ) (at old new : ℤ) → length (warn_if t (warning kind at old new)) ≤ 4
one_long true kind at old new = omega arith
one_long false kind at old new = omega arith

-- what a call of `push_if` ensures
abbrev Pushes : List ℤ → ℕ → Bool → ℕ → ℕ → ℕ → ℕ → List ℤ → ℕ → Type 0
Pushes w n t kind a b d w' r = Pushed w n (warn_if (both t (ltb n 4294967296)) (warning kind (number_of a) (number_of b) (number_of d))) w' r

-- the test and the numbers may be said in another way
one_pushed : {t : Bool} (a b d : ℕ) {w : List ℤ} {n k : ℕ} {w' : List ℤ} {r kind : ℕ} {u : Bool} {at old new : ℤ} → n < 4294967296 → t ≡ u → k ≡ kind →
    number_of a ≡ at → number_of b ≡ old → number_of d ≡ new → Pushes w n t k a b d w' r → PushedUpTo 1 w n (warn_if u (warning kind at old new)) w' r
one_pushed {t} a b d {w} {n} {k} {w'} {r} {kind} {u} {at} {old} {new} h v i e f g p =
    let q : Pushed w n (warn_if u (warning kind at old new)) w' r = rw (v, i, e, f, g) at
    (pushed_if w n t (warning k (number_of a) (number_of b) (number_of d)) w' r h p) in
    record { pushed = q; most = omega (arith, q.count, one_long u kind at old new) }

-- ---- of one step

-- the warning of its skip
pub skip_pushed : (p : DamagedProgram) (i : ℕ) {f : Faults} {w : List ℤ} {n : ℕ} {w' : List ℤ} {r : ℕ} → f ≡ faults_of p i → i < 32767 → n < 4294967296 →
    Pushes w n f.skip 3 i 0 0 w' r → PushedUpTo 1 w n (warn_if (skip_goes p i) (warning 3 (pos i) (pos 0) (pos 0))) w' r
skip_pushed p i e h l q = one_pushed i 0 0 l (ap (λ (g : Faults). g.skip) e) refl (number_pos i (omega arith)) refl refl q

-- the others, in their order
module _ {p : DamagedProgram} {s : List ℤ} {replacement : ℕ} {f : Faults} {i : ℕ} (g : FaultsAt p s replacement f i) (small : replacement < 256)
    (within : i < 32767) {kind right operand : ℕ} (ks : kind ≡ cond (is_kind 2 s i) 4 5) (rs : Word (field s i 1) right) (os : operand ≡ word_of (field s i 3))
  where
    at-step : number_of i ≡ pos i
    at-step = number_pos i (omega arith)

    kind_is : kind ≡ cond (is_ligature p i) 4 5
    kind_is = ks ∙ ap (λ (l : List ℤ). cond (is_kind 2 l i) 4 5) (sym g.instructions)

    right_is : number_of right ≡ field p.instructions i 1
    right_is = number_is rs ∙ ap (λ (l : List ℤ). field l i 1) (sym g.instructions)

    inserted_is : number_of (operand % 256) ≡ pos (inserted_by p i)
    inserted_is =
        number_pos (operand % 256) (omega arith) ∙ ap (λ (o : ℕ). pos (o % 256)) (os ∙ ap (λ (l : List ℤ). word_of (field l i 3)) (sym g.instructions))

    new_is : number_of replacement ≡ pos p.replacement
    new_is = number_pos replacement (omega arith) ∙ ap pos (sym g.replaced)

    pub step_pushed : {w w₁ w₂ w₃ w₄ w₅ : List ℤ} {n n₁ n₂ n₃ n₄ n₅ : ℕ} → n < 1048576 → Pushes w n f.redirect 9 i 0 0 w₁ n₁ →
        Pushes w₁ n₁ f.right kind i right replacement w₂ n₂ → Pushes w₂ n₂ f.kern 7 i 0 0 w₃ n₃ →
        Pushes w₃ n₃ f.product 6 i (operand % 256) replacement w₄ n₄ → Pushes w₄ n₄ f.tag 8 i 0 0 w₅ n₅ → PushedUpTo 5 w n (step_warnings p i) w₅ n₅
    step_pushed h a b c d e =
        let p₁ = one_pushed i 0 0 (omega arith) (ap (λ (x : Faults). x.redirect) g.are) refl at-step refl refl a in
        let p₂ = one_pushed i right replacement (omega (arith, p₁.most)) (ap (λ (x : Faults). x.right) g.are) kind_is at-step right_is new_is b in
        let p₃ = one_pushed i 0 0 (omega (arith, p₁.most, p₂.most)) (ap (λ (x : Faults). x.kern) g.are) refl at-step refl refl c in
        let p₄ = one_pushed i (operand % 256) replacement (omega (arith, p₁.most, p₂.most, p₃.most)) (ap (λ (x : Faults). x.product) g.are) refl at-step
        inserted_is new_is d in
        let p₅ = one_pushed i 0 0 (omega (arith, p₁.most, p₂.most, p₃.most, p₄.most)) (ap (λ (x : Faults). x.tag) g.are) refl at-step refl refl e in
        and_then (and_then (and_then (and_then p₁ p₂) p₃) p₄) p₅

-- ---- of the first k steps

-- one step more
one_more : {i j k : ℕ} {w : List ℤ} {n : ℕ} {xs w₁ : List ℤ} {m : ℕ} {ys w₂ : List ℤ} {r : ℕ} {zs : List ℤ} → zs ≡ xs ++ ys → k ≡ i + j →
    PushedUpTo i w n xs w₁ m → PushedUpTo j w₁ m ys w₂ r → PushedUpTo k w n zs w₂ r
one_more e f a b = rw (e, f) (and_then a b)

module _ (p : DamagedProgram) where
  pub skips_none : (w : List ℤ) (n : ℕ) → PushedUpTo 0 w n (skip_warnings p 0) w n
  unfolding skip_warnings
  skips_none w n = none_yet w n

  pub skips_more : (k : ℕ) {w : List ℤ} {n : ℕ} {w₁ : List ℤ} {m : ℕ} {w₂ : List ℤ} {r : ℕ} → PushedUpTo k w n (skip_warnings p k) w₁ m →
      PushedUpTo 1 w₁ m (warn_if (skip_goes p k) (warning 3 (pos k) (pos 0) (pos 0))) w₂ r → PushedUpTo (k + 1) w n (skip_warnings p (k + 1)) w₂ r
  unfolding skip_warnings
  skips_more k a b = one_more (ap (λ (j : ℕ). skip_warnings p j) (add-one k)) refl a b

  pub steps_none : (w : List ℤ) (n : ℕ) → PushedUpTo 0 w n (steps_warnings p 0) w n
  unfolding steps_warnings
  steps_none w n = none_yet w n

  pub steps_more : (k : ℕ) {w : List ℤ} {n : ℕ} {w₁ : List ℤ} {m : ℕ} {w₂ : List ℤ} {r : ℕ} → PushedUpTo (5 * k) w n (steps_warnings p k) w₁ m →
      PushedUpTo 5 w₁ m (step_warnings p k) w₂ r → PushedUpTo (5 * (k + 1)) w n (steps_warnings p (k + 1)) w₂ r
  unfolding steps_warnings
  steps_more k a b =
      let e : 5 * (k + 1) ≡ 5 * k + 5 = omega arith in
      one_more (ap (λ (j : ℕ). steps_warnings p j) (add-one k)) e a b

-- ---- a loop over the steps has come to the end: what it says of the boundary character's 32 bits, it says of the character
pub at_end_lem : (P : ℤ → ℕ → Type 0) (boundary : ℤ) {i n : ℕ} → SFits w32 boundary → i ≤ n → n ≤ i → P (number_of (word_of boundary)) i → P boundary n
at_end_lem P boundary {i} {n} f h l x =
    let e : i ≡ n = omega arith in
    subst (λ (k : ℕ). P boundary k) e (subst (λ (b : ℤ). P b i) (number_word boundary f) x)
