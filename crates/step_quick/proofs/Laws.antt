-- The tests of the code, as the definitions have them. Assumes nothing.
use mathlib.Core.Path.{◌≡◌, refl, sym, ap, ◌∙◌}
use mathlib.Core.Bool.{Bool, true, false}
use mathlib.Core.List.{List}
use Prim.Native.Nat.{ℕ, zero, suc, ◌<◌, ◌≤◌}
use native.Mathlib.Omega.{arith}
use lib.IntN.{ℤ, pos, negsuc}
use lib.Dec.{ltb, leb, eqb}
use lib.ListN.{length}
use borrow.Author.Tests.{ltb-true, leb-true, le-leb, lt-leb, eq-eqb, ne_eqb}
use Rattle.lang.specs.Every.{both}
use Rattle.lang.specs.Records.{absent_or}
use Rattle.lang.specs.Checks.{or_else, unless, absent_refusal}
use Rattle.lang.proofs.Every.{both_left, both_right, both_false}
use Rattle.lang.proofs.Refusals.{unless_none}
use Rattle.lang.proofs.Checks.{letter_low}
use Rattle.captions.specs.declared.RunOptions.{RunOptions}
use Rattle.captions.specs.declared.NextLeft.{NextLeft}
use Rattle.captions.specs.declared.NextLeft.TheVariants as next
use Rattle.captions.specs.declared.State.{State}
use Rattle.captions.specs.Begin.{word_refusal}
use Rattle.captions.specs.Steps.{ops_placed, next_fits, placed, step_refusal}
use Rattle.step_turns.proofs.Laws.{placed_read, placed_given, placed_ops, placed_next}
use Rattle.step_quick.specs.Quick.{plain_code, is_calm, is_taken, has_letter}

-- ---- the call: three refusals, none of which holds, and an override up to 255

module _ (a b : ℕ) where
  first_refused : (n : ℕ) → (a ≡ 0 → ⊥) → false ≡ eqb (or_else (or_else a b) n) 0
  first_refused n h = go a h
    where
      go : (x : ℕ) → (x ≡ 0 → ⊥) → false ≡ eqb (or_else (or_else x b) n) 0
      go zero k = absurd (k refl)
      go (suc x) k = sym (ne_eqb (suc x) 0 (λ z. omega (arith, z)))

  neither_refused : (t : Bool) → a ≡ 0 → b ≡ 0 → t ≡ eqb (or_else (or_else a b) (unless 6 t)) 0
  neither_refused t e f = rw (e, f) (go t)
    where
      go : (x : Bool) → x ≡ eqb (unless 6 x) 0
      go true = refl
      go false = refl

-- an override up to 255 is one from -1 on
absent_wider : (z : ℤ) → absent_or 255 z ≡ true → absent_or 2147483647 z ≡ true
absent_wider (pos m) h = le-leb m 2147483647 (omega (arith, leb-true m 255 h))
absent_wider (negsuc m) h = h

module _ (boundary : ℤ) (word : List ℕ) (options : RunOptions) where
  abbrev over : ℤ
  over = options.right_boundary_override

  pub boundary_refused : (absent_refusal 255 boundary ≡ 0 → ⊥) → false ≡ is_taken boundary word options
  boundary_refused h =
      sym (both_false (absent_or 255 over))
      ∙ ap (both (absent_or 255 over)) (first_refused (absent_refusal 255 boundary) (absent_refusal 2147483647 over) (word_refusal word) h)

  pub override_refused : (absent_refusal 255 over ≡ 0 → ⊥) → false ≡ is_taken boundary word options
  override_refused h = go (absent_or 255 over) h
    where
      go : (t : Bool) → (unless 4 t ≡ 0 → ⊥) → false ≡ both t (eqb (step_refusal boundary word options) 0)
      go true k = absurd (k refl)
      go false k = refl

  pub word_taken : absent_refusal 255 boundary ≡ 0 → absent_refusal 255 over ≡ 0 → leb (length word) 65535 ≡ is_taken boundary word options
  word_taken e f =
      let a = unless_none 3 (absent_or 255 over) f in
      let b : absent_refusal 2147483647 over ≡ 0 = rw (absent_wider over a) in
      rw a (neither_refused (absent_refusal 255 boundary) (absent_refusal 2147483647 over) (leb (length word) 65535) e b)

-- ---- the state

code_fits : (x : NextLeft) → plain_code x ≤ 255 → next_fits x ≡ true
code_fits next.Boundary h = refl
code_fits (next.Char c) h = letter_low c (omega (arith, h))
code_fits (next.Lig c) h = absurd (omega arith)
code_fits (next.FinalLig c) h = absurd (omega arith)
code_fits next.None h = refl

module _ (ops : List ℤ) (word : List ℕ) (s : State) where
  pub calm_pending : (s.pending ≡ 0 → ⊥) → false ≡ is_calm ops word s
  calm_pending h = rw (ne_eqb s.pending 0 h)

  module _ (p : s.pending ≡ 0) where
    pub calm_code : 255 < plain_code s.next_left → false ≡ is_calm ops word s
    calm_code h = rw (eq-eqb s.pending 0 p, lt-leb (plain_code s.next_left) 255 h)

    module _ (l : plain_code s.next_left ≤ 255) where
      calm-placed : placed ops word s ≡ is_calm ops word s
      calm-placed = rw (eq-eqb s.pending 0 p, le-leb (plain_code s.next_left) 255 l)

      pub calm_read : length word < s.read → false ≡ is_calm ops word s
      calm_read h = sym (placed_read ops word s h) ∙ calm-placed

      module _ (r : s.read ≤ length word) where
        pub calm_given : s.read < s.given → false ≡ is_calm ops word s
        calm_given h = sym (placed_given ops word s r h) ∙ calm-placed

        pub calm_ops : s.given ≤ s.read → (b : Bool) → b ≡ ops_placed ops s → b ≡ is_calm ops word s
        calm_ops g true e = sym (placed_next ops word s r g (omega (arith, p)) (sym e) ∙ code_fits s.next_left l) ∙ calm-placed
        calm_ops g false e = sym (placed_ops ops word s r g (omega (arith, p)) (sym e)) ∙ calm-placed

-- a letter to be read is there
pub letter_there : (word : List ℕ) (s : State) → has_letter word s ≡ true → (s.read < length word) × (s.given < s.read)
letter_there word s h = (
  ltb-true s.read (length word) (both_left (ltb s.read (length word)) (ltb s.given s.read) h),
  ltb-true s.given s.read (both_right (ltb s.read (length word)) (ltb s.given s.read) h),
)
