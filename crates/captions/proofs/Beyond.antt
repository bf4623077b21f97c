-- Letters beyond the font: specs/Beyond. And what is looked up, by whether a left and a right are above 255.
-- Assumes nothing.
use mathlib.Core.Path.{◌≡◌, refl, ◌∙◌}
use mathlib.Core.Bool.{Bool, true, false, cond}
use mathlib.Core.List.{List}
use mathlib.Core.Logic.{◌⊎◌, inl, inr}
use mathlib.Core.Option.{Option, none, some, map}
use Prim.Native.Nat.{ℕ, ◌<◌, ◌≤◌}
use native.Mathlib.Omega.{arith}
use lib.IntN.{ℤ}
use lib.Dec.{ltb, leb}
use borrow.Author.Tests.{le-leb, lt-leb, leb-true, ltb-true, ltb-false}
use Rattle.lang.specs.Every.{both}
use Rattle.lang.proofs.Every.{both_false}
use Rattle.reading.specs.Items.{Left, Rule, free, kerned, lig}
use Rattle.reading.specs.Depth.{Res}
use Rattle.fonts.specs.Fonts.{number_of_left, Font, rules_of}
use Rattle.fonts.proofs.FontLaws.{ruled_in_range}
use Rattle.captions.specs.Tables.{key_by, find, entry_of_pair}
use Rattle.captions.specs.Form.{table_form}
use Rattle.captions.specs.Steps.{find_within}
use Rattle.captions.specs.Beyond.{FreeBeyond, LooksUpWithin, LooksUpAll}
use Rattle.captions.proofs.Finding.{find_inside}
use Rattle.captions.proofs.Bisecting.{left_small, right_small}
use Rattle.captions.proofs.Following.{keys_formed}

-- ---- no font has a rule

free_by : (r : Rule) → ((r ≡ free → ⊥) → ⊥) → r ≡ free
free_by free h = refl
free_by (kerned k) h = absurd (h (λ e. let z : ◌≡◌ {A = ℕ} 0 1 = cc in omega arith))
free_by (lig o c) h = absurd (h (λ e. let z : ◌≡◌ {A = ℕ} 0 1 = cc in omega arith))

pub free_beyond : FreeBeyond
free_beyond f x y (inl h) = free_by (rules_of f x y) (λ n. omega (arith, (ruled_in_range f x y n).0))
free_beyond f x y (inr h) = free_by (rules_of f x y) (λ n. omega (arith, (ruled_in_range f x y n).1))

-- ---- what is looked up, in any table

pub looks_up_within : LooksUpWithin
looks_up_within pairs x y h k = rw (le-leb x 256 h, le-leb y 255 k)

module _ (pairs : List ℤ) (x y : ℕ) where
  pub within_left : 256 < x → find_within pairs x y ≡ none
  within_left h = rw (lt-leb x 256 h)

  pub within_right : 255 < y → find_within pairs x y ≡ none
  within_right h = rw (lt-leb y 255 h, both_false (leb x 256))

  -- a pair that is found
  pub within_some : (k : ℕ) → find_within pairs x y ≡ some k → (y ≤ 255) × (find pairs (key_by x y) ≡ some k)
  within_some k h = go (leb x 256) (leb y 255) refl h
    where
      go : (a b : Bool) → leb y 255 ≡ b → cond (both a b) (find pairs (key_by x y)) none ≡ some k → (y ≤ 255) × (find pairs (key_by x y) ≡ some k)
      go true true e i = (leb-true y 255 e, i)
      go true false e i = absurd (let z : ◌≡◌ {A = ℕ} 0 1 = cc in omega arith)
      go false b e i = absurd (let z : ◌≡◌ {A = ℕ} 0 1 = cc in omega arith)

-- ---- .. and in a table of the form

module _ (pairs ops : List ℤ) (table : table_form pairs ops ≡ true) (x y : ℕ) where
  all_by : (o : Option ℕ) → y < 4294967296 → find pairs (key_by x y) ≡ o → find_within pairs x y ≡ o
  all_by none h e = rw e (go (both (leb x 256) (leb y 255)))
    where
      go : (b : Bool) → ◌≡◌ {A = Option ℕ} (cond b none none) none
      go true = refl
      go false = refl
  all_by (some k) h e =
      let i = find_inside pairs (key_by x y) k e in
      let l = left_small pairs (keys_formed pairs ops table) k i.0 in
      let r = right_small pairs (keys_formed pairs ops table) k i.0 in
      looks_up_within pairs x y (omega (arith, i.1, l, r)) (omega (arith, i.1, l, r)) ∙ e

  -- the entry of a pair that is looked up is that of the table below 256
  pub held_looked : cond (ltb y 256) (map (entry_of_pair pairs ops) (find pairs (key_by x y))) none
      ≡ map (entry_of_pair pairs ops) (find_within pairs x y)
  held_looked = go (ltb y 256) refl
    where
      go : (b : Bool) → ltb y 256 ≡ b →
          cond b (map (entry_of_pair pairs ops) (find pairs (key_by x y))) none ≡ map (entry_of_pair pairs ops) (find_within pairs x y)
      go true e = rw (all_by (find pairs (key_by x y)) (omega (arith, ltb-true y 256 e)) refl)
      go false e = rw (within_right pairs x y (ltb-false y 256 e))

pub looks_up_all : LooksUpAll
looks_up_all pairs ops table x y h = all_by pairs ops table x y (find pairs (key_by x y)) h refl
