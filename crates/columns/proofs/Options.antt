-- What is known where a reading gives something.
-- Assumes nothing.
use mathlib.Core.Path.{◌≡◌, refl}
use mathlib.Core.Bool.{Bool, true, false, cond}
use mathlib.Core.List.{List, ◌∷◌}
use mathlib.Core.Option.{Option, none, some, some-injective, none-ne-some}
use Prim.Native.Nat.{ℕ}
use lib.IntN.{ℤ}
use Rattle.columns.specs.Lines.{Line, and_number, lettered}

pub none_some : {A : Type 0} {x : A} → ◌≡◌ {A = Option A} none (some x) → ⊥
none_some e = none-ne-some _ e

pub cond_some : {A : Type 0} (t : Bool) (r : Option A) (x : A) → cond t r none ≡ some x → (t ≡ true) × (r ≡ some x)
cond_some true r x e = (refl, e)
cond_some false r x e = absurd (none_some e)

pub record Both (r : Option ℤ) (s : Option (List ℤ)) (zs : List ℤ) : Type 0 where
  pub first : ℤ
  pub others : List ℤ
  pub is_first : r ≡ some first
  pub are_others : s ≡ some others
  pub all : first ∷ others ≡ zs

pub and_some : (r : Option ℤ) (s : Option (List ℤ)) (zs : List ℤ) → and_number r s ≡ some zs → Both r s zs
and_some none s zs e = absurd (none_some e)
and_some (some z) none zs e = absurd (none_some e)
and_some (some z) (some ys) zs e =
    record { first = z; others = ys; is_first = refl; are_others = refl; all = some-injective (z ∷ ys) zs e }

pub lettered_some : (b : ℕ) (r : Option (List ℤ)) (l : Line) → lettered b r ≡ some l → (r ≡ some l.numbers) × (b ≡ l.letter)
lettered_some b none l e = absurd (none_some e)
lettered_some b (some zs) l e =
    let q : record { letter = b; numbers = zs } ≡ l = some-injective (record { letter = b; numbers = zs }) l e in
    ((λ i. some (q i).numbers), (λ i. (q i).letter))
