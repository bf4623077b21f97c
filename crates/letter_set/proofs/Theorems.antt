-- What specs/Purpose states. Assumes nothing.
use mathlib.Core.Path.{◌≡◌, sym, ◌∙◌, refl}
use mathlib.Core.Bool.{Bool, true, false}
use mathlib.Core.Logic.{◌⊎◌, inl, inr}
use Prim.Native.Nat.{ℕ, ◌<◌, ◌≤◌, ◌-◌, ◌+◌, ◌/◌}
use native.Mathlib.Omega.{arith}
use lib.ListN.{get_or}
use Rattle.words.proofs.Tests.{less_or_not}
use Rattle.letter_set.specs.LetterSets.{letter_in}
use Rattle.letter_set.specs.Purpose.{SetAsExisting, FindsLeast, FindsNothing}
use Rattle.letter_set.proofs.Least.{Found, found, failed}
use Rattle.letter_set.proofs.Numbers.{letter_is, no_letter}

pub set_as_existing : SetAsExisting
set_as_existing p c h = sym (letter_is p.existing c (get_or p.existing (c / 64) 0) (omega arith) refl)

pub finds_least : FindsLeast
finds_least letters c x e =
    let f = found (letter_in letters) (256 - c) c x e in
    record {
      in_set = f.passes;
      not_below = f.from;
      no_less = λ y l q. go f y l q (less_or_not y x);
    }
  where
    go : Found (letter_in letters) (256 - c) c x → (y : ℕ) → c ≤ y → letter_in letters y ≡ true → (y < x) ⊎ (x ≤ y) → x ≤ y
    go f y l q (inl k) = absurd (let g = f.fail y l k in let z : ◌≡◌ {A = ℕ} 0 1 = cc in omega arith)
    go f y l q (inr k) = k

pub finds_nothing : FindsNothing
finds_nothing letters c e y l = go (less_or_not y 256)
  where
    go : (y < 256) ⊎ (256 ≤ y) → letter_in letters y ≡ false
    go (inl k) = failed (letter_in letters) (256 - c) c e y l (omega arith)
    go (inr k) = sym (no_letter letters y (omega arith))
