-- Fields for which there is room, and fields that are not taken.
-- Assumes nothing.
use mathlib.Core.Path.{◌≡◌, sym, ap, ◌∙◌}
use mathlib.Core.Bool.{Bool, true, false}
use mathlib.Core.List.{List}
use Prim.Native.Nat.{ℕ, ◌+◌, ◌-◌, ◌*◌, ◌≤◌}
use native.Mathlib.Omega.{arith}
use lib.IntN.{ℤ}
use lib.Dec.{leb}
use lib.Seq.{sets}
use borrow.Author.Tests.{le-leb, leb-true}
use Rattle.lang.specs.Every.{both}
use Rattle.lang.proofs.Every.{both_left, both_right}
use Rattle.columns.specs.Lines.{fields_of}
use Rattle.text_justify.specs.InFields.{fields_fit, fields_where}

-- fields that are taken
pub record Fit (last from n at room : ℕ) : Type 0 where
  pub six : n ≤ 6
  pub first : from ≤ last
  pub place : at + 12 * n ≤ room

pub fit_of : (last from n at room : ℕ) → fields_fit last from n at room ≡ true → Fit last from n at room
fit_of last from n at room t =
    let c = leb at (room - 12 * n) in
    let r₁ : both (leb from last) (both (leb (12 * n) room) c) ≡ true = both_right (leb n 6) _ t in
    let r₂ : both (leb (12 * n) room) c ≡ true = both_right (leb from last) _ r₁ in
    let p = leb-true (12 * n) room (both_left (leb (12 * n) room) _ r₂) in
    let q = leb-true at (room - 12 * n) (both_right (leb (12 * n) room) _ r₂) in
    record { six = leb-true n 6 (both_left (leb n 6) _ t); first = leb-true from last (both_left (leb from last) _ r₁); place = omega (arith, p, q) }

pub fit_is : (last from n at room : ℕ) → n ≤ 6 → from ≤ last → at + 12 * n ≤ room → fields_fit last from n at room ≡ true
fit_is last from n at room s f p = rw (le-leb n 6 s, le-leb from last f, le-leb (12 * n) room (omega arith), le-leb at (room - 12 * n) (omega arith))

module _ (out : List ℕ) (at : ℕ) (zs : List ℤ) {t : Bool} where
  pub where_fits : {d : List ℕ} → t ≡ true → d ≡ sets out at (fields_of zs) → d ≡ fields_where t out at zs
  where_fits e g = g ∙ sym (ap (λ (b : Bool). fields_where b out at zs) e)

  pub where_misses : t ≡ false → out ≡ fields_where t out at zs
  where_misses e = sym (ap (λ (b : Bool). fields_where b out at zs) e)

  pub fits_where : {d : List ℕ} → t ≡ true → d ≡ fields_where t out at zs → d ≡ sets out at (fields_of zs)
  fits_where e g = g ∙ ap (λ (b : Bool). fields_where b out at zs) e
