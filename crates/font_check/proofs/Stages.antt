-- Laws of the stages of checking a file, by what was read: a font or a refusal.
-- Assumes nothing.
use mathlib.Core.Path.{◌≡◌, refl, subst, ◌∙◌}
use mathlib.Core.List.{List}
use Prim.Native.Nat.{ℕ, ◌*◌, ◌≤◌}
use lib.IntN.{ℤ, pos}
use lib.ListN.{length, take}
use Rattle.tfm.specs.Scaled.{asked_refusal, design_at}
use Rattle.tfm.proofs.Sizes.{design_plain}
use Rattle.fonts.specs.declared.Compiled.{Compiled}
use Rattle.fonts.specs.declared.Compiled.TheVariants as Compile
use Rattle.fonts.specs.Fonts.{Font, font_of}
use Rattle.fonts.specs.Compiled.{Compiles}
use Rattle.file_fonts.specs.declared.FileFont.{FileFont}
use Rattle.file_fonts.specs.declared.FileFont.TheVariants as Read
use Rattle.font_check_parts.specs.CheckParts.{TablesZero}
use Rattle.font_check.specs.Stages.{CountsFit, CompilesRead}

-- a font's counts are within its lists
pub font_fits : {font : FileFont} {is ks es : List ℤ} {n k e m : ℕ} {b l g : ℤ} → font ≡ Read.Font n k e m b l g → CountsFit font is ks es →
    (4 * n ≤ length is) × (k ≤ length ks) × (2 * e ≤ length es)
font_fits h c = let d = rw h at c in (d.program, d.kern_list, d.entry_list)

module _ {font : FileFont} (is ks es pairs ops loops : List ℤ) (work : List ℕ) (pairs' ops' loops' : List ℤ) (work' : List ℕ) where
  -- refused as it was read
  pub read_refused : {x : ℕ} → font ≡ Read.Refused x → TablesZero pairs ops loops work pairs' ops' loops' work' →
      CompilesRead font is ks es pairs ops loops work (Compile.Refused x) pairs' ops' loops' work'
  read_refused h z = rw h (refl, z)

  -- with neither a size nor a magnification a font is compiled at its design size
  pub read_compiled : {n k e m : ℕ} {b l g b' l' g' : ℤ} (r : Compiled) → font ≡ Read.Font n k e m b l g → b' ≡ b → l' ≡ l → g' ≡ g →
      Compiles (font_of (take (4 * n) is) (take k ks) (take (2 * e) es) b' l' (design_at g' (pos 0) (pos 0))) (asked_refusal g' (pos 0) (pos 0)) pairs ops
      loops work r pairs' ops' loops' work' → CompilesRead font is ks es pairs ops loops work r pairs' ops' loops' work'
  read_compiled {n} {k} {e} {m} {b} {l} {g} {b'} {l'} {g'} r h x y z c =
      let d : design_at g' (pos 0) (pos 0) ≡ g = design_plain g' ∙ z in
      rw h
      (subst (λ (f : Font). Compiles f 0 pairs ops loops work r pairs' ops' loops' work')
      (λ i. font_of (take (4 * n) is) (take k ks) (take (2 * e) es) (x i) (y i) (d i)) c)
