-- What writing a property list tells: the lower of two numbers, and the text and its length by it. Assumes nothing.
use mathlib.Core.Path.{◌≡◌, sym, ap, ◌∙◌}
use mathlib.Core.List.{List, [], ◌∷◌}
use Prim.Native.Nat.{ℕ}
use lib.IntN.{ℤ, pos}
use lib.ListN.{length}
use Rattle.lang.specs.declared.Written.{Written}
use Rattle.lang.specs.Checks.{lower}
use Rattle.lang.specs.Answers.{reply_of, room_refusal, written_reply}
use Rattle.lang.proofs.Refusals.{lower_none}
use Rattle.property_lists.specs.Displays.{display_text, display_refusal, Displays}
use Rattle.c_values.specs.Telling.{TellsHost, kept}
use Rattle.c_values.proofs.Telling.{kept_list}
use Rattle.c_files.proofs.Replacing.{told_lower, told_values}
use Rattle.c_display.specs.Display.{HostDisplays}

module _ (s kerns es : List ℤ) (b l : ℤ) (text values : List ℕ) where
  abbrev size : ℕ
  size = length (display_text s kerns es b l)

  abbrev refusal : ℕ
  refusal = display_refusal s kerns es b l (length text)

  pub host_displays : {written : Written} {told room r : ℕ} {text₁ text₂ values₁ : List ℕ} → Displays s kerns es b l text written text₁ →
      TellsHost (written_reply written) values told values₁ → length text₁ ≡ length text → length values₁ ≡ length values →
      room ≡ room_refusal 1 (length values₁) → r ≡ lower room told → text₂ ≡ kept r 0 text₁ → HostDisplays s kerns es b l text values r text₂ values₁
  host_displays {told = told} {room} {r} {values₁ = values₁} w t n k e g c =
      let t' : TellsHost (reply_of refusal (pos size ∷ [])) values told values₁ = rw w.answer at t in
      let room_is : lower room told ≡ lower (room_refusal 1 (length values)) told = ap (λ (x : ℕ). lower x told) (e ∙ ap (room_refusal 1) k) in
      let number : r ≡ lower (room_refusal 1 (length values)) refusal =
      g ∙ room_is ∙ ap (lower (room_refusal 1 (length values))) t'.number ∙ told_lower refusal size (length values) in
      record {
        number = number;
        list =
            kept_list 0 (length text) r refusal (display_text s kerns es b l)
            (λ z. (lower_none (room_refusal 1 (length values)) refusal (sym number ∙ z)).1) w.list n c;
        told = told_values refusal size (length values) r number t'.told;
      }
