-- Laws of what writing a font file tells: the lower of two numbers, and the file and its length by it. Assumes nothing.
use mathlib.Core.Path.{◌≡◌, refl, sym, ap, ◌∙◌}
use mathlib.Core.List.{List, [], ◌∷◌, map}
use Prim.Native.Nat.{ℕ, zero, suc, ◌*◌}
use native.Mathlib.Omega.{arith}
use lib.IntN.{pos}
use lib.ListN.{length}
use Rattle.lang.specs.declared.Written.{Written}
use Rattle.lang.specs.Records.{count}
use Rattle.lang.specs.Checks.{lower}
use Rattle.lang.specs.Answers.{reply_of, room_refusal, list_of, written_reply}
use Rattle.lang.proofs.Refusals.{lower_first, lower_less, lower_none}
use Rattle.lang.proofs.Filled.{refused_list}
use Rattle.files.specs.Writing.{Writable, written_kerns, written_instructions, written_size, written_file, write_refusal, ReplacesProgram}
use Rattle.c_values.specs.Telling.{natural, told_number, TellsHost, kept}
use Rattle.c_values.proofs.Telling.{kept_list}
use Rattle.c_files.specs.Files.{HostReplaces}

lower_same : (n : ℕ) → lower n n ≡ n
lower_same zero = refl
lower_same (suc n) = sym (lower_less (suc n) (suc n) (λ z. omega (arith, z)) (λ z. omega (arith, z)) (omega arith))

-- 15 that is told where nothing else refuses is the same 15
pub told_lower : (m n room : ℕ) → lower (room_refusal 1 room) (told_number (reply_of m (pos n ∷ [])) room) ≡ lower (room_refusal 1 room) m
told_lower zero n room = lower_same (room_refusal 1 room) ∙ lower_first (room_refusal 1 room) 0 refl
told_lower (suc m) n room = refl

-- what was told by the one number is what the lower of the two tells
pub told_values : (m n room r : ℕ) {d : List ℕ} → r ≡ lower (room_refusal 1 room) m →
    d ≡ list_of (told_number (reply_of m (pos n ∷ [])) room) 0 room (map natural (reply_of m (pos n ∷ [])).values) → d ≡ list_of r 0 room (n ∷ [])
told_values zero n room r e d =
    d ∙ ap (λ (j : ℕ). list_of j 0 room (n ∷ [])) (lower_first (room_refusal 1 room) 0 refl ∙ sym e)
told_values (suc m) n room r e d =
    refused_list 0 room (n ∷ []) {m = r} refl (λ z. let q = (lower_none (room_refusal 1 room) (suc m) (sym e ∙ z)).1 in omega (arith, q)) d

module _ (old : List ℕ) (f : Writable) (out values : List ℕ) where
  abbrev size : ℕ
  size = 4 * written_size old (count (written_instructions f)) (length (written_kerns f))

  abbrev refusal : ℕ
  refusal = write_refusal old f (length out)

  pub host_replaces : {written : Written} {told room r : ℕ} {out₁ out₂ values₁ : List ℕ} → ReplacesProgram old f out written out₁ →
      TellsHost (written_reply written) values told values₁ → length out₁ ≡ length out → length values₁ ≡ length values →
      room ≡ room_refusal 1 (length values₁) → r ≡ lower room told → out₂ ≡ kept r 0 out₁ → HostReplaces old f out values r out₂ values₁
  host_replaces {told = told} {room} {r} {values₁ = values₁} w t l k e g c =
      let t' : TellsHost (reply_of refusal (pos size ∷ [])) values told values₁ = rw w.answer at t in
      let room_is : lower room told ≡ lower (room_refusal 1 (length values)) told = ap (λ (x : ℕ). lower x told) (e ∙ ap (room_refusal 1) k) in
      let number : r ≡ lower (room_refusal 1 (length values)) refusal =
      g ∙ room_is ∙ ap (lower (room_refusal 1 (length values))) t'.number ∙ told_lower refusal size (length values) in
      record {
        number = number;
        file =
            kept_list 0 (length out) r refusal (written_file old f) (λ z. (lower_none (room_refusal 1 (length values)) refusal (sym number ∙ z)).1)
            w.file l c;
        told = told_values refusal size (length values) r number t'.told;
      }
