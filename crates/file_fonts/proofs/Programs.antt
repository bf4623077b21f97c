-- Laws of the words of the lig/kern section: what is read of each is an instruction, so that 1 and 2 refuse none.
-- Assumes nothing.
use mathlib.Core.Path.{◌≡◌, refl, sym, ap, subst, ◌∙◌}
use mathlib.Core.Bool.{Bool, true, false}
use mathlib.Core.List.{List, ◌++◌}
use mathlib.Core.Logic.{◌⊎◌, inl, inr}
use Prim.Native.Nat.{ℕ, zero, suc, ◌+◌, ◌-◌, ◌*◌, ◌%◌, ◌<◌, ◌≤◌}
use native.Mathlib.Nat.{eq-or-lt_of_le, le_of_suc-le-suc}
use native.Mathlib.Omega.{arith}
use lib.IntN.{pos}
use lib.Dec.{leb, ltb}
use lib.ListN.{length, get_or, get_or-append}
use lib.Seq.{get_or-append-add}
use borrow.Author.Tests.{ltb-true, ltb-false, leb-false, lt-ltb, le-leb, lt-leb, eq-eqb}
use Rattle.lang.specs.Records.{count, absent_or, operand_fits, is_instruction}
use Rattle.lang.specs.Checks.{program_refusal}
use Rattle.lang.proofs.Every.{every_all}
use Rattle.files.specs.Lengths.{file_byte}
use Rattle.files.specs.Commands.{word_byte, command_next, command_kind, command_operand, command_numbers}
use Rattle.files.specs.Reading.{commands_from}
use Rattle.file_reading.proofs.Laws.{length_commands}

-- ---- the four numbers of a word

next_fits : (a : ℕ) → absent_or 255 (command_next a) ≡ true
next_fits a = by (ltb a 128) refl
  where
    by : (t : Bool) → ltb a 128 ≡ t → absent_or 255 (command_next a) ≡ true
    by true t = rw (t, le-leb a 255 (omega (arith, ltb-true a 128 t)))
    by false t = rw t

module _ (a c d : ℕ) (p : c < 256) (q : d < 256) where
  plain : ltb 128 a ≡ false → (t : Bool) → leb 128 c ≡ t → operand_fits (command_kind a c) (pos (command_operand a c d)) ≡ true
  plain g true t = rw (g, le-leb a 128 (ltb-false 128 a g), t, le-leb (256 * (c - 128) + d) 65535 (omega arith))
  plain g false t = rw (g, le-leb a 128 (ltb-false 128 a g), t, le-leb (256 * c + d) 32767 (omega (arith, leb-false 128 c t)))

  operand_fits_lem : (t : Bool) → ltb 128 a ≡ t → operand_fits (command_kind a c) (pos (command_operand a c d)) ≡ true
  operand_fits_lem true t = rw (t, lt-leb a 128 (ltb-true 128 a t), le-leb (256 * c + d) 131071 (omega arith))
  operand_fits_lem false t = plain t (leb 128 c) refl

-- ---- every instruction

module _ (file : List ℕ) (w : ℕ) where
  number_last : (n k : ℕ) →
      get_or (commands_from file w n ++ command_numbers file (w + n)) (4 * n + k) (pos 0) ≡ get_or (command_numbers file (w + n)) k (pos 0)
  number_last n k =
      ap (λ (j : ℕ). get_or (commands_from file w n ++ command_numbers file (w + n)) (j + k) (pos 0)) (sym (length_commands file w n))
      ∙ get_or-append-add (commands_from file w n) (command_numbers file (w + n)) k (pos 0)

  number_by : (n i k : ℕ) → (i ≡ n) ⊎ (i < n) → k < 4 →
      (i < n → get_or (commands_from file w n) (4 * i + k) (pos 0) ≡ get_or (command_numbers file (w + i)) k (pos 0)) →
      get_or (commands_from file w n ++ command_numbers file (w + n)) (4 * i + k) (pos 0) ≡ get_or (command_numbers file (w + i)) k (pos 0)
  number_by n i k (inl e) l f =
      subst
      (λ (j : ℕ). get_or (commands_from file w n ++ command_numbers file (w + n)) (4 * j + k) (pos 0) ≡ get_or (command_numbers file (w + j)) k (pos 0))
      (sym e) (number_last n k)
  number_by n i k (inr h) l f =
      get_or-append (commands_from file w n) (command_numbers file (w + n)) (pos 0) (4 * i + k) (omega (arith, length_commands file w n)) ∙ f h

  pub number_at : (n i k : ℕ) → i < n → k < 4 → get_or (commands_from file w n) (4 * i + k) (pos 0) ≡ get_or (command_numbers file (w + i)) k (pos 0)
  unfolding commands_from
  number_at zero i k h l = absurd (omega arith)
  number_at (suc n) i k h l = number_by n i k (eq-or-lt_of_le (le_of_suc-le-suc h)) l (λ g. number_at n i k g l)

  module _ (bytes : (i : ℕ) → file_byte file i < 256) (n : ℕ) where
    is_instruction_lem : (i : ℕ) → i < count (commands_from file w n) → is_instruction (commands_from file w n) i ≡ true
    is_instruction_lem i h =
        let l : i < n = omega (arith, h, length_commands file w n) in
        let a = word_byte file (w + i) 0 in
        let b = word_byte file (w + i) 1 in
        let c = word_byte file (w + i) 2 in
        let d = word_byte file (w + i) 3 in
        rw (
          lt-ltb i (count (commands_from file w n)) h,
          number_at n i 0 l (omega arith),
          number_at n i 1 l (omega arith),
          number_at n i 2 l (omega arith),
          number_at n i 3 l (omega arith),
          next_fits a,
          le-leb b 255 (omega (arith, bytes (4 * (w + i) + 1))),
          operand_fits_lem a c d (bytes (4 * (w + i) + 2)) (bytes (4 * (w + i) + 3)) (ltb 128 a) refl,
        )

    pub program_taken : n ≤ 32767 → program_refusal (commands_from file w n) ≡ 0
    program_taken h =
        rw (
          eq-eqb (length (commands_from file w n) % 4) 0 (omega (arith, length_commands file w n)),
          le-leb (count (commands_from file w n)) 32767 (omega (arith, length_commands file w n)),
          every_all (count (commands_from file w n)) (is_instruction (commands_from file w n)) is_instruction_lem,
        )
