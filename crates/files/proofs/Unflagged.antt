-- Laws of a program with the flags of its redirects off: an entry stands for the same, and an instruction that is no redirect is the same.
-- Assumes nothing.
use mathlib.Core.Path.{◌≡◌, refl, sym, ap, ◌∙◌}
use mathlib.Core.Bool.{Bool, true, false, cond}
use mathlib.Core.List.{List, [], ◌∷◌}
use Prim.Native.Nat.{ℕ, zero, suc, ◌%◌, ◌<◌}
use native.Mathlib.Omega.{arith}
use lib.IntN.{ℤ, pos}
use lib.Dec.{ltb, eqb}
use lib.ListN.{length}
use borrow.Author.Tests.{le-leb, ltb-true}
use Rattle.words.specs.Words.{word_of}
use Rattle.lang.specs.declared.instruction.Instruction.{Instruction}
use Rattle.lang.specs.Records.{count, field, is_kind, instruction_at, next_of, operation_of}
use Rattle.lang.specs.Checks.{unless, or_else, program_refusal, range_refusal, passthrough_refusal}
use Rattle.lang.specs.Answers.{Reply, reply_of, room_refusal}
use Rattle.lang.proofs.Refusals.{or_else_none, taken_reply}
use Rattle.entry_targets.specs.Targets.{target_at, stands_for, entry_refusal}
use Rattle.entry_unpack.specs.Unpacking.{unpack_refusal, unpack_entry}
use Rattle.files.specs.Purpose.{unflagged}
use Rattle.files.proofs.Shared.{changed_count, changed_not, changed_kind, changed_operand, changed_taken}

-- an answer that is taken was not refused
taken_number : (m : ℕ) (vs ws : List ℤ) → reply_of m vs ≡ reply_of 0 ws → m ≡ 0
taken_number m vs ws e = by m vs (ap (λ (r : Reply). r.number) e)
  where
    by : (k : ℕ) (us : List ℤ) → (reply_of k us).number ≡ 0 → k ≡ 0
    by zero us q = refl
    by (suc k) us q = q

entry_below : (b : Bool) (x : ℕ) → cond b x 8 ≡ 0 → b ≡ true
entry_below true x e = refl
entry_below false x e = absurd (omega arith)

abbrev from_fields : ℤ → ℤ → ℤ → ℤ → Instruction
from_fields a b c d = record { next_instruction = next_of a; right_char = record { 0 = word_of b % 256 }; operation = operation_of (word_of c) d }

fields_same : {a a' b b' c c' d d' : ℤ} → a ≡ a' → b ≡ b' → c ≡ c' → d ≡ d' → from_fields a b c d ≡ from_fields a' b' c' d'
fields_same p q r s = rw (p, q, r, s)

none_of_five : {a b c d e : ℕ} → a ≡ 0 → b ≡ 0 → c ≡ 0 → d ≡ 0 → e ≡ 0 → or_else a (or_else b (or_else c (or_else d e))) ≡ 0
none_of_five p q r s t = rw (p, q, r, s, t)

module _ (s : List ℤ) where
  abbrev operand : ℕ → ℤ
  operand i = pos (word_of (field s i 3) % 65536)

  pub unflagged_count : count (unflagged s) ≡ count s
  unflagged_count = changed_count s (is_kind 3 s) (pos 3) operand

  pub unflagged_program : program_refusal s ≡ 0 → program_refusal (unflagged s) ≡ 0
  unflagged_program ok =
      changed_taken s (is_kind 3 s) (pos 3) operand ok (λ i h t. le-leb (word_of (field s i 3) % 65536) 131071 (omega arith))

  -- ---- instruction i

  module _ (i : ℕ) (h : i < count s) where
    pub unflagged_kind : is_kind 3 (unflagged s) i ≡ is_kind 3 s i
    unflagged_kind = by (is_kind 3 s i) refl
      where
        by : (b : Bool) → is_kind 3 s i ≡ b → is_kind 3 (unflagged s) i ≡ b
        by true t = ap (λ (z : ℤ). eqb (word_of z) 3) (changed_kind s (is_kind 3 s) (pos 3) operand i h t)
        by false t = ap (λ (z : ℤ). eqb (word_of z) 3) (changed_not s (is_kind 3 s) (pos 3) operand i 2 h (omega arith) t) ∙ t

    unflagged-target : target_at (unflagged s) i ≡ target_at s i
    unflagged-target = by (is_kind 3 s i) refl
      where
        by : (b : Bool) → is_kind 3 s i ≡ b → target_at (unflagged s) i ≡ target_at s i
        by true t =
            ap (λ (z : ℤ). word_of z % 65536) (changed_operand s (is_kind 3 s) (pos 3) operand i h t)
            ∙ (let e : word_of (field s i 3) % 65536 % 65536 ≡ word_of (field s i 3) % 65536 = omega arith in e)
        by false t = ap (λ (z : ℤ). word_of z % 65536) (changed_not s (is_kind 3 s) (pos 3) operand i 3 h (omega arith) t)

    pub unflagged_stands : stands_for (unflagged s) i ≡ stands_for s i
    unflagged_stands = stands_same unflagged_kind unflagged-target
      where
        stands_same : {a b : Bool} {x y : ℕ} → a ≡ b → x ≡ y → cond a x i ≡ cond b y i
        stands_same p q = rw (p, q)

    pub unflagged_entry : entry_refusal (unflagged s) i ≡ entry_refusal s i
    unflagged_entry = entry-same unflagged_count unflagged_kind unflagged-target
      where
        entry-same : {m n : ℕ} {a b : Bool} {x y : ℕ} → m ≡ n → a ≡ b → x ≡ y →
            ◌≡◌ {A = ℕ} (cond (ltb i m) (cond a (unless 9 (ltb x m)) 0) 8) (cond (ltb i n) (cond b (unless 9 (ltb y n)) 0) 8)
        entry-same p q r = rw (p, q, r)

    -- an instruction that is no redirect
    pub unflagged_same : is_kind 3 s i ≡ false → instruction_at (unflagged s) i ≡ instruction_at s i
    unflagged_same t =
        let same : (m : ℕ) → m < 4 → field (unflagged s) i m ≡ field s i m = λ m l. changed_not s (is_kind 3 s) (pos 3) operand i m h l t in
        fields_same (same 0 (omega arith)) (same 1 (omega arith)) (same 2 (omega arith)) (same 3 (omega arith))

  -- ---- an entry

  pub unflagged_unpacks : (e : ℤ) (p : List ℕ) (room : ℕ) (vs : List ℤ) → unpack_entry s e p room ≡ reply_of 0 vs →
      unpack_entry (unflagged s) e p room ≡ reply_of 0 vs
  unflagged_unpacks e p room vs q =
      let z = taken_number (unpack_refusal s e p room) (pos (stands_for s (word_of e)) ∷ []) vs q in
      let a = or_else_none (program_refusal s)
      (or_else (range_refusal 255 e) (or_else (passthrough_refusal p s) (or_else (entry_refusal s (word_of e)) (room_refusal (length p) room)))) z in
      let b = or_else_none (range_refusal 255 e) (or_else (passthrough_refusal p s) (or_else (entry_refusal s (word_of e)) (room_refusal (length p) room))) a.1 in
      let c = or_else_none (passthrough_refusal p s) (or_else (entry_refusal s (word_of e)) (room_refusal (length p) room)) b.1 in
      let d = or_else_none (entry_refusal s (word_of e)) (room_refusal (length p) room) c.1 in
      let h = ltb-true (word_of e) (count s)
      (entry_below (ltb (word_of e) (count s)) (cond (is_kind 3 s (word_of e)) (unless 9 (ltb (target_at s (word_of e)) (count s))) 0) d.0) in
      let u : unpack_refusal (unflagged s) e p room ≡ 0 =
      none_of_five (unflagged_program a.0) b.0 (ap (λ (n : ℕ). unless 4 (eqb (length p) n)) unflagged_count ∙ c.0)
      (unflagged_entry (word_of e) h ∙ d.0) d.1 in
      sym (taken_reply (pos (stands_for (unflagged s) (word_of e)) ∷ []) u)
      ∙ ap (λ (n : ℕ). reply_of 0 (pos n ∷ [])) (unflagged_stands (word_of e) h)
      ∙ taken_reply (pos (stands_for s (word_of e)) ∷ []) z
      ∙ q
