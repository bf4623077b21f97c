-- The parts of a line, one after the other.
-- Assumes nothing.
use mathlib.Core.Path.{◌≡◌}
use mathlib.Core.List.{List, [], ◌∷◌}
use Prim.Native.Nat.{ℕ, zero, suc, ◌+◌, ◌-◌, ◌/◌, ◌%◌, ◌^◌, ◌<◌, ◌≤◌, min}
use native.Mathlib.Omega.{arith}
use lib.IntN.{pos, negsuc}
use lib.ListN.{length, replicate}
use Rattle.words.specs.Words.{number_of}
use Rattle.words.proofs.Bits.{number_pos, number_neg}
use Rattle.points.specs.Printing.{whole_text}
use Rattle.property_lists.specs.Putting.{PutsCounted}
use Rattle.property_lists.specs.RealTexts.{real_text}
use Rattle.property_lists.specs.Displays.{octal_char, line_end, lig_name, lig_line, krn_line, next_line}
use Rattle.property_lists.proofs.Putting.{counted_none, counted_more}
use Rattle.pl_labels.proofs.Labels.{three_put}

pub name_put : (op : ℕ) {out : List ℕ} {at : ℕ} {a b c r : ℕ} {out₁ out₂ out₃ out₄ : List ℕ} → PutsCounted out at (replicate (op / 2 % 2) 47) a out₁ →
    PutsCounted out₁ a (76 ∷ 73 ∷ 71 ∷ []) b out₂ → PutsCounted out₂ b (replicate (op % 2) 47) c out₃ →
    PutsCounted out₃ c (replicate (op / 4) 62) r out₄ → PutsCounted out at (lig_name op) r out₄
name_put op p q s t = counted_more p (counted_more q (counted_more s t))

pub lig_put : (op right inserted : ℕ) {out : List ℕ} {at : ℕ} {a b c d r : ℕ} {out₁ out₂ out₃ out₄ out₅ : List ℕ} →
    PutsCounted out at (32 ∷ 32 ∷ 32 ∷ 40 ∷ []) a out₁ → PutsCounted out₁ a (lig_name op) b out₂ → PutsCounted out₂ b (octal_char right) c out₃ →
    PutsCounted out₃ c (octal_char inserted) d out₄ → PutsCounted out₄ d line_end r out₅ → PutsCounted out at (lig_line op right inserted) r out₅
lig_put op right inserted p q s t u = counted_more p (counted_more q (counted_more s (counted_more t u)))

pub krn_put : (right kern : ℕ) {out : List ℕ} {at : ℕ} {a b c d r : ℕ} {out₁ out₂ out₃ out₄ out₅ : List ℕ} →
    PutsCounted out at (32 ∷ 32 ∷ 32 ∷ 40 ∷ 75 ∷ 82 ∷ 78 ∷ []) a out₁ → PutsCounted out₁ a (octal_char right) b out₂ →
    PutsCounted out₂ b (32 ∷ 82 ∷ 32 ∷ []) c out₃ → PutsCounted out₃ c (real_text (number_of kern)) d out₄ → PutsCounted out₄ d line_end r out₅ →
    PutsCounted out at (krn_line right (number_of kern)) r out₅
krn_put right kern p q s t u = counted_more p (counted_more q (counted_more s (counted_more t u)))

-- ---- next

pub skip_put : (n : ℕ) {out : List ℕ} {at : ℕ} {a b r : ℕ} {out₁ out₂ out₃ : List ℕ} → 1 ≤ n → n < 2147483648 →
    PutsCounted out at (32 ∷ 32 ∷ 32 ∷ 40 ∷ 83 ∷ 75 ∷ 73 ∷ 80 ∷ 32 ∷ 68 ∷ 32 ∷ []) a out₁ → PutsCounted out₁ a (whole_text n) b out₂ →
    PutsCounted out₂ b line_end r out₃ → PutsCounted out at (next_line (number_of n)) r out₃
skip_put zero h l p q s = absurd (omega arith)
skip_put (suc n) h l p q s = rw (number_pos (suc n) l) (three_put p q s)

pub none_put : (out : List ℕ) (at n : ℕ) {r : ℕ} → n ≡ 0 → r ≡ min at (length out + 1) → PutsCounted out at (next_line (number_of n)) r out
none_put out at n e g = rw e (counted_none out at g)

pub stop_put : (w : ℕ) {out : List ℕ} {at r : ℕ} {d : List ℕ} → 2147483648 ≤ w →
    PutsCounted out at (32 ∷ 32 ∷ 32 ∷ 40 ∷ 83 ∷ 84 ∷ 79 ∷ 80 ∷ line_end) r d → PutsCounted out at (next_line (number_of w)) r d
stop_put w h p = rw (number_neg w h) p
