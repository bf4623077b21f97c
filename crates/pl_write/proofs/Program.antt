-- An instruction as its properties, and all of them one after the other.
-- Assumes nothing.
use mathlib.Core.Path.{◌≡◌, refl, ap, sym, ◌∙◌}
use mathlib.Core.Bool.{Bool, true, false, cond}
use mathlib.Core.List.{List, [], ◌∷◌, ◌++◌, append-nil}
use Prim.Native.Nat.{ℕ, zero, suc, ◌+◌, ◌/◌, ◌%◌, ◌<◌, ◌≤◌, min}
use native.Mathlib.Numerals.{add-one}
use native.Mathlib.Omega.{arith}
use lib.IntN.{ℤ, pos}
use lib.Dec.{eqb}
use lib.ListN.{length, get_or}
use borrow.Author.Tests.{eq-eqb, ne_eqb}
use Rattle.words.specs.Words.{Word, word_of, number_of}
use Rattle.words.proofs.Bits.{number_is}
use Rattle.lang.specs.Records.{count, field, right_of}
use Rattle.property_lists.specs.Putting.{PutsCounted}
use Rattle.property_lists.specs.Displays.{lig_line, krn_line, next_line, kern_shown, step_line, char_labels, label_lines, instruction_lines, program_lines}
use Rattle.property_lists.proofs.Putting.{counted_none, counted_more}
use Rattle.pl_write.specs.NextLabels.{NextLabel, NextLabelIn}

-- ---- one instruction

module _ (s kerns : List ℤ) (i : ℕ) {k : ℕ} (q : Word (field s i 2) k) where
  kind_is : (n : ℕ) → k ≡ n → eqb (word_of (field s i 2)) n ≡ true
  kind_is n e = eq-eqb (word_of (field s i 2)) n (sym q.is ∙ e)

  kind_not : (n : ℕ) → (k ≡ n → ⊥) → eqb (word_of (field s i 2)) n ≡ false
  kind_not n h = ne_eqb (word_of (field s i 2)) n (λ e. h (q.is ∙ e))

  pub kern_index : {o r : ℕ} → Word (field s i 3) o → k ≡ 1 → Word (get_or kerns o (pos 0)) r → Word (kern_shown s kerns i) r
  kern_index {o} {r} a e b =
      let v : Word (get_or kerns (word_of (field s i 3)) (pos 0)) r = rw a.is at b in
      rw (kind_is 1 e) v

  pub kern_value : {o : ℕ} → Word (field s i 3) o → (k ≡ 1 → ⊥) → Word (kern_shown s kerns i) o
  kern_value a h = rw (kind_not 1 h) a

  pub step_lig : {a o : ℕ} {out : List ℕ} {at r : ℕ} {d : List ℕ} → k ≡ 2 → Word (field s i 1) a → Word (field s i 3) o →
      PutsCounted out at (lig_line (o / 256) (a % 256) (o % 256)) r d → PutsCounted out at (step_line s kerns i) r d
  step_lig {a} {o} {out} {at} {r} {d} e x y p =
      let v : PutsCounted out at (lig_line (word_of (field s i 3) / 256) (right_of s i) (word_of (field s i 3) % 256)) r d = rw (x.is, y.is) at p in
      rw (kind_is 2 e) v

  pub step_krn : {a w : ℕ} {out : List ℕ} {at r : ℕ} {d : List ℕ} → (k ≡ 2 → ⊥) → Word (field s i 1) a → Word (kern_shown s kerns i) w →
      PutsCounted out at (krn_line (a % 256) (number_of w)) r d → PutsCounted out at (step_line s kerns i) r d
  step_krn {a} {w} {out} {at} {r} {d} h x y p =
      let v : PutsCounted out at (krn_line (right_of s i) (kern_shown s kerns i)) r d = rw (x.is, number_is y) at p in
      rw (kind_not 2 h) v

pub instruction_put : (s kerns : List ℤ) (i : ℕ) {w : ℕ} {out : List ℕ} {at m r : ℕ} {d d' : List ℕ} → PutsCounted out at (step_line s kerns i) m d →
    Word (field s i 0) w → PutsCounted d m (next_line (number_of w)) r d' → PutsCounted out at (step_line s kerns i ++ next_line (field s i 0)) r d'
instruction_put s kerns i {w} {out} {at} {m} {r} {d} {d'} p q t =
    counted_more p (let u : PutsCounted d m (next_line (field s i 0)) r d' = rw (number_is q) at t in u)

-- ---- where there is no label

no_chars : (t : List ℤ) (i n : ℕ) → ((b : ℕ) → b < n → word_of (get_or t b (pos 0)) ≡ i → ⊥) → char_labels t i n ≡ []
unfolding char_labels
no_chars t i zero h = refl
no_chars t i (suc n) h =
    rw (no_chars t i n (λ b l. h b (omega arith)), ne_eqb (word_of (get_or t n (pos 0))) i (h n (omega arith)))

no_labels : (t : List ℤ) (i : ℕ) → ((b : ℕ) → b < 257 → word_of (get_or t b (pos 0)) ≡ i → ⊥) → label_lines t i ≡ []
no_labels t i h =
    rw (ne_eqb (word_of (get_or t 256 (pos 0))) i (h 256 (omega arith)), no_chars t i 256 (λ b l. h b (omega arith)))

-- ---- all instructions

module _ (s kerns t : List ℤ) {out₀ : List ℕ} {at : ℕ} where
  pub program_none : {r : ℕ} → r ≡ min at (length out₀ + 1) → PutsCounted out₀ at (program_lines s kerns t 0) r out₀
  unfolding program_lines
  program_none e = counted_none out₀ at e

  module _ (i : ℕ) {next : ℕ} {out : List ℕ} (p : PutsCounted out₀ at (program_lines s kerns t i) next out) where
    pub program_labelled : {m r m₁ : ℕ} {d d' d₁ : List ℕ} → PutsCounted out next (label_lines t i) m d → d₁ ≡ d → m₁ ≡ m →
        PutsCounted d₁ m₁ (step_line s kerns i ++ next_line (field s i 0)) r d' → PutsCounted out₀ at (program_lines s kerns t (i + 1)) r d'
    unfolding program_lines
    program_labelled {m} {r} {d = d} {d' = d'} x e g y =
        let z : PutsCounted d m (step_line s kerns i ++ next_line (field s i 0)) r d' = rw (e, g) at y in
        rw add-one (counted_more p (counted_more x z))

    pub program_plain : {r m₁ : ℕ} {d d₁ : List ℕ} → label_lines t i ≡ [] → d₁ ≡ out → m₁ ≡ next →
        PutsCounted d₁ m₁ (step_line s kerns i ++ next_line (field s i 0)) r d → PutsCounted out₀ at (program_lines s kerns t (i + 1)) r d
    unfolding program_lines
    program_plain {r} {d = d} n e g y =
        let z : PutsCounted out next (step_line s kerns i ++ next_line (field s i 0)) r d = rw (e, g) at y in
        rw (add-one, n) (counted_more p z)

pub program_all : (s kerns t : List ℤ) (i n : ℕ) {out : List ℕ} {at r : ℕ} {d : List ℕ} → i ≡ n → PutsCounted out at (program_lines s kerns t i) r d →
    PutsCounted out at (program_lines s kerns t n) r d
program_all s kerns t i n e p = rw e at p

-- a label that is further on
module _ (t : List ℤ) (i label : ℕ) (n : NextLabel t i label) (h : i ≡ label → ⊥) where
  further : i < label
  further = let l = n.least in omega arith

  pub passed_none : label_lines t i ≡ []
  passed_none = no_labels t i (λ b l e. n.none b i l (omega arith) further e)

  pub passed_next : NextLabel t (i + 1) label
  passed_next = record { least = let l = further in omega arith; none = λ b j l f g e. n.none b j l (omega arith) g e }
