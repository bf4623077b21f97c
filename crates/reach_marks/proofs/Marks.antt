-- Laws of the marks of instructions (specs/Marks).
-- Assumes nothing.
use mathlib.Core.Path.{◌≡◌, refl, sym, ap, ◌∙◌}
use mathlib.Core.Bool.{Bool, true, false, cond}
use mathlib.Core.List.{List}
use Prim.Native.Nat.{ℕ, zero, suc, ◌+◌, ◌/◌, ◌<◌, ◌≤◌}
use native.Mathlib.Numerals.{add-one}
use native.Mathlib.Omega.{arith}
use lib.IntN.{ℤ}
use lib.Dec.{eqb}
use lib.ListN.{length, get_or, set, replicate, length-set, length-replicate}
use borrow.Author.Tests.{eq-eqb, ne_eqb, lt-ltb}
use Rattle.words.specs.Words.{word_of}
use Rattle.std.specs.Prelude.{Option, None, Some}
use Rattle.lang.specs.Records.{count, instruction_at}
use Rattle.lang.specs.Checks.{entry_at}
use Rattle.program_chain.specs.Chains.{Program, onward_from, step_at}
use Rattle.reach_marks.specs.Marks.{entries_marked, left_marked, onward_marked, marks_after, reachable}

-- ---- the entries are marked (TFtoPL 68)

pub marked_none : (n : ℕ) (es : List ℤ) (m : List ℕ) → m ≡ replicate n 0 → m ≡ entries_marked (length m) es 0
unfolding entries_marked
marked_none n es m e = e ∙ ap (λ (k : ℕ). replicate k 0) (sym (ap length e ∙ length-replicate n 0))

pub marked_more : (n : ℕ) (es : List ℤ) (k w : ℕ) (m m' : List ℕ) → m ≡ entries_marked n es k → w ≡ word_of (entry_at es k) → m' ≡ set m w 1 →
    m' ≡ entries_marked n es (k + 1)
unfolding entries_marked
marked_more n es k w m m' e f g = rw add-one (g ∙ rw (e, f))

pub length_entries : (n : ℕ) (es : List ℤ) (k : ℕ) → length (entries_marked n es k) ≡ n
unfolding entries_marked
length_entries n es zero = length-replicate n 0
length_entries n es (suc k) = length-set (entries_marked n es k) (word_of (entry_at es k)) 1 ∙ length_entries n es k

pub marked_all : (n n' : ℕ) (es : List ℤ) (k : ℕ) (m : List ℕ) → m ≡ entries_marked n es k → n ≡ n' → k ≤ length es / 2 → length es / 2 ≤ k →
    m ≡ entries_marked n' es (length es / 2)
marked_all n n' es k m e f h l =
    let g : k ≡ length es / 2 = omega arith in
    e ∙ rw (f, g)

-- ---- the left boundary's entry (TFtoPL 69)

pub left_last : (n w : ℕ) (left : ℤ) (m : List ℕ) → w ≡ word_of left → w + 1 ≡ n → m ≡ left_marked n left m
left_last n w left m e h = rw (eq-eqb (word_of left + 1) n (rw e at h))

pub left_other : (n w : ℕ) (left : ℤ) (m m' : List ℕ) → w ≡ word_of left → (w + 1 ≡ n → ⊥) → m' ≡ set m w 1 → m' ≡ left_marked n left m
left_other n w left m m' e h g = rw (ne_eqb (word_of left + 1) n (rw e at h)) (g ∙ rw e)

length_either : (t : Bool) (m : List ℕ) (i : ℕ) → length (cond t m (set m i 1)) ≡ length m
length_either true m i = refl
length_either false m i = length-set m i 1

-- ---- the pass (TFtoPL 70)

step_at_lem : (n : ℕ) (program : Program) (i : ℕ) → i < n → step_at n program i ≡ Some (i, onward_from n (program i).next_instruction i)
step_at_lem n program i h = rw (lt-ltb i n h)

-- below the count a step is no end, and goes where the definition says
pub step_ends : (n : ℕ) (program : Program) (i : ℕ) (r : Option (ℕ × ℕ)) → i < n → r ≡ step_at n program i → r ≡ None → ⊥
step_ends n program i r h e g =
    let z : ◌≡◌ {A = ℕ} 0 1 = cc (step_at_lem n program i h) in
    omega arith

pub step_onward : (n : ℕ) (program : Program) (i j on : ℕ) (r : Option (ℕ × ℕ)) → i < n → r ≡ step_at n program i → r ≡ Some (j, on) →
    on ≡ onward_from n (program i).next_instruction i
step_onward n program i j on r h e g =
    let p : ◌≡◌ {A = ℕ × ℕ} (i, onward_from n (program i).next_instruction i) (j, on) = cc (step_at_lem n program i h) in
    sym (ap (λ (x : ℕ × ℕ). x.1) p)

pub pass_bare : (s : List ℤ) (m : List ℕ) (i : ℕ) → get_or m i 0 ≡ 0 → m ≡ onward_marked s m i
pass_bare s m i e = rw (eq-eqb (get_or m i 0) 0 e)

pub pass_marked : (s : List ℤ) (m m' : List ℕ) (i on : ℕ) → (get_or m i 0 ≡ 0 → ⊥) → on ≡ onward_from (count s) (instruction_at s i).next_instruction i →
    m' ≡ set m on 1 → m' ≡ onward_marked s m i
pass_marked s m m' i on h e g = rw (ne_eqb (get_or m i 0) 0 h) (g ∙ ap (λ (k : ℕ). set m k 1) e)

module _ (s es : List ℤ) (left : ℤ) where
  pub pass_none : (m₀ m₁ m₂ : List ℕ) → length m₀ ≡ count s → m₁ ≡ entries_marked (length m₀) es (length es / 2) → m₂ ≡ left_marked (length m₁) left m₁ →
      m₂ ≡ marks_after s es left 0
  unfolding marks_after
  pass_none m₀ m₁ m₂ l e g =
      let a : m₁ ≡ entries_marked (count s) es (length es / 2) = e ∙ ap (λ (n : ℕ). entries_marked n es (length es / 2)) l in
      let b : length m₁ ≡ count s = ap length a ∙ length_entries (count s) es (length es / 2) in
      g ∙ ap (λ (n : ℕ). left_marked n left m₁) b ∙ ap (λ (m : List ℕ). left_marked (count s) left m) a

  pub pass_more : (i : ℕ) (m m' : List ℕ) → m ≡ marks_after s es left i → m' ≡ onward_marked s m i → m' ≡ marks_after s es left (i + 1)
  unfolding marks_after
  pass_more i m m' e g = rw add-one (g ∙ rw e)

  pub length_marks : (i : ℕ) → length (marks_after s es left i) ≡ count s
  unfolding marks_after
  length_marks zero =
      length_either (eqb (word_of left + 1) (count s)) (entries_marked (count s) es (length es / 2)) (word_of left)
      ∙ length_entries (count s) es (length es / 2)
  length_marks (suc i) =
      length_either (eqb (get_or (marks_after s es left i) i 0) 0) (marks_after s es left i) (onward_from (count s) (instruction_at s i).next_instruction i)
      ∙ length_marks i

-- ---- the list that is lent

module _ (s es : List ℤ) (left : ℤ) (n : ℕ) where
  -- of a byte an instruction
  pub marks_whole : {m : List ℕ} → n ≡ count s → m ≡ cond (eqb n (count s)) (reachable s es left) (replicate n 0) → m ≡ reachable s es left
  marks_whole l e = rw (eq-eqb n (count s) l) at e

  pub marks_fit : {m : List ℕ} → n ≡ count s → m ≡ reachable s es left → m ≡ cond (eqb n (count s)) (reachable s es left) (replicate n 0)
  marks_fit l e = rw (eq-eqb n (count s) l) e

  -- of another length
  pub marks_off : {m : List ℕ} → (n ≡ count s → ⊥) → m ≡ replicate n 0 → m ≡ cond (eqb n (count s)) (reachable s es left) (replicate n 0)
  marks_off h e = rw (ne_eqb n (count s) h) e
