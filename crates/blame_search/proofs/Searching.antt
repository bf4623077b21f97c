-- The removals one after the other: the edited instructions, one removal's answer, and the first answer of several.
-- Assumes nothing.
use mathlib.Core.Path.{◌≡◌, refl, sym, ap, ◌∙◌}
use mathlib.Core.Bool.{true, false}
use mathlib.Core.List.{List, ◌++◌, append-nil}
use mathlib.Core.Logic.{◌⊎◌, inl, inr}
use Prim.Native.Nat.{ℕ, zero, suc, ◌≤◌, ◌<◌}
use native.Mathlib.Nat.{eq-or-lt_of_le}
use native.Mathlib.Omega.{arith}
use lib.IntN.{ℤ}
use lib.ListN.{length, drop_of_length-le}
use lib.Seq.{sets}
use Rattle.words.proofs.Lists.{sets_front}
use Rattle.lang.specs.Records.{count}
use Rattle.fonts.specs.Fonts.{Font}
use Rattle.fonts.specs.Compiled.{room_of, font_table, font_ops, sized_refusal}
use Rattle.captions.specs.declared.RunOptions.{RunOptions}
use Rattle.captions.specs.Begin.{fresh_state}
use Rattle.removals.specs.declared.Blamed.{Blamed}
use Rattle.removals.specs.declared.Blamed.TheVariants.{At, Nothing, Refused}
use Rattle.removals.specs.declared.FontNumbers.{FontNumbers}
use Rattle.removals.specs.Removed.{without_instruction, font_at, size_number}
use Rattle.removals.specs.Items.{run_items, font_items, same_items}
use Rattle.removals.specs.Search.{removal_answer, answer_without, or_next, first_answer}
use Rattle.blame_removal.specs.Edited.{AnswersEdited}
use Rattle.blame_search.specs.Searching.{is_nothing, Searches}

-- ---- the edited instructions

-- a list copied over one that is as long
copied : (s d : List ℤ) → length d ≡ length s → sets d 0 s ≡ s
copied s d l =
    sets_front s d (omega (arith, l)) ∙ ap (λ (x : List ℤ). s ++ x) (drop_of_length-le d {i = length s} (omega (arith, l))) ∙ append-nil s

pub edit_is : (s d : List ℤ) (i : ℕ) → length d ≡ length s → without_instruction (sets d 0 s) i ≡ without_instruction s i
edit_is s d i l = ap (λ (x : List ℤ). without_instruction x i) (copied s d l)

-- ---- the first answer

pub none_is : (x : Blamed) → is_nothing x ≡ true → x ≡ Nothing
none_is (At i) e = absurd (let z : ◌≡◌ {A = ℕ} 0 1 = cc in omega arith)
none_is Nothing e = refl
none_is (Refused n) e = absurd (let z : ◌≡◌ {A = ℕ} 0 1 = cc in omega arith)

module _ (answer : ℕ → Blamed) where
  pub first_more : (i : ℕ) (x : Blamed) → first_answer answer i ≡ Nothing → x ≡ answer i → first_answer answer (suc i) ≡ x
  unfolding first_answer
  first_more i x e h = rw e (sym h)

  kept_next : (x y : Blamed) → is_nothing x ≡ false → or_next x y ≡ x
  kept_next (At i) y e = refl
  kept_next Nothing y e = absurd (let z : ◌≡◌ {A = ℕ} 0 1 = cc in omega arith)
  kept_next (Refused n) y e = refl

  kept_by : (n i : ℕ) (x : Blamed) → is_nothing x ≡ false → first_answer answer i ≡ x → (i ≤ n → first_answer answer n ≡ x) → (i ≡ suc n) ⊎ (i < suc n) →
      first_answer answer (suc n) ≡ x
  unfolding first_answer
  kept_by n i x e h k (inl q) = ap (first_answer answer) (sym q) ∙ h
  kept_by n i x e h k (inr l) = rw (k (omega (arith, l))) (kept_next x (answer n) e)

  pub first_kept : (n i : ℕ) (x : Blamed) → is_nothing x ≡ false → first_answer answer i ≡ x → i ≤ n → first_answer answer n ≡ x
  first_kept zero i x e h l = ap (first_answer answer) (let z : 0 ≡ i = omega (arith, l) in z) ∙ h
  first_kept (suc n) i x e h l = kept_by n i x e h (first_kept n i x e h) (eq-or-lt_of_le l)

-- ---- the loop

module _ (s kerns entries : List ℤ) (numbers : FontNumbers) (word : List ℕ) (options : RunOptions) (pairs ops pairs₀ ops₀ edited₀ : List ℤ)
    (work₀ : List ℕ) where
  abbrev f : Font
  f = font_at s kerns entries numbers

  -- what the removals answer, in the room of the lists that were lent
  abbrev pub answers_of : ℕ → Blamed
  answers_of = answer_without f (room_of (length pairs₀) (length ops₀) 0 (length work₀)) (size_number numbers) word options

  -- the table is the font's, and the list for edited instructions is as long as they are
  pub record Lent : Type 0 where
    pub table : pairs ≡ font_table f
    pub op_table : ops ≡ font_ops f
    pub long : length edited₀ ≡ length s

  -- the loop stands before removal i: every list is as long as it was, and no removal below alters anything
  pub record Standing (pairs₁ ops₁ edited₁ : List ℤ) (work₁ : List ℕ) (i : ℕ) : Type 0 where
    pub table : length pairs₁ ≡ length pairs₀
    pub op_table : length ops₁ ≡ length ops₀
    pub edits : length edited₁ ≡ length edited₀
    pub work : length work₁ ≡ length work₀
    pub within : i ≤ count s
    pub none : Lent → first_answer answers_of i ≡ Nothing

  pub standing_none : Standing pairs₀ ops₀ edited₀ work₀ 0
  unfolding first_answer
  standing_none = record { table = refl; op_table = refl; edits = refl; work = refl; within = omega arith; none = λ _. refl }

  module _ (pairs₁ ops₁ edited₁ : List ℤ) (work₁ : List ℕ) (i : ℕ) (h : Standing pairs₁ ops₁ edited₁ work₁ i) (edited : List ℤ)
      (d : edited ≡ without_instruction (sets edited₁ 0 s) i) (x : Blamed) (pairs' ops' : List ℤ) (work' : List ℕ)
      (a : AnswersEdited i (font_at edited kerns entries numbers) (size_number numbers) word options pairs ops pairs₁ ops₁ work₁ x pairs' ops' work') where
    removal-is : Lent → x ≡ answers_of i
    removal-is l =
        let e : edited ≡ without_instruction s i = d ∙ edit_is s edited₁ i (h.edits ∙ l.long) in
        a.answer
        ∙ (λ j. removal_answer i (sized_refusal (font_at (e j) kerns entries numbers) (room_of (h.table j) (h.op_table j) 0 (h.work j)) (size_number numbers))
        (same_items (run_items (l.table j) (l.op_table j) numbers.boundary word options (fresh_state word options))
        (font_items (font_at (e j) kerns entries numbers) word options)))

    pub standing_more : length edited ≡ length edited₁ → length pairs' ≡ length pairs₁ → length ops' ≡ length ops₁ → length work' ≡ length work₁ →
        i < count s → is_nothing x ≡ true → (k : ℕ) → k ≡ suc i → Standing pairs' ops' edited work' k
    standing_more le lp lo lw m n k q =
        record {
          table = lp ∙ h.table;
          op_table = lo ∙ h.op_table;
          edits = le ∙ h.edits;
          work = lw ∙ h.work;
          within = omega (arith, m, q);
          none = λ l. ap (first_answer answers_of) q ∙ first_more answers_of i x (h.none l) (removal-is l) ∙ none_is x n;
        }

    pub standing_found : is_nothing x ≡ false → i < count s →
        Searches f (size_number numbers) word options pairs ops pairs₀ ops₀ edited₀ work₀ x
    standing_found n m =
        record {
          answer = λ t o g.
              let l : Lent = record { table = t; op_table = o; long = g } in
              sym (first_kept answers_of (count s) (suc i) x n (first_more answers_of i x (h.none l) (removal-is l)) (omega (arith, m)));
        }
