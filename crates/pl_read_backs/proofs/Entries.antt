-- The entries of a table that was read: ascending, and they make the table again.
-- Assumes nothing.
use mathlib.Core.Path.{◌≡◌, refl, ap, sym, ◌∙◌}
use mathlib.Core.Bool.{Bool, cond, not}
use mathlib.Core.List.{List, [], ◌∷◌, ◌++◌, append-nil}
use mathlib.Core.Logic.{◌⊎◌, inl, inr}
use Prim.Native.Nat.{ℕ, zero, suc, ◌+◌, ◌*◌, ◌/◌, ◌%◌, ◌<◌, ◌≤◌}
use native.Mathlib.Omega.{arith}
use lib.Dec.{ltb, eqb}
use lib.IntN.{ℤ, pos, negsuc}
use lib.ListN.{length, get_or, set, length-append, get_or-append}
use lib.Seq.{get_or_at, get_or-append-add}
use borrow.Author.Tests.{ne_eqb, lt-ltb, le-ltb}
use Rattle.words.specs.Words.{word_of}
use Rattle.words.specs.Lists.{tabulate}
use Rattle.words.proofs.Lists.{tabulate_ext, tabulate_constant}
use Rattle.words.proofs.Tests.{same_or_not}
use Rattle.lang.specs.Checks.{char_at, entry_at}
use Rattle.lang.specs.Entries.{entered, entries_table}
use Rattle.pack.proofs.Packing.{tabulate_get_d}
use Rattle.file_fonts.proofs.Ascending.{Ascending, none, more, twos}
use Rattle.property_lists.specs.ListReading.{label_entries}
use Rattle.pl_read_backs.proofs.Labels.{table_set, below_same}
use Rattle.pl_programs.proofs.Sound.{LabelIn, no_label, to}

-- ---- one entry more in a table

entered_before : (es : List ℤ) (x y : ℤ) (k : ℕ) → k ≤ length es / 2 → entered (es ++ (x ∷ y ∷ [])) k ≡ entered es k
unfolding entered
entered_before es x y zero h = refl
entered_before es x y (suc k) h =
    rw (
      entered_before es x y k (omega arith),
      get_or-append es (x ∷ y ∷ []) (pos 0) (2 * k) (omega arith),
      get_or-append es (x ∷ y ∷ []) (pos 0) (2 * k + 1) (omega arith),
    )

entered_last : (es : List ℤ) (c : ℕ) (y : ℤ) → length es % 2 ≡ 0 →
    entered (es ++ (pos c ∷ y ∷ [])) (length (es ++ (pos c ∷ y ∷ [])) / 2) ≡ set (entered es (length es / 2)) c y
unfolding entered
entered_last es c y e =
    let n : length (es ++ (pos c ∷ y ∷ [])) / 2 ≡ suc (length es / 2) = simp length-append (omega arith) in
    let char : char_at (es ++ (pos c ∷ y ∷ [])) (length es / 2) ≡ pos c = get_or_at es (pos c) (y ∷ []) (pos 0) (2 * (length es / 2)) (omega arith) in
    let entry : entry_at (es ++ (pos c ∷ y ∷ [])) (length es / 2) ≡ y =
    ap (λ (k : ℕ). get_or (es ++ (pos c ∷ y ∷ [])) k (pos 0)) (let k : 2 * (length es / 2) + 1 ≡ length es + 1 = omega arith in k)
    ∙ get_or-append-add es (pos c ∷ y ∷ []) 1 (pos 0) in
    rw (n, entered_before es (pos c) y (length es / 2) (omega arith), char, entry)

-- ---- the entries of a table

module _ (labels : List ℤ) (n : ℕ) (all : (c : ℕ) → c < 257 → LabelIn n (get_or labels c (pos 0))) where
  pub labels_ascending : (k b : ℕ) → k ≤ b → k ≤ 256 → Ascending n (label_entries labels k) b
  unfolding label_entries
  labels_ascending zero b h l = none
  labels_ascending (suc k) b h l =
      by (labels_ascending k k (omega arith) (omega arith)) (labels_ascending k b (omega arith) (omega arith)) (all k (omega arith))
    where
      by : {z : ℤ} → Ascending n (label_entries labels k) k → Ascending n (label_entries labels k) b → LabelIn n z →
          Ascending n (label_entries labels k ++ cond (not (eqb (word_of z) 4294967295)) (pos k ∷ z ∷ []) []) b
      by a c no_label = rw (append-nil (label_entries labels k)) c
      by a c (to m i j) = rw (ne_eqb m 4294967295 (λ q. omega (arith, q))) (more {d = b} k m a (omega arith) (omega arith) i)

  -- the places below k
  abbrev place_below : ℕ → ℕ → ℤ
  place_below k b = cond (ltb b k) (get_or labels b (pos 0)) (negsuc 0)

  below_other : (k b : ℕ) → (b ≡ k → ⊥) → place_below (suc k) b ≡ place_below k b
  below_other k b q = ap (λ (t : Bool). cond t (get_or labels b (pos 0)) (negsuc 0)) (sym (below_same labels b k q))

  below_absent : (k : ℕ) → get_or labels k (pos 0) ≡ negsuc 0 → tabulate 257 (place_below k) ≡ tabulate 257 (place_below (suc k))
  below_absent k e = tabulate_ext 257 (place_below k) (place_below (suc k)) (λ b h. by b (same_or_not b k))
    where
      by : (b : ℕ) → (b ≡ k) ⊎ (b ≡ k → ⊥) → place_below k b ≡ place_below (suc k) b
      by b (inl q) = rw (q, le-ltb k k (omega arith), lt-ltb k (suc k) (omega arith)) (sym e)
      by b (inr q) = sym (below_other k b q)

  entered_labels : (k : ℕ) → k ≤ 256 → entered (label_entries labels k) (length (label_entries labels k) / 2) ≡ tabulate 257 (place_below k)
  unfolding label_entries entered
  entered_labels zero l =
      sym (tabulate_constant 257 (negsuc 0)) ∙ tabulate_ext 257 (λ _. negsuc 0) (place_below 0) (λ b h. rw (le-ltb b 0 (omega arith)))
  entered_labels (suc k) l = by (get_or labels k (pos 0)) refl (entered_labels k (omega arith)) (all k (omega arith))
    where
      by : (z : ℤ) → get_or labels k (pos 0) ≡ z → entered (label_entries labels k) (length (label_entries labels k) / 2) ≡ tabulate 257 (place_below k) →
          LabelIn n z →
          entered (label_entries labels k ++ cond (not (eqb (word_of z) 4294967295)) (pos k ∷ z ∷ []) [])
          (length (label_entries labels k ++ cond (not (eqb (word_of z) 4294967295)) (pos k ∷ z ∷ []) []) / 2) ≡ tabulate 257 (place_below (suc k))
      by z e i no_label = rw (append-nil (label_entries labels k)) (i ∙ below_absent k e)
      by z e i (to m u v) =
          rw (ne_eqb m 4294967295 (λ q. omega (arith, q)))
          (entered_last (label_entries labels k) k (pos m) (twos (labels_ascending k k (omega arith) (omega arith)))
          ∙ ap (λ (t : List ℤ). set t k (pos m)) i
          ∙ table_set (place_below k) (place_below (suc k)) k (pos m) (omega arith) (rw (lt-ltb k (suc k) (omega arith)) e) (λ b h q. below_other k b q))

  pub labels_again : length labels ≡ 257 → entries_table (label_entries labels 256) (get_or labels 256 (pos 0)) ≡ labels
  unfolding entries_table
  labels_again l =
      ap (λ (t : List ℤ). set t 256 (get_or labels 256 (pos 0))) (entered_labels 256 (omega arith))
      ∙ table_set (place_below 256) (λ b. get_or labels b (pos 0)) 256 (get_or labels 256 (pos 0)) (omega arith) refl
      (λ b h q. rw (lt-ltb b 256 (omega arith)))
      ∙ ap (λ (k : ℕ). tabulate k (λ b. get_or labels b (pos 0))) (sym l) ∙ tabulate_get_d labels (pos 0)
