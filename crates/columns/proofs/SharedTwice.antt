-- Sharing twice is sharing once: a program whose values are shared holds none.
-- Assumes nothing.
use mathlib.Core.Path.{◌≡◌, refl, sym, ap, ◌∙◌}
use mathlib.Core.Bool.{Bool, true, false, cond}
use mathlib.Core.List.{List, [], ◌∷◌, ◌++◌, append_assoc, append-nil}
use mathlib.Core.Logic.{◌⊎◌, inl, inr}
use Prim.Native.Nat.{ℕ, zero, suc, ◌+◌, ◌/◌, ◌%◌, ◌<◌, ◌≤◌}
use native.Mathlib.Omega.{arith}
use lib.IntN.{ℤ, pos}
use lib.Dec.{leb, ltb, eqb}
use lib.ListN.{length, get_or, drop, get_or-eq_default}
use lib.Seq.{drop-length, drop-append-le, get_or-drop, ext_get_or}
use borrow.Author.Tests.{leb-true, le-leb, lt-leb, le-ltb}
use Rattle.words.specs.Words.{word_of}
use Rattle.words.proofs.Lists.{get_d_tabulate}
use Rattle.words.proofs.Tests.{less_or_not}
use Rattle.lang.specs.Every.{both}
use Rattle.lang.specs.Records.{count, field, is_kind}
use Rattle.lang.proofs.Every.{both_false}
use Rattle.program_kerns.specs.Kerns.{kern_place}
use Rattle.program_kerns.specs.SharedKerns.{is_past_index, holds_value, held_value, shared_kerns, all_kerns, shared_number, share_kerns}
use Rattle.program_kerns.proofs.Places.{place_le}
use Rattle.program_kerns.proofs.SharedKerns.{kerns_least, shared_length}
use Rattle.columns.specs.Texts.{Text, text_by, shared_text, font_of_text, font_as_it_stands}
use Rattle.columns.specs.Purpose.{is_i32, all_i32}
use Rattle.columns.proofs.Fitting.{Fits, all_fit}
use Rattle.columns.proofs.SharedPrograms.{kerns_fit_all, held_operand, kind_kept, operand_kept, none_held, held_placed, no_value_left}

-- ---- a shared program holds no value

-- an index that is not past some kerns is not past more of them
index_past : (s : List ℤ) (k m i : ℕ) → k ≤ m → is_past_index s k i ≡ false → is_past_index s m i ≡ false
index_past s k m i l e = by (is_kind 1 s i) refl (leb m (word_of (field s i 3))) refl (leb (word_of (field s i 3)) 65535) refl
  where
    by : (a : Bool) → is_kind 1 s i ≡ a → (b : Bool) → leb m (word_of (field s i 3)) ≡ b → (c : Bool) → leb (word_of (field s i 3)) 65535 ≡ c →
        both a (both b c) ≡ false
    by false p b q c r = refl
    by true p false q c r = refl
    by true p true q false r = refl
    by true p true q true r =
        let g : m ≤ word_of (field s i 3) = leb-true m (word_of (field s i 3)) q in
        rw (p, r, le-leb k (word_of (field s i 3)) (omega arith)) at e

module _ (s ks : List ℤ) where
  pub shared_at : (j : ℕ) → j < length s → get_or (share_kerns s ks) j (pos 0) ≡ shared_number s (all_kerns s ks) (length ks) j
  shared_at j h = get_d_tabulate (length s) (shared_number s (all_kerns s ks) (length ks)) j (pos 0) h

  not_past : (i : ℕ) → i < count s → (t : Bool) → holds_value s (length ks) i ≡ t → is_past_index (share_kerns s ks) (length (all_kerns s ks)) i ≡ false
  not_past i h true e =
      let p = kern_place (held_value s i) (all_kerns s ks) in
      rw (held_operand s ks i e, lt-leb (length (all_kerns s ks)) p (held_placed s ks i e)) (both_false (is_kind 1 (share_kerns s ks) i))
  not_past i h false e =
      rw (kind_kept s ks i e, operand_kept s ks i e)
      (index_past s (length ks) (length (all_kerns s ks)) i (kerns_least s ks (count s)) (none_held s ks i h e).1)

  pub nothing_held : (i : ℕ) → holds_value (share_kerns s ks) (length (all_kerns s ks)) i ≡ false
  nothing_held i = by (less_or_not i (count s))
    where
      either : (b : Bool) → cond b false false ≡ false
      either true = refl
      either false = refl

      by : (i < count s) ⊎ (count s ≤ i) → holds_value (share_kerns s ks) (length (all_kerns s ks)) i ≡ false
      by (inl h) =
          (λ x. cond (ltb i (count (share_kerns s ks))) (cond (no_value_left s ks i h x) true (not_past i h (holds_value s (length ks) i) refl x)) false)
          ∙ either (ltb i (count (share_kerns s ks)))
      by (inr h) = rw (shared_length s ks, le-ltb i (count s) h)

-- ---- where none is held

module _ (s ks : List ℤ) (none : (i : ℕ) → holds_value s (length ks) i ≡ false) where
  kerns_stay : (n : ℕ) → shared_kerns s ks n ≡ ks
  unfolding shared_kerns
  kerns_stay zero = refl
  kerns_stay (suc n) = rw (none n) (kerns_stay n)

  program_stays : share_kerns s ks ≡ s
  program_stays =
      ext_get_or (pos 0) (share_kerns s ks) s (shared_length s ks)
      (λ j h. let l : j < length s = rw (shared_length s ks) at h in shared_at s ks j l ∙ rw (none (j / 4)))

-- ---- a text

pub shared_kerns_twice : (s ks : List ℤ) → all_kerns (share_kerns s ks) (all_kerns s ks) ≡ all_kerns s ks
shared_kerns_twice s ks = kerns_stay (share_kerns s ks) (all_kerns s ks) (nothing_held s ks) (count (share_kerns s ks))

pub shared_program_twice : (s ks : List ℤ) → share_kerns (share_kerns s ks) (all_kerns s ks) ≡ share_kerns s ks
shared_program_twice s ks = program_stays (share_kerns s ks) (all_kerns s ks) (nothing_held s ks)

pub shared_text_twice : (t : Text) → shared_text (shared_text t) ≡ shared_text t
shared_text_twice t =
    (λ i. text_by t.design t.boundary t.left (shared_program_twice t.instructions t.kerns i) (shared_kerns_twice t.instructions t.kerns i)
    t.entries t.word)

-- its font is that of the text
pub shared_font_twice : (t : Text) → font_of_text (shared_text t) ≡ font_of_text t
shared_font_twice t = ap font_as_it_stands (shared_text_twice t)

-- ---- what is shared of a text that was read

-- the kerns that are there stay in front
pub kerns_front : (s ks : List ℤ) (n : ℕ) → ks ++ drop (length ks) (shared_kerns s ks n) ≡ shared_kerns s ks n
unfolding shared_kerns
kerns_front s ks zero = ap (λ (l : List ℤ). ks ++ l) (drop-length ks) ∙ append-nil ks
kerns_front s ks (suc n) =
    by (holds_value s (length ks) n) (eqb (kern_place (held_value s n) (shared_kerns s ks n)) (length (shared_kerns s ks n))) (kerns_front s ks n)
  where
    by : (t u : Bool) → ks ++ drop (length ks) (shared_kerns s ks n) ≡ shared_kerns s ks n →
        ks ++ drop (length ks) (cond t (cond u (shared_kerns s ks n ++ (held_value s n ∷ [])) (shared_kerns s ks n)) (shared_kerns s ks n)) ≡
        cond t (cond u (shared_kerns s ks n ++ (held_value s n ∷ [])) (shared_kerns s ks n)) (shared_kerns s ks n)
    by true true e =
        ap (λ (l : List ℤ). ks ++ l) (drop-append-le (length ks) (shared_kerns s ks n) (held_value s n ∷ []) (kerns_least s ks n))
        ∙ sym (append_assoc ks (drop (length ks) (shared_kerns s ks n)) (held_value s n ∷ []))
        ∙ ap (λ (l : List ℤ). l ++ (held_value s n ∷ [])) e
    by true false e = e
    by false u e = e

-- every number is an i32
cond_fits : (b : Bool) (x y : ℤ) → is_i32 x ≡ true → is_i32 y ≡ true → is_i32 (cond b x y) ≡ true
cond_fits true x y e f = e
cond_fits false x y e f = f

module _ (s ks : List ℤ) (numbers : all_i32 s ≡ true) (kerns : all_i32 ks ≡ true) where
  pub added_fits : Fits (drop (length ks) (all_kerns s ks))
  added_fits i =
      ap is_i32 (get_or-drop (length ks) (all_kerns s ks) i (pos 0))
      ∙ all_fit (all_kerns s ks) (kerns_fit_all s ks numbers kerns (count s)) (length ks + i)

  module _ (few : length (all_kerns s ks) ≤ 65536) where
    number_fits : (j : ℕ) → is_i32 (shared_number s (all_kerns s ks) (length ks) j) ≡ true
    number_fits j =
        let p = kern_place (held_value s (j / 4)) (all_kerns s ks) in
        let l : p ≤ length (all_kerns s ks) = place_le (held_value s (j / 4)) (all_kerns s ks) in
        let o : is_i32 (pos p) ≡ true = le-leb p 2147483647 (omega arith) in
        let g : is_i32 (get_or s j (pos 0)) ≡ true = all_fit s numbers j in
        cond_fits (holds_value s (length ks) (j / 4)) _ (get_or s j (pos 0))
        (cond_fits (eqb (j % 4) 2) (pos 1) _ refl (cond_fits (eqb (j % 4) 3) (pos p) (get_or s j (pos 0)) o g)) g

    pub shared_fits : Fits (share_kerns s ks)
    shared_fits j = by (less_or_not j (length s))
      where
        by : (j < length s) ⊎ (length s ≤ j) → is_i32 (get_or (share_kerns s ks) j (pos 0)) ≡ true
        by (inl h) = ap is_i32 (shared_at s ks j h) ∙ number_fits j
        by (inr h) = ap is_i32 (get_or-eq_default (share_kerns s ks) (pos 0) {n = j} (rw (shared_length s ks) h))
