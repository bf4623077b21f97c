-- Laws of a part that has words in front: one word more, and as many as there is room for.
-- Assumes nothing.
use mathlib.Core.Path.{◌≡◌, sym, ap, ◌∙◌, subst₂}
use mathlib.Core.List.{List, ◌++◌, append_assoc}
use Prim.Native.Nat.{ℕ, suc, ◌+◌, ◌*◌, ◌/◌, ◌%◌, ◌<◌, ◌≤◌, min}
use native.Mathlib.Omega.{arith}
use lib.ListN.{length, drop}
use lib.Seq.{sets}
use Rattle.words.specs.Lists.{tabulate, Appending}
use Rattle.words.proofs.Lists.{length_tabulate, appending_none, appending_length, appending_more}
use Rattle.files.specs.Sections.{section_bytes, words_in_front}
use Rattle.file_words.specs.Fours.{four_bytes}

module _ (f : ℕ → ℕ → ℕ) where
  pub section_length : (n : ℕ) → length (section_bytes n f) ≡ 4 * n
  section_length n = length_tabulate (4 * n) (λ (j : ℕ). f (j / 4) (j % 4))

  byte_at : (n j k : ℕ) → k < 4 → j ≡ 4 * n + k → f (j / 4) (j % 4) ≡ f n k
  byte_at n j k h e =
      let q : j / 4 ≡ n = omega arith in
      let r : j % 4 ≡ k = omega arith in
      rw (q, r)

  -- a section of one word more
  pub section_more : (n : ℕ) → section_bytes (n + 1) f ≡ section_bytes n f ++ four_bytes (f n)
  unfolding tabulate
  section_more n =
      let e : 4 * (n + 1) ≡ suc (suc (suc (suc (4 * n)))) = omega arith in
      ap (λ (k : ℕ). tabulate k (λ (j : ℕ). f (j / 4) (j % 4))) e
      ∙ rw (
        byte_at n (4 * n) 0 (omega arith) (omega arith),
        byte_at n (suc (4 * n)) 1 (omega arith) (omega arith),
        byte_at n (suc (suc (4 * n))) 2 (omega arith) (omega arith),
        byte_at n (suc (suc (suc (4 * n)))) 3 (omega arith) (omega arith),
      )
      (simp append_assoc)

  module _ (d₀ : List ℕ) where
    pub words_none : Appending (section_bytes 0 f) d₀ d₀
    unfolding tabulate
    words_none = appending_none d₀

    -- there is room for the next word
    words-room : {d : List ℕ} {i n : ℕ} (count : ℕ) → n ≡ min count (length d₀ / 4) → i < n → Appending (section_bytes i f) d₀ d →
        4 * i + 4 ≤ length d
    words-room count m h a = omega (arith, appending_length d₀ a)

    -- one word more, by the bytes bs
    pub words_more : {d : List ℕ} {i n : ℕ} (count : ℕ) (d₁ bs : List ℕ) → n ≡ min count (length d₀ / 4) → i < n → Appending (section_bytes i f) d₀ d →
        bs ≡ four_bytes (f i) → d₁ ≡ sets d (4 * i) bs → Appending (section_bytes (i + 1) f) d₀ d₁
    words_more {d} {i} count d₁ bs m h a e s =
        let t = section_length i in
        let step = appending_more d₀ (four_bytes (f i)) a (omega (arith, words-room count m h a)) in
        let stored : sets d (length (section_bytes i f)) (four_bytes (f i)) ≡ d₁
        = ap (λ (k : ℕ). sets d k (four_bytes (f i))) t ∙ ap (λ (b : List ℕ). sets d (4 * i) b) (sym e) ∙ sym s in
        subst₂ (λ (x y : List ℕ). Appending x d₀ y) (sym (section_more i)) stored step

    -- all that there is room for
    pub words_all : {d : List ℕ} {i : ℕ} (count n : ℕ) → n ≡ min count (length d₀ / 4) → i ≤ n → n ≤ i → Appending (section_bytes i f) d₀ d →
        d ≡ words_in_front count f d₀
    words_all {d} {i} count n m h l a =
        let e : i ≡ min count (length d₀ / 4) = omega arith in
        a.appended ∙ ap (λ (k : ℕ). section_bytes i f ++ drop k d₀) (section_length i)
        ∙ ap (λ (k : ℕ). section_bytes k f ++ drop (4 * k) d₀) e
