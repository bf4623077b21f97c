-- Laws of a list in parts: a piece that stands at a place of it, the bytes of n words, and bytes that two lists share.
-- Assumes nothing.
use mathlib.Core.Path.{◌≡◌, sym, ap, ◌∙◌}
use mathlib.Core.List.{List, ◌++◌}
use Prim.Native.Nat.{ℕ, ◌+◌, ◌-◌, ◌*◌, ◌/◌, ◌%◌, ◌<◌, ◌≤◌}
use native.Mathlib.Omega.{arith}
use lib.ListN.{length, get_or, drop, length-append, length-take, length-drop, get_or-append}
use lib.Seq.{get_or-append-add, get_or-take, get_or-drop, ext_get_or}
use Rattle.words.proofs.Lists.{length_tabulate, get_d_tabulate}
use Rattle.files.specs.Sections.{file_bytes, section_bytes}

-- ---- a piece that stands at place a of a list

pub record Stands (xs : List ℕ) (a : ℕ) (p : List ℕ) : Type 0 where
  pub at : (j : ℕ) → j < length p → get_or xs (a + j) 0 ≡ get_or p j 0
  pub inside : a + length p ≤ length xs

pub stands_end : (xs p : List ℕ) (a : ℕ) → length xs ≡ a → Stands (xs ++ p) a p
stands_end xs p a e =
    record {
      at = λ j h. ap (λ (n : ℕ). get_or (xs ++ p) (n + j) 0) (sym e) ∙ get_or-append-add xs p j 0;
      inside = simp length-append (omega arith);
    }

pub stands_more : {xs : List ℕ} {a : ℕ} {p : List ℕ} (ys : List ℕ) → Stands xs a p → Stands (xs ++ ys) a p
stands_more {xs} {a} {p} ys s =
    record {
      at = λ j h. get_or-append xs ys 0 (a + j) (omega (arith, s.inside)) ∙ s.at j h;
      inside = simp length-append (omega (arith, s.inside));
    }

-- ---- bytes from a up to e

pub length_bytes : (xs : List ℕ) (a e : ℕ) → e ≤ length xs → length (file_bytes xs a e) ≡ e - a
length_bytes xs a e h = simp (length-take, length-drop) (omega arith)

pub get_d_bytes : (xs : List ℕ) (a e j : ℕ) → j < e - a → get_or (file_bytes xs a e) j 0 ≡ get_or xs (a + j) 0
get_d_bytes xs a e j h = get_or-take (e - a) (drop a xs) j 0 h ∙ get_or-drop a xs j 0

-- bytes from a up to e of ys stand at the same place of xs
pub stands_same : {xs : List ℕ} (ys : List ℕ) (a e : ℕ) → Stands xs a (file_bytes ys a e) → e ≤ length ys → (i : ℕ) → a ≤ i → i < e → get_or xs i 0 ≡ get_or ys i 0
stands_same {xs} ys a e s h i l g =
    let q : a + (i - a) ≡ i = omega arith in
    ap (λ (n : ℕ). get_or xs n 0) (sym q)
    ∙ s.at (i - a) (omega (arith, length_bytes ys a e h))
    ∙ get_d_bytes ys a e (i - a) (omega arith)
    ∙ ap (λ (n : ℕ). get_or ys n 0) q

pub same_bytes : (xs ys : List ℕ) (a e : ℕ) → e ≤ length xs → e ≤ length ys → ((i : ℕ) → a ≤ i → i < e → get_or xs i 0 ≡ get_or ys i 0) →
    file_bytes xs a e ≡ file_bytes ys a e
same_bytes xs ys a e h g s =
    ext_get_or 0 (file_bytes xs a e) (file_bytes ys a e) (length_bytes xs a e h ∙ sym (length_bytes ys a e g))
    (λ j l. let k : j < e - a = omega (arith, length_bytes xs a e h) in
    get_d_bytes xs a e j k ∙ s (a + j) (omega arith) (omega arith) ∙ sym (get_d_bytes ys a e j k))

-- ---- the bytes of n words

module _ (n : ℕ) (f : ℕ → ℕ → ℕ) where
  pub length_section : length (section_bytes n f) ≡ 4 * n
  length_section = length_tabulate (4 * n) (λ j. f (j / 4) (j % 4))

  pub get_d_section : (i j : ℕ) → i < n → j < 4 → get_or (section_bytes n f) (4 * i + j) 0 ≡ f i j
  get_d_section i j h l =
      let q : (4 * i + j) / 4 ≡ i = omega arith in
      let r : (4 * i + j) % 4 ≡ j = omega arith in
      get_d_tabulate (4 * n) (λ k. f (k / 4) (k % 4)) (4 * i + j) 0 (omega arith) ∙ rw (q, r)

  -- they stand from word w on
  pub section_at : {xs : List ℕ} (w : ℕ) → Stands xs (4 * w) (section_bytes n f) → (i j : ℕ) → i < n → j < 4 → get_or xs (4 * (w + i) + j) 0 ≡ f i j
  section_at {xs} w s i j h l =
      let q : 4 * (w + i) + j ≡ 4 * w + (4 * i + j) = omega arith in
      ap (λ (m : ℕ). get_or xs m 0) q ∙ s.at (4 * i + j) (omega (arith, length_section)) ∙ get_d_section i j h l
