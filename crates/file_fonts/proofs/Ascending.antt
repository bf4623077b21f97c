-- Laws of lists of entries by ascending character: those of a file are, and so are they unpacked; none is refused with 4.
-- Assumes nothing.
use mathlib.Core.Path.{◌≡◌, refl, ap, ◌∙◌}
use mathlib.Core.Bool.{Bool, true, false, cond, not}
use mathlib.Core.List.{List, [], ◌∷◌, ◌++◌, append-nil}
use mathlib.Core.Logic.{◌⊎◌, inl, inr}
use Prim.Native.Nat.{ℕ, zero, suc, ◌+◌, ◌*◌, ◌/◌, ◌%◌, ◌<◌, ◌≤◌}
use native.Mathlib.Nat.{eq-or-lt_of_le}
use native.Mathlib.Omega.{arith}
use lib.IntN.{ℤ, pos}
use lib.Dec.{eqb}
use lib.ListN.{length, get_or, length-append, get_or-append}
use lib.Seq.{get_or_at, get_or-append-add}
use borrow.Author.Tests.{eqb-true, eq-eqb, ne_eqb, le-leb}
use Rattle.words.specs.Words.{word_of}
use Rattle.lang.specs.Records.{count}
use Rattle.lang.specs.Checks.{char_at, entry_at, entered_once, entry_fits, entries_refusal}
use Rattle.lang.proofs.Every.{every_all}
use Rattle.entry_targets.specs.Targets.{stands_for, entry_refusal}
use Rattle.entry_targets.proofs.Targets.{stands_below}
use Rattle.files.specs.Lengths.{file_byte}
use Rattle.files.specs.Commands.{word_byte, is_lig_tagged}
use Rattle.files.specs.Reading.{entries_from}
use Rattle.file_fonts.specs.Meant.{leads, unpacked_below}

-- every character is above those before it and below b, and every entry is below l
pub data Ascending (l : ℕ) : List ℤ → ℕ → Type 0 where
  none : {b : ℕ} → Ascending l [] b
  more : {es : List ℤ} {b d : ℕ} (x y : ℕ) → Ascending l es b → b ≤ x → x < d → y < l → Ascending l (es ++ (pos x ∷ pos y ∷ [])) d

weaken : {l : ℕ} {es : List ℤ} {b d : ℕ} → Ascending l es b → b ≤ d → Ascending l es d
weaken none h = none
weaken {d = d} (more x y a h k m) g = more {d = d} x y a h (omega arith) m

pub twos : {l : ℕ} {es : List ℤ} {b : ℕ} → Ascending l es b → length es % 2 ≡ 0
twos none = refl
twos (more x y a h k m) = simp length-append (omega (arith, twos a))

-- ---- one entry more

module _ (es : List ℤ) (x y : ℤ) where
  module _ (i : ℕ) (h : i < length es / 2) where
    pub char_before : char_at (es ++ (x ∷ y ∷ [])) i ≡ char_at es i
    char_before = get_or-append es (x ∷ y ∷ []) (pos 0) (2 * i) (omega arith)

    pub entry_before : entry_at (es ++ (x ∷ y ∷ [])) i ≡ entry_at es i
    entry_before = get_or-append es (x ∷ y ∷ []) (pos 0) (2 * i + 1) (omega arith)

  module _ (e : length es % 2 ≡ 0) where
    pub char_last : char_at (es ++ (x ∷ y ∷ [])) (length es / 2) ≡ x
    char_last = get_or_at es x (y ∷ []) (pos 0) (2 * (length es / 2)) (omega arith)

    pub entry_last : entry_at (es ++ (x ∷ y ∷ [])) (length es / 2) ≡ y
    entry_last =
        ap (λ (k : ℕ). get_or (es ++ (x ∷ y ∷ [])) k (pos 0)) (let k : 2 * (length es / 2) + 1 ≡ length es + 1 = omega arith in k)
        ∙ get_or-append-add es (x ∷ y ∷ []) 1 (pos 0)

    pub one_more : length (es ++ (x ∷ y ∷ [])) / 2 ≡ suc (length es / 2)
    one_more = simp length-append (omega arith)

-- ---- what stands at a place

pub record At (l b : ℕ) (es : List ℤ) (i : ℕ) : Type 0 where
  pub char : ℕ
  pub entry : ℕ
  pub char_is : char_at es i ≡ pos char
  pub entry_is : entry_at es i ≡ pos entry
  pub char_below : char < b
  pub entry_below : entry < l

placed_by : {l : ℕ} {es : List ℤ} {b d : ℕ} (x y : ℕ) → length es % 2 ≡ 0 → b ≤ x → x < d → y < l → (i : ℕ) →
    (i ≡ length es / 2) ⊎ (i < length es / 2) → (i < length es / 2 → At l b es i) → At l d (es ++ (pos x ∷ pos y ∷ [])) i
placed_by {es = es} x y e h k m i (inl q) f =
    rw q
    record {
      char = x;
      entry = y;
      char_is = char_last es (pos x) (pos y) e;
      entry_is = entry_last es (pos x) (pos y) e;
      char_below = k;
      entry_below = m;
    }
placed_by {es = es} x y e h k m i (inr q) f =
    let a = f q in
    record {
      char = a.char;
      entry = a.entry;
      char_is = char_before es (pos x) (pos y) i q ∙ a.char_is;
      entry_is = entry_before es (pos x) (pos y) i q ∙ a.entry_is;
      char_below = omega (arith, a.char_below);
      entry_below = a.entry_below;
    }

before_last : (es : List ℤ) (x y : ℤ) → length es % 2 ≡ 0 → (i : ℕ) → i < length (es ++ (x ∷ y ∷ [])) / 2 → (i ≡ length es / 2) ⊎ (i < length es / 2)
before_last es x y e i h = eq-or-lt_of_le (omega (arith, h, one_more es x y e))

pub placed : {l : ℕ} {es : List ℤ} {b : ℕ} → Ascending l es b → (i : ℕ) → i < length es / 2 → At l b es i
placed none i h = absurd (omega arith)
placed (more {es} x y a h k m) i g =
    placed_by x y (twos a) h k m i (before_last es (pos x) (pos y) (twos a) i g) (λ q. placed a i q)

ascends_by : {l : ℕ} {es : List ℤ} {b : ℕ} (x y : ℕ) → Ascending l es b → b ≤ x → (i j : ℕ) → i < j → (j ≡ length es / 2) ⊎ (j < length es / 2) →
    (j < length es / 2 → word_of (char_at es i) < word_of (char_at es j)) →
    word_of (char_at (es ++ (pos x ∷ pos y ∷ [])) i) < word_of (char_at (es ++ (pos x ∷ pos y ∷ [])) j)
ascends_by {es = es} x y a h i j k (inl q) f =
    let p = placed a i (omega arith) in
    rw (q, char_last es (pos x) (pos y) (twos a), char_before es (pos x) (pos y) i (omega arith), p.char_is) (omega (arith, p.char_below))
ascends_by {es = es} x y a h i j k (inr q) f =
    rw (char_before es (pos x) (pos y) i (omega arith), char_before es (pos x) (pos y) j q) (f q)

pub ascends : {l : ℕ} {es : List ℤ} {b : ℕ} → Ascending l es b → (i j : ℕ) → i < j → j < length es / 2 → word_of (char_at es i) < word_of (char_at es j)
ascends none i j k h = absurd (omega arith)
ascends (more {es} x y a h q m) i j k g =
    ascends_by x y a h i j k (before_last es (pos x) (pos y) (twos a) j g) (λ p. ascends a i j k p)

-- ---- 4 refuses none of at most 256 characters, with entries of at most 65,535

module _ {l : ℕ} {es : List ℤ} {b : ℕ} (a : Ascending l es b) where
  once : (i : ℕ) → i < length es / 2 → entered_once es i ≡ true
  once i h =
      every_all i (λ j. not (eqb (word_of (char_at es j)) (word_of (char_at es i))))
      (λ j k. rw (ne_eqb (word_of (char_at es j)) (word_of (char_at es i)) (λ e. omega (arith, e, ascends a j i k h))))

  pub ascending_taken : l ≤ 65536 → b ≤ 256 → entries_refusal 65535 es ≡ 0
  ascending_taken k m =
      rw (eq-eqb (length es % 2) 0 (twos a), every_all (length es / 2) (entry_fits 65535 es) fits)
    where
      fits : (i : ℕ) → i < length es / 2 → entry_fits 65535 es i ≡ true
      fits i h =
          let p = placed a i h in
          rw (once i h, p.char_is, p.entry_is, le-leb p.char 255 (omega (arith, p.char_below)), le-leb p.entry 65535 (omega (arith, p.entry_below)))

-- ---- those of a file

module _ (file : List ℕ) (bytes : (i : ℕ) → file_byte file i < 256) (c w : ℕ) where
  pub file_ascending : (n : ℕ) → Ascending 256 (entries_from file c w n) (c + n)
  unfolding entries_from
  file_ascending zero = none
  file_ascending (suc n) = by (file_ascending n) (is_lig_tagged file (w + n))
    where
      by : Ascending 256 (entries_from file c w n) (c + n) → (t : Bool) →
          Ascending 256 (entries_from file c w n ++ cond t (pos (c + n) ∷ pos (word_byte file (w + n) 3) ∷ []) []) (c + suc n)
      by a true = more {d = c + suc n} (c + n) (word_byte file (w + n) 3) a (omega arith) (omega arith) (bytes (4 * (w + n) + 3))
      by a false = rw (append-nil (entries_from file c w n)) (weaken a (omega arith))

-- ---- unpacked

module _ (s : List ℤ) where
  -- those before one entry more
  unpacked_before : (es : List ℤ) (x y : ℤ) (k : ℕ) → k ≤ length es / 2 → unpacked_below s (es ++ (x ∷ y ∷ [])) k ≡ unpacked_below s es k
  unfolding unpacked_below
  unpacked_before es x y zero h = refl
  unpacked_before es x y (suc k) h =
      rw (unpacked_before es x y k (omega arith), char_before es x y k (omega arith), entry_before es x y k (omega arith))

  -- and with it
  pub unpacked_last : (es : List ℤ) (x : ℤ) (y : ℕ) → length es % 2 ≡ 0 →
      unpacked_below s (es ++ (x ∷ pos y ∷ [])) (length (es ++ (x ∷ pos y ∷ [])) / 2)
      ≡ unpacked_below s es (length es / 2) ++ cond (leads s y) (x ∷ pos (stands_for s y) ∷ []) []
  unfolding unpacked_below
  unpacked_last es x y e =
      rw (one_more es x (pos y) e)
      rw (unpacked_before es x (pos y) (length es / 2) (omega arith), char_last es x (pos y) e, entry_last es x (pos y) e)

  pub unpacked_ascending : {l : ℕ} {es : List ℤ} {b : ℕ} → Ascending l es b → Ascending (count s) (unpacked_below s es (length es / 2)) b
  unfolding unpacked_below
  unpacked_ascending none = none
  unpacked_ascending {b = b} (more {es} {b = c} x y a h k m) =
      rw (unpacked_last es (pos x) y (twos a)) (by (unpacked_ascending a) (leads s y) refl)
    where
      by : Ascending (count s) (unpacked_below s es (length es / 2)) c → (t : Bool) → leads s y ≡ t →
          Ascending (count s) (unpacked_below s es (length es / 2) ++ cond t (pos x ∷ pos (stands_for s y) ∷ []) []) b
      by u true t = more {d = b} x (stands_for s y) u h k (stands_below s y (eqb-true (entry_refusal s y) 0 t))
      by u false t = rw (append-nil (unpacked_below s es (length es / 2))) (weaken u (omega arith))
