-- Laws of a program whose kerns are shared: indices packed to values, and all values unpacked to indices. It is a program, no kind of it is 0, each
-- kern index is below the number of kerns, and all else is as it was lent. Assumes nothing.
use mathlib.Core.Path.{◌≡◌, refl, sym, ap, ◌∙◌}
use mathlib.Core.Bool.{Bool, true, false, cond}
use mathlib.Core.List.{List, [], ◌∷◌, ◌++◌}
use mathlib.Core.Logic.{◌⊎◌, inl, inr}
use Prim.Native.Nat.{ℕ, zero, suc, ◌+◌, ◌*◌, ◌/◌, ◌%◌, ◌<◌, ◌≤◌}
use native.Mathlib.Nat.{eq-or-lt_of_le, le_of_suc-le-suc}
use native.Mathlib.Omega.{arith}
use lib.IntN.{ℤ, pos}
use lib.Dec.{eqb}
use lib.ListN.{length, get_or}
use borrow.Author.Tests.{lt-ltb, le-leb, eq-eqb, ne_eqb, eqb-true, eqb-false}
use Rattle.words.specs.Words.{word_of}
use Rattle.words.specs.Lists.{tabulate}
use Rattle.words.proofs.Lists.{length_tabulate, get_d_tabulate}
use Rattle.lang.specs.Every.{both}
use Rattle.lang.specs.Records.{count, field, is_kind, is_instruction, absent_or, within, operand_fits}
use Rattle.lang.specs.Checks.{program_refusal}
use Rattle.lang.proofs.Every.{both_left, both_right, every_all}
use Rattle.lang.proofs.Refusals.{program_size, program_fours, program_record}
use Rattle.program_kerns.specs.Kerns.{changed, kern_at, packed, unpacked, kern_place, values, kerns_of}
use Rattle.program_kerns.proofs.Places.{place_le, place_grows, place_new, snoc_length}
use Rattle.program_kerns.proofs.Sharing.{values_le}

-- ---- a program in which some instructions have another kind and another operand

pub same_either : {A : Type 0} (b : Bool) (x : A) → cond b x x ≡ x
same_either true x = refl
same_either false x = refl

module _ (s : List ℤ) (test : ℕ → Bool) (kind : ℤ) (operand : ℕ → ℤ) where
  abbrev after : List ℤ
  after = tabulate (length s) (changed s test kind operand)

  pub changed_count : count after ≡ count s
  changed_count = ap (λ (n : ℕ). n / 4) (length_tabulate (length s) (changed s test kind operand))

  -- number m of instruction i
  pub changed_at : (i m : ℕ) → i < count s → m < 4 →
      field after i m ≡ cond (test i) (cond (eqb m 2) kind (cond (eqb m 3) (operand i) (get_or s (4 * i + m) (pos 0)))) (get_or s (4 * i + m) (pos 0))
  changed_at i m h l =
      let q : (4 * i + m) / 4 ≡ i = omega arith in
      let r : (4 * i + m) % 4 ≡ m = omega arith in
      rw (changed_count, lt-ltb i (count s) h)
      (get_d_tabulate (length s) (changed s test kind operand) (4 * i + m) (pos 0) (omega arith) ∙ rw (q, r))

  -- the next and the right character stay
  pub changed_first : (i m : ℕ) → i < count s → m < 2 → field after i m ≡ field s i m
  changed_first i m h l =
      changed_at i m h (omega arith)
      ∙ rw (ne_eqb m 2 (λ e. omega arith), ne_eqb m 3 (λ e. omega arith), lt-ltb i (count s) h) (same_either (test i) (get_or s (4 * i + m) (pos 0)))

  -- so do the kind and the operand of an instruction that does not pass the test
  pub changed_not : (i m : ℕ) → i < count s → m < 4 → test i ≡ false → field after i m ≡ field s i m
  changed_not i m h l t = changed_at i m h l ∙ rw (t, lt-ltb i (count s) h)

  pub changed_kind : (i : ℕ) → i < count s → test i ≡ true → field after i 2 ≡ kind
  changed_kind i h t = changed_at i 2 h (omega arith) ∙ rw t

  pub changed_operand : (i : ℕ) → i < count s → test i ≡ true → field after i 3 ≡ operand i
  changed_operand i h t = changed_at i 3 h (omega arith) ∙ rw t

  -- it is a program if each new operand fits the new kind
  module _ (ok : program_refusal s ≡ 0) (fits : (i : ℕ) → i < count s → test i ≡ true → operand_fits (word_of kind) (operand i) ≡ true) where
    changed-fits : (i : ℕ) → i < count s → (b : Bool) → test i ≡ b → operand_fits (word_of (field after i 2)) (field after i 3) ≡ true
    changed-fits i h true t = rw (changed_kind i h t, changed_operand i h t) (fits i h t)
    changed-fits i h false t =
        rw (changed_not i 2 h (omega arith) t, changed_not i 3 h (omega arith) t)
        (both_right (within 255 (field s i 1)) (operand_fits (word_of (field s i 2)) (field s i 3))
        (both_right (absent_or 255 (field s i 0)) (both (within 255 (field s i 1)) (operand_fits (word_of (field s i 2)) (field s i 3)))
        (program_record s ok i h)))

    changed-record : (i : ℕ) → i < count s → is_instruction after i ≡ true
    changed-record i h =
        let old = program_record s ok i h in
        let next = both_left (absent_or 255 (field s i 0)) (both (within 255 (field s i 1)) (operand_fits (word_of (field s i 2)) (field s i 3))) old in
        let rest = both_right (absent_or 255 (field s i 0)) (both (within 255 (field s i 1)) (operand_fits (word_of (field s i 2)) (field s i 3))) old in
        let right = both_left (within 255 (field s i 1)) (operand_fits (word_of (field s i 2)) (field s i 3)) rest in
        rw (changed_first i 0 h (omega arith), changed_first i 1 h (omega arith), next, right) (changed-fits i h (test i) refl)

    pub changed_taken : program_refusal after ≡ 0
    changed_taken =
        let n = length_tabulate (length s) (changed s test kind operand) in
        let fours : length s % 4 ≡ 0 = omega (arith, program_fours s ok) in
        rw (n, eq-eqb (length s % 4) 0 fours, le-leb (count s) 32767 (program_size s ok), every_all (count s) (is_instruction after) changed-record)

-- ---- each kern value has its place

placed_new : (v : ℤ) (ks : List ℤ) (b : Bool) → eqb (kern_place v ks) (length ks) ≡ b →
    kern_place v (cond b (ks ++ (v ∷ [])) ks) < length (cond b (ks ++ (v ∷ [])) ks)
placed_new v ks true e = rw (place_new v ks (eqb-true (kern_place v ks) (length ks) e), snoc_length ks v) (omega arith)
placed_new v ks false e = let n : kern_place v ks ≡ length ks → ⊥ = eqb-false (kern_place v ks) (length ks) e in omega (arith, place_le v ks)

placed_old : (v w : ℤ) (ks : List ℤ) (b c : Bool) → kern_place v ks < length ks →
    kern_place v (cond b (cond c (ks ++ (w ∷ [])) ks) ks) < length (cond b (cond c (ks ++ (w ∷ [])) ks) ks)
placed_old v w ks true true h = rw (place_grows v ks (w ∷ []) h, snoc_length ks w) (omega arith)
placed_old v w ks true false h = h
placed_old v w ks false c h = h

module _ (s : List ℤ) where
  abbrev Placed : ℕ → ℕ → Type 0
  Placed n i = kern_place (field s i 3) (values s n) < length (values s n)

  placed_by : (n i : ℕ) → (i ≡ n) ⊎ (i < n) → is_kind 0 s i ≡ true → (i < n → Placed n i) → Placed (suc n) i
  unfolding values
  placed_by n i (inl e) k r =
      rw (← e, k) (placed_new (field s i 3) (values s i) (eqb (kern_place (field s i 3) (values s i)) (length (values s i))) refl)
  placed_by n i (inr h) k r =
      placed_old (field s i 3) (field s n 3) (values s n) (is_kind 0 s n) (eqb (kern_place (field s n 3) (values s n)) (length (values s n))) (r h)

  placed : (n i : ℕ) → i < n → is_kind 0 s i ≡ true → Placed n i
  placed zero i h k = absurd (omega arith)
  placed (suc n) i h k = placed_by n i (eq-or-lt_of_le (le_of_suc-le-suc h)) k (λ l. placed n i l k)

-- ---- the program with its kerns shared

-- its kern values are packed, and then unpacked
abbrev pub shared_by : List ℤ → List ℤ → List ℤ
shared_by s kerns = unpacked (packed s kerns)

-- an instruction of a kind is of no other
pub kind_other : (a b : ℕ) (s : List ℤ) (i : ℕ) → is_kind a s i ≡ true → (a ≡ b → ⊥) → is_kind b s i ≡ false
kind_other a b s i k n = ne_eqb (word_of (field s i 2)) b (λ e. n (sym (eqb-true (word_of (field s i 2)) a k) ∙ e))

module _ (s kerns : List ℤ) where
  abbrev between : List ℤ
  between = packed s kerns

  abbrev place : ℕ → ℤ
  place i = pos (kern_place (field between i 3) (kerns_of between))

  pub packed_length : length (packed s kerns) ≡ length s
  packed_length = length_tabulate (length s) (changed s (is_kind 1 s) (pos 0) (kern_at s kerns))

  packed_count : count between ≡ count s
  packed_count = ap (λ (n : ℕ). n / 4) packed_length

  pub shared_length : length (shared_by s kerns) ≡ length s
  shared_length = length_tabulate (length between) (changed between (is_kind 0 between) (pos 1) place) ∙ packed_length

  pub shared_count : count (shared_by s kerns) ≡ count s
  shared_count = ap (λ (n : ℕ). n / 4) shared_length

  -- there are no more kerns than instructions
  pub kerns_le : length (kerns_of (packed s kerns)) ≤ count s
  kerns_le = omega (arith, values_le between (count between), packed_count)

  -- ---- instruction i of it

  module _ (i : ℕ) (h : i < count s) where
    stands : i < count between
    stands = rw packed_count h

    -- its next and its right character are as they were lent
    pub shared_first : (m : ℕ) → m < 2 → field (shared_by s kerns) i m ≡ field s i m
    shared_first m l =
        changed_first between (is_kind 0 between) (pos 1) place i m stands l ∙ changed_first s (is_kind 1 s) (pos 0) (kern_at s kerns) i m h l

    was-value : (is_kind 0 s i ≡ true) ⊎ (is_kind 1 s i ≡ true) → is_kind 0 between i ≡ true
    was-value (inl k) = rw (changed_not s (is_kind 1 s) (pos 0) (kern_at s kerns) i 2 h (omega arith) (kind_other 0 1 s i k (λ e. omega arith))) k
    was-value (inr k) = rw (changed_kind s (is_kind 1 s) (pos 0) (kern_at s kerns) i h k)

    -- a kern, by value or by index, becomes the index of its value
    pub shared_kern : (is_kind 0 s i ≡ true) ⊎ (is_kind 1 s i ≡ true) →
        (field (shared_by s kerns) i 2 ≡ pos 1)
        × (field (shared_by s kerns) i 3 ≡ pos (kern_place (field (packed s kerns) i 3) (kerns_of (packed s kerns))))
    shared_kern k = (
      changed_kind between (is_kind 0 between) (pos 1) place i stands (was-value k),
      changed_operand between (is_kind 0 between) (pos 1) place i stands (was-value k),
    )

    -- any other instruction is as it was lent
    pub shared_other : is_kind 0 s i ≡ false → is_kind 1 s i ≡ false → (m : ℕ) → m < 4 → field (shared_by s kerns) i m ≡ field s i m
    shared_other a b m l =
        let same : (j : ℕ) → j < 4 → field between i j ≡ field s i j = λ j g. changed_not s (is_kind 1 s) (pos 0) (kern_at s kerns) i j h g b in
        changed_not between (is_kind 0 between) (pos 1) place i m stands l (rw (same 2 (omega arith)) a) ∙ same m l

    kern-kind : (is_kind 0 s i ≡ true) ⊎ (is_kind 1 s i ≡ true) → (k : ℕ) → is_kind k (shared_by s kerns) i ≡ eqb 1 k
    kern-kind e k = ap (λ (z : ℤ). eqb (word_of z) k) (shared_kern e).0

    other-kind : is_kind 0 s i ≡ false → is_kind 1 s i ≡ false → (k : ℕ) → is_kind k (shared_by s kerns) i ≡ is_kind k s i
    other-kind a b k = ap (λ (z : ℤ). eqb (word_of z) k) (shared_other a b 2 (omega arith))

    -- no kern stands by value
    pub shared_indexed : is_kind 0 (shared_by s kerns) i ≡ false
    shared_indexed = go (is_kind 0 s i) (is_kind 1 s i) refl refl
      where
        go : (a b : Bool) → is_kind 0 s i ≡ a → is_kind 1 s i ≡ b → is_kind 0 (shared_by s kerns) i ≡ false
        go true b e g = kern-kind (inl e) 0
        go false true e g = kern-kind (inr g) 0
        go false false e g = other-kind e g 0 ∙ e

    -- ligatures and redirects stay what they are
    pub shared_kind : (k : ℕ) → 1 < k → is_kind k (shared_by s kerns) i ≡ is_kind k s i
    shared_kind k l = go (is_kind 0 s i) (is_kind 1 s i) refl refl
      where
        is-not : (a : ℕ) → a ≤ 1 → is_kind a s i ≡ true → is_kind k s i ≡ false
        is-not a n e = kind_other a k s i e (λ q. omega arith)

        go : (a b : Bool) → is_kind 0 s i ≡ a → is_kind 1 s i ≡ b → is_kind k (shared_by s kerns) i ≡ is_kind k s i
        go true b e g = kern-kind (inl e) k ∙ ne_eqb 1 k (λ q. omega arith) ∙ sym (is-not 0 (omega arith) e)
        go false true e g = kern-kind (inr g) k ∙ ne_eqb 1 k (λ q. omega arith) ∙ sym (is-not 1 (omega arith) g)
        go false false e g = other-kind e g k

    indexed : is_kind 0 between i ≡ true → kern_place (field between i 3) (kerns_of between) < length (kerns_of between)
    indexed k = placed between (count between) i stands k

    -- a kern's index is below the number of kerns
    pub shared_index : is_kind 1 (shared_by s kerns) i ≡ true → word_of (field (shared_by s kerns) i 3) < length (kerns_of (packed s kerns))
    shared_index k = go (is_kind 0 s i) (is_kind 1 s i) refl refl
      where
        go : (a b : Bool) → is_kind 0 s i ≡ a → is_kind 1 s i ≡ b → word_of (field (shared_by s kerns) i 3) < length (kerns_of between)
        go true b e g = rw (shared_kern (inl e)).1 (indexed (was-value (inl e)))
        go false true e g = rw (shared_kern (inr g)).1 (indexed (was-value (inr g)))
        go false false e g = let z : true ≡ false = sym k ∙ other-kind e g 1 ∙ g in let y : ◌≡◌ {A = ℕ} 0 1 = cc in absurd (omega arith)

  -- ---- it is a program

  module _ (ok : program_refusal s ≡ 0) where
    pub packed_taken : program_refusal (packed s kerns) ≡ 0
    packed_taken = changed_taken s (is_kind 1 s) (pos 0) (kern_at s kerns) ok (λ i h t. refl)

    -- an index is below 65,536
    index_fits : (i : ℕ) → operand_fits 1 (place i) ≡ true
    index_fits i =
        le-leb (kern_place (field between i 3) (kerns_of between)) 65535
        (omega (arith, place_le (field between i 3) (kerns_of between), kerns_le, program_size s ok))

    pub shared_taken : program_refusal (shared_by s kerns) ≡ 0
    shared_taken = changed_taken between (is_kind 0 between) (pos 1) place packed_taken (λ i h t. index_fits i)

    -- there are at most 32,767 kerns
    pub kerns_few : length (kerns_of (packed s kerns)) ≤ 32767
    kerns_few = omega (arith, kerns_le, program_size s ok)
