-- Laws of packed entries, unpacked to the fronts of two lists: one entry more, how many there are, and the lists by the refusal.
-- Assumes nothing.
use mathlib.Core.Path.{◌≡◌, refl, sym, ap, ◌∙◌}
use mathlib.Core.Bool.{Bool, true, false}
use mathlib.Core.List.{List, [], ◌∷◌, ◌++◌, append-nil}
use Prim.Native.Nat.{ℕ, zero, suc, ◌+◌, ◌-◌, ◌*◌, ◌/◌, ◌%◌, ◌<◌, ◌≤◌}
use native.Mathlib.Numerals.{add-one}
use native.Mathlib.Omega.{arith}
use lib.IntN.{ℤ, pos}
use lib.Dec.{leb}
use lib.ListN.{length, set, length-append}
use lib.Seq.{sets}
use borrow.Author.Tests.{eq-eqb, ne_eqb, leb-true, le-leb, lt-leb}
use Rattle.words.specs.Words.{Word, word_of, number_of}
use Rattle.words.proofs.Bits.{number_pos}
use Rattle.words.proofs.Lists.{sets_append}
use Rattle.lang.specs.declared.Written.TheVariants.{Count, Refused}
use Rattle.lang.specs.Records.{count}
use Rattle.lang.specs.Checks.{char_at, entry_at, unless}
use Rattle.lang.specs.Answers.{room_refusal}
use Rattle.lang.proofs.Refusals.{first_refusal, later_refusal_lem, or_else_none, unless_none, refused_answer, taken_answer}
use Rattle.entry_targets.specs.Targets.{stands_for, entry_refusal}
use Rattle.entry_targets.proofs.Targets.{stands_below}
use Rattle.file_fonts.specs.Meant.{leads, unpacked_below, lost_below}
use Rattle.file_unpacking.specs.Unpacking.{Unpacked, unpack_all_refusal, all_or_none, UnpacksWithin}

-- ---- stores in a list, from its front on

-- after those that are stored
stored : (l xs ys : List ℤ) {d d' : List ℤ} {at : ℕ} → d ≡ sets l 0 xs → length xs ≡ at → d' ≡ sets d at ys → d' ≡ sets l 0 (xs ++ ys)
stored l xs ys e a g =
    let z : 0 + length xs ≡ length xs = omega arith in
    g ∙ rw (e, ← a) (sym (sets_append xs ys l 0 ∙ ap (λ (j : ℕ). sets (sets l 0 xs) j ys) z))

-- nothing, where it is refused
none_of : (xs : List ℤ) {m r : ℕ} → r ≡ m → (r ≡ 0 → ⊥) → [] ≡ all_or_none m xs
none_of xs {m = zero} e h = absurd (h e)
none_of xs {m = suc m} e h = refl

-- ---- one packed entry more

module _ (s es : List ℤ) (i : ℕ) where
  -- it leads to an instruction, or it does not, by the word and the number that were read
  module _ {w x : ℕ} (r : Word (entry_at es i) w) (e : x ≡ entry_refusal s w) where
    pub led : x ≡ 0 → leads s (word_of (entry_at es i)) ≡ true
    led z = rw (← r.is, ← e) (eq-eqb x 0 z)

    pub stands_number : {t : ℕ} → x ≡ 0 → count s ≤ 32767 → t ≡ stands_for s w → number_of t ≡ pos (stands_for s (word_of (entry_at es i)))
    stands_number {t} z few g =
        number_pos t (omega (arith, g, stands_below s w (sym e ∙ z))) ∙ ap pos (g ∙ ap (stands_for s) r.is)

    pub not_led : (x ≡ 0 → ⊥) → leads s (word_of (entry_at es i)) ≡ false
    not_led z = rw (← r.is, ← e) (ne_eqb x 0 z)

  module _ (t : leads s (word_of (entry_at es i)) ≡ true) where
    entry_more : unpacked_below s es (i + 1) ≡ unpacked_below s es i ++ (char_at es i ∷ pos (stands_for s (word_of (entry_at es i))) ∷ [])
    unfolding unpacked_below
    entry_more = rw (add-one, t)

    lost-same : lost_below s es (i + 1) ≡ lost_below s es i
    unfolding lost_below
    lost-same = rw (add-one, t) (append-nil (lost_below s es i))

    pub leading_more : (n : ℕ) → length (unpacked_below s es i) ≡ 2 * n → length (unpacked_below s es (i + 1)) ≡ 2 * (n + 1)
    leading_more n e = ap length entry_more ∙ simp length-append (omega (arith, e))

  module _ (t : leads s (word_of (entry_at es i)) ≡ false) where
    entry-same : unpacked_below s es (i + 1) ≡ unpacked_below s es i
    unfolding unpacked_below
    entry-same = rw (add-one, t) (append-nil (unpacked_below s es i))

    lost-more : lost_below s es (i + 1) ≡ lost_below s es i ++ (char_at es i ∷ [])
    unfolding lost_below
    lost-more = rw (add-one, t)

    pub leading_same : (n : ℕ) → length (unpacked_below s es i) ≡ 2 * n → length (unpacked_below s es (i + 1)) ≡ 2 * n
    leading_same n e = ap length entry-same ∙ e

-- ---- how many there are

module _ (s es : List ℤ) where
  pub leading_none : length (unpacked_below s es 0) ≡ 2 * 0
  unfolding unpacked_below
  leading_none = refl

  one_counted : (k : ℕ) (b : Bool) → leads s (word_of (entry_at es k)) ≡ b → length (unpacked_below s es k) + 2 * length (lost_below s es k) ≡ 2 * k →
      length (unpacked_below s es (k + 1)) + 2 * length (lost_below s es (k + 1)) ≡ 2 * (k + 1)
  one_counted k true t e = rw (entry_more s es k t, lost-same s es k t) (simp length-append (omega arith))
  one_counted k false t e = rw (entry-same s es k t, lost-more s es k t) (simp length-append (omega arith))

  -- each is unpacked, or its character is lost
  counted : (k : ℕ) → length (unpacked_below s es k) + 2 * length (lost_below s es k) ≡ 2 * k
  unfolding unpacked_below lost_below
  counted zero = refl
  counted (suc k) = rw add-one at (one_counted k (leads s (word_of (entry_at es k))) refl (counted k))

  pub leading_few : (k n : ℕ) → length (unpacked_below s es k) ≡ 2 * n → n ≤ k
  leading_few k n e = omega (arith, e, counted k)

  pub leading_twos : (k : ℕ) → length (unpacked_below s es k) % 2 ≡ 0
  leading_twos k = omega (arith, counted k)

  pub lost_count : (k n : ℕ) → length (unpacked_below s es k) ≡ 2 * n → length (lost_below s es k) ≡ k - n
  lost_count k n e = omega (arith, e, counted k)

-- ---- both lists, one packed entry more

module _ (s es : List ℤ) where
  pub unpacked_none : (entries lost : List ℤ) → Unpacked s es 0 0 entries lost entries lost
  unfolding unpacked_below lost_below
  unpacked_none entries lost = record { leading = refl; entry_list = refl; lost_list = refl }

  module _ (i n : ℕ) {e₀ l₀ e l : List ℤ} (h : Unpacked s es i n e₀ l₀ e l) {x : ℤ} (cs : x ≡ char_at es i) where
    pub one_leads : leads s (word_of (entry_at es i)) ≡ true → {y : ℤ} → y ≡ pos (stands_for s (word_of (entry_at es i))) → {e₁ e₂ : List ℤ} →
        e₁ ≡ set e (2 * n) x → e₂ ≡ set e₁ (2 * n + 1) y → Unpacked s es (i + 1) (n + 1) e₀ l₀ e₂ l
    one_leads b {y} ts f g =
        record {
          leading = leading_more s es i b n h.leading;
          entry_list = rw (entry_more s es i b, ← cs, ← ts)
              (stored e₀ (unpacked_below s es i) (x ∷ y ∷ []) h.entry_list h.leading (g ∙ rw (f, add-one)));
          lost_list = h.lost_list ∙ ap (sets l₀ 0) (sym (lost-same s es i b));
        }

    pub one_lost : leads s (word_of (entry_at es i)) ≡ false → {l₁ : List ℤ} → l₁ ≡ set l (i - n) x → Unpacked s es (i + 1) n e₀ l₀ e l₁
    one_lost b f =
        record {
          leading = leading_same s es i b n h.leading;
          entry_list = h.entry_list ∙ ap (sets e₀ 0) (sym (entry-same s es i b));
          lost_list = rw (lost-more s es i b, ← cs)
              (stored l₀ (lost_below s es i) (x ∷ []) h.lost_list (lost_count s es i n h.leading) f);
        }

-- ---- by the refusal

module _ (s es : List ℤ) where
  -- asked in this order
  pub long_refused : (a b : ℕ) → 32767 < count s → 1 ≡ unpack_all_refusal s es a b
  long_refused a b h = rw (lt-leb (count s) 32767 h)

  module _ (few : count s ≤ 32767) (n : ℕ) (led : length (unpacked_below s es (length es / 2)) ≡ 2 * n) (a b : ℕ) {r : ℕ}
      (e : r ≡ room_refusal (2 * n) a) where
    pub entries_refused : (r ≡ 0 → ⊥) → r ≡ unpack_all_refusal s es a b
    entries_refused h = rw (le-leb (count s) 32767 few, led) (first_refusal _ e h)

    pub lost_refused : {x : ℕ} → r ≡ 0 → x ≡ room_refusal (length es / 2 - n) b → x ≡ unpack_all_refusal s es a b
    lost_refused h g = rw (le-leb (count s) 32767 few, led, lost_count s es (length es / 2) n led) (later_refusal_lem e h g)

  module _ (entries lost : List ℤ) {r : ℕ} (e : r ≡ unpack_all_refusal s es (length entries) (length lost)) where
    pub within_refused : (r ≡ 0 → ⊥) → UnpacksWithin s es entries lost (Refused r) entries lost
    within_refused h =
        record {
          answer = refused_answer (length (unpacked_below s es (length es / 2)) / 2) e h;
          entry_list = ap (sets entries 0) (none_of (unpacked_below s es (length es / 2)) e h);
          lost_list = ap (sets lost 0) (none_of (lost_below s es (length es / 2)) e h);
        }

    -- and where none holds
    pub few_instructions : r ≡ 0 → count s ≤ 32767
    few_instructions z = leb-true (count s) 32767 (unless_none 0 _ (or_else_none (unless 1 (leb (count s) 32767)) _ (sym e ∙ z)).0)

    pub within_taken : r ≡ 0 → {n : ℕ} {entries' lost' : List ℤ} → Unpacked s es (length es / 2) n entries lost entries' lost' →
        UnpacksWithin s es entries lost (Count n) entries' lost'
    within_taken z {n} u =
        let t = sym e ∙ z in
        let k : n ≡ length (unpacked_below s es (length es / 2)) / 2 = omega (arith, u.leading) in
        record {
          answer = rw k (taken_answer (length (unpacked_below s es (length es / 2)) / 2) t);
          entry_list = rw t u.entry_list;
          lost_list = rw t u.lost_list;
        }
