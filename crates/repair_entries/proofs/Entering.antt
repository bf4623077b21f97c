-- Laws of the passes over the entries: what each leaves after one entry more.
-- Assumes nothing.
use mathlib.Core.Path.{◌≡◌, refl, sym, ap, ◌∙◌}
use mathlib.Core.Bool.{Bool, true, false, cond, not}
use mathlib.Core.List.{List, [], ◌∷◌, ◌++◌}
use Prim.Native.Nat.{ℕ, zero, suc, ◌+◌, ◌*◌, ◌/◌, ◌<◌, ◌≤◌}
use native.Mathlib.Numerals.{add-one}
use native.Mathlib.Omega.{arith}
use lib.IntN.{ℤ, pos}
use lib.Dec.{leb, ltb, eqb}
use lib.ListN.{length, get_or, set, length-append}
use lib.Seq.{sets}
use lib.Signed.{non_neg}
use borrow.Author.Tests.{eqb-true, eq-eqb, ne_eqb}
use Rattle.words.specs.Words.{Word, word_of, number_of}
use Rattle.words.proofs.Bits.{number_is, number_pos, read_pos, read_neg}
use Rattle.words.proofs.Lists.{tabulate_ext}
use Rattle.lang.specs.Every.{both}
use Rattle.lang.specs.Records.{count, is_kind}
use Rattle.lang.specs.Checks.{char_at, entry_at}
use Rattle.lang.proofs.Every.{both_left, both_false}
use Rattle.entry_targets.specs.Targets.{stands_for, entry_refusal}
use Rattle.entry_targets.proofs.Targets.{followed_below, stands_below}
use Rattle.repairs.specs.Damaged.{Damaged, packed_entry_of, unpacks, unpacked_upto, unpacked_entries, redirects_at, repaired_passthrough}
use Rattle.repairs.specs.Warnings.{warning, warn_if, left_warning, entry_warnings}
use Rattle.repairs.specs.Pushed.{Pushed}
use Rattle.repairs.proofs.Pushing.{sets_after, pushed_none, pushed_append, pushed_if}
use Rattle.repair_entries.specs.Entering.{Lends, Placed, entry_numbers, passthrough_bits, redirect_passed, passed_upto, passthrough_upto, PassesFrom}
use Rattle.repair_entries.specs.Entering.{EntersFrom, is_enterable, Enters}
use Rattle.repair_entries.proofs.Stores.{stored_none, stored_more, stored_set}

-- ---- entries placed one after the other

placed_none : (u : List ℤ) (n : ℕ) → Placed u n [] u n
placed_none u n = record { count = omega arith; list = refl }

placed_append : (u : List ℤ) (n : ℕ) (xs u₁ : List ℤ) (m : ℕ) (ys u₂ : List ℤ) (r : ℕ) → Placed u n xs u₁ m → Placed u₁ m ys u₂ r → Placed u n (xs ++ ys) u₂ r
placed_append u n xs u₁ m ys u₂ r a b =
    record {
      count = omega (arith, a.count, b.count, length-append xs ys);
      list = sets_after xs ys u (2 * n) (2 * m) a.list a.count b.list;
    }

-- one entry, that unpacks or does not
module _ (s : List ℤ) (c e : ℕ) where
  pub not_placed : (u : List ℤ) (n x : ℕ) → x ≡ entry_refusal s e → (x ≡ 0 → ⊥) → Placed u n (entry_numbers s c e) u n
  not_placed u n x i h = rw (← i, ne_eqb x 0 h) (placed_none u n)

  pub placed : (u u₁ u₂ : List ℤ) (n x t : ℕ) → x ≡ entry_refusal s e → x ≡ 0 → t ≡ stands_for s e → u₁ ≡ set u (2 * n) (number_of c) →
      u₂ ≡ set u₁ (2 * n + 1) (number_of t) → Placed u n (entry_numbers s c e) u₂ (n + 1)
  placed u u₁ u₂ n x t i h k f g =
      rw (← i, eq-eqb x 0 h)
      record {
        count = omega arith;
        list = g ∙ rw (f, k, add-one);
      }

  pub one_at_most : (u : List ℤ) (n : ℕ) (u' : List ℤ) (r : ℕ) → Placed u n (entry_numbers s c e) u' r → r ≤ n + 1
  one_at_most u n u' r p = omega (arith, p.count, two (eqb (entry_refusal s e) 0))
    where
      two : (t : Bool) → length (cond t (number_of c ∷ number_of (stands_for s e) ∷ []) []) ≤ 2
      two true = omega arith
      two false = omega arith

-- ---- the entries unpacked

module _ (d : Damaged) (few : count d.instructions ≤ 32767) (k c : ℕ) (cs : Word (char_at d.entries k) c) where
  numbers_are : entry_numbers d.instructions c (packed_entry_of d k)
      ≡ cond (unpacks d k) (char_at d.entries k ∷ pos (stands_for d.instructions (packed_entry_of d k)) ∷ []) []
  numbers_are = go (unpacks d k) refl
    where
      go : (t : Bool) → unpacks d k ≡ t →
          cond t (number_of c ∷ number_of (stands_for d.instructions (packed_entry_of d k)) ∷ []) []
          ≡ cond t (char_at d.entries k ∷ pos (stands_for d.instructions (packed_entry_of d k)) ∷ []) []
      go true h =
          let l = stands_below d.instructions (packed_entry_of d k) (eqb-true (entry_refusal d.instructions (packed_entry_of d k)) 0 h) in
          rw (number_is cs, number_pos (stands_for d.instructions (packed_entry_of d k)) (omega arith))
      go false h = refl

  upto_more : (u u₁ u₂ : List ℤ) (n r : ℕ) → Placed u 0 (unpacked_upto d k) u₁ n → Placed u₁ n (entry_numbers d.instructions c (packed_entry_of d k)) u₂ r →
      Placed u 0 (unpacked_upto d (k + 1)) u₂ r
  unfolding unpacked_upto
  upto_more u u₁ u₂ n r a b =
      rw (add-one k)
      (placed_append u 0 (unpacked_upto d k) u₁ n (cond (unpacks d k) (char_at d.entries k ∷ pos (stands_for d.instructions (packed_entry_of d k)) ∷ []) [])
      u₂ r a (rw numbers_are at b))

pub unpacked_none : (d : Damaged) (u : List ℤ) → Placed u 0 (unpacked_upto d 0) u 0
unfolding unpacked_upto
unpacked_none d u = placed_none u 0

-- ---- passthrough as 0 and 1

module _ (p t : List ℕ) where
  pub bits_none : t ≡ sets t 0 (passthrough_bits p 0)
  bits_none = stored_none t (λ i. cond (eqb (get_or p i 0) 0) 0 1)

  pub bits_more : (i bit : ℕ) {t₁ t₂ : List ℕ} → t₁ ≡ sets t 0 (passthrough_bits p i) → bit ≡ cond (eqb (get_or p i 0) 0) 0 1 → t₂ ≡ set t₁ i bit →
      t₂ ≡ sets t 0 (passthrough_bits p (i + 1))
  bits_more i bit e f g = g ∙ rw (e, f) (stored_more t (λ i. cond (eqb (get_or p i 0) 0) 0 1) i)

module _ (p : List ℕ) (i : ℕ) {b : ℕ} (bs : b ≡ get_or p i 0) where
  pub bit_clear : b ≡ 0 → ◌≡◌ {A = ℕ} 0 (cond (eqb (get_or p i 0) 0) 0 1)
  bit_clear h = rw (← bs, eq-eqb b 0 h)

  pub bit_set : (b ≡ 0 → ⊥) → ◌≡◌ {A = ℕ} 1 (cond (eqb (get_or p i 0) 0) 0 1)
  bit_set h = rw (← bs, ne_eqb b 0 h)

-- ---- what is passed over

module _ (s : List ℤ) (e : ℕ) (t : List ℕ) where
  pub no_redirect : is_kind 3 s e ≡ false → t ≡ redirect_passed s e t
  no_redirect k =
      let never : both (eqb (entry_refusal s e) 0) (is_kind 3 s e) ≡ false = ap (both (eqb (entry_refusal s e) 0)) k ∙ both_false (eqb (entry_refusal s e) 0) in
      sym (ap (λ (b : Bool). cond b (set t e 1) t) never)

  module _ {x : ℕ} (xs : x ≡ entry_refusal s e) where
    pub not_followed : (x ≡ 0 → ⊥) → t ≡ redirect_passed s e t
    not_followed h = rw (← xs, ne_eqb x 0 h)

    pub followed : x ≡ 0 → is_kind 3 s e ≡ true → {t₁ : List ℕ} → t₁ ≡ set t e 1 → t₁ ≡ redirect_passed s e t
    followed h k g = rw (← xs, eq-eqb x 0 h, k) g

came_so : (z : Bool) → ◌≡◌ {A = ℕ} (cond z 0 1) (cond (cond z false true) 1 0)
came_so true = refl
came_so false = refl

one_passed : (u k q z r : Bool) → both u k ≡ true → ◌≡◌ {A = ℕ} (cond q 1 (cond (cond z r true) 1 0)) (cond (cond z (cond (both u (both k q)) true r) true) 1 0)
one_passed true true true true r e = refl
one_passed true true true false r e = refl
one_passed true true false z r e = refl
one_passed true false q z r e = absurd (let y : ◌≡◌ {A = ℕ} 0 1 = cc in omega arith)
one_passed false k q z r e = absurd (let y : ◌≡◌ {A = ℕ} 0 1 = cc in omega arith)

none_passed : (u k q z r : Bool) → both u k ≡ false → ◌≡◌ {A = ℕ} (cond (cond z r true) 1 0) (cond (cond z (cond (both u (both k q)) true r) true) 1 0)
none_passed true true q z r e = absurd (let y : ◌≡◌ {A = ℕ} 0 1 = cc in omega arith)
none_passed true false q z r e = refl
none_passed false k q z r e = refl

module _ (d : Damaged) (t : List ℕ) where
  passed_start : sets t 0 (passthrough_bits d.passthrough (count d.instructions)) ≡ sets t 0 (passthrough_upto d 0)
  unfolding redirects_at
  passed_start =
      ap (λ (m : List ℕ). sets t 0 m)
      (tabulate_ext (count d.instructions) (λ i. cond (eqb (get_or d.passthrough i 0) 0) 0 1) (λ i. cond (passed_upto d 0 i) 1 0)
      (λ i h. came_so (eqb (get_or d.passthrough i 0) 0)))

  module _ (k : ℕ) where
    abbrev now-at : ℕ → ℕ
    now-at i = cond (passed_upto d k i) 1 0

    abbrev then_at : ℕ → ℕ
    then_at i = cond (passed_upto d (suc k) i) 1 0

    abbrev is-so : Bool
    is-so = is_kind 3 d.instructions (packed_entry_of d k)

    step : (b : Bool) → both (unpacks d k) is-so ≡ b →
        cond b (set (sets t 0 (passthrough_upto d k)) (packed_entry_of d k) 1) (sets t 0 (passthrough_upto d k)) ≡ sets t 0 (passthrough_upto d (suc k))
    unfolding redirects_at
    step true h =
        stored_set t (count d.instructions) now-at (packed_entry_of d k) 1
        (followed_below d.instructions (packed_entry_of d k)
        (eqb-true (entry_refusal d.instructions (packed_entry_of d k)) 0 (both_left (unpacks d k) is-so h)))
        ∙ ap (λ (m : List ℕ). sets t 0 m)
        (tabulate_ext (count d.instructions) (λ i. cond (eqb (packed_entry_of d k) i) 1 (now-at i)) then_at
        (λ i l. one_passed (unpacks d k) is-so (eqb (packed_entry_of d k) i) (eqb (get_or d.passthrough i 0) 0) (redirects_at d i k) h))
    step false h =
        ap (λ (m : List ℕ). sets t 0 m)
        (tabulate_ext (count d.instructions) now-at then_at
        (λ i l. none_passed (unpacks d k) is-so (eqb (packed_entry_of d k) i) (eqb (get_or d.passthrough i 0) 0) (redirects_at d i k) h))

    passed-step : (t₁ t₂ : List ℕ) → t₁ ≡ sets t 0 (passthrough_upto d k) → t₂ ≡ redirect_passed d.instructions (packed_entry_of d k) t₁ →
        t₂ ≡ sets t 0 (passthrough_upto d (k + 1))
    passed-step t₁ t₂ a b = rw (add-one k) (b ∙ rw a (step (both (unpacks d k) is-so) refl))

-- ---- the warnings

few_warned : (d : Damaged) (k : ℕ) → length (entry_warnings d k) ≤ 4 * k
unfolding entry_warnings
few_warned d zero = omega arith
few_warned d (suc k) =
    omega (
      arith,
      few_warned d k,
      four (unpacks d k),
      length-append (entry_warnings d k) (warn_if (not (unpacks d k)) (warning 2 (char_at d.entries k) (pos 0) (pos 0))),
    )
  where
    four : (t : Bool) → length (warn_if (not t) (warning 2 (char_at d.entries k) (pos 0) (pos 0))) ≤ 4
    four true = omega arith
    four false = omega arith

pub warned_none : (d : Damaged) (w : List ℤ) (n : ℕ) → Pushed w n (entry_warnings d 0) w n
unfolding entry_warnings
warned_none d w n = pushed_none w n

warned_step : (d : Damaged) (k c : ℕ) → Word (char_at d.entries k) c → (w w₁ w₂ : List ℤ) (n m r : ℕ) → n ≤ 1 → k < 256 →
    Pushed w n (entry_warnings d k) w₁ m →
    Pushed w₁ m (warn_if (both (not (unpacks d k)) (ltb m 4294967296)) (warning 2 (number_of c) (number_of 0) (number_of 0))) w₂ r →
    Pushed w n (entry_warnings d (k + 1)) w₂ r
unfolding entry_warnings
warned_step d k c cs w w₁ w₂ n m r h l a b =
    rw (add-one k)
    (pushed_append w n (entry_warnings d k) w₁ m (warn_if (not (unpacks d k)) (warning 2 (char_at d.entries k) (pos 0) (pos 0))) w₂ r a
    (rw (number_is cs) at
    (pushed_if w₁ m (not (unpacks d k)) (warning 2 (number_of c) (number_of 0) (number_of 0)) w₂ r (omega (arith, a.count, few_warned d k)) b)))

-- ---- the left entry

module _ {z : ℤ} {w : ℕ} (n : ℕ) (zs : Word z w) where
  pub left_absent : 2147483648 ≤ w → false ≡ both (non_neg z) (leb n (word_of z))
  left_absent h = rw (read_neg zs h)

  pub left_there : w < 2147483648 → leb n w ≡ both (non_neg z) (leb n (word_of z))
  left_there h = rw (← zs.is, read_pos zs h)

-- ---- of the font that is lent

module _ (d : Damaged) (s es : List ℤ) (l : Lends d s es) where
  pub unpacked_more : count s ≤ 32767 → (k c e : ℕ) → Word (char_at es k) c → e ≡ word_of (entry_at es k) → (u u₁ u₂ : List ℤ) (n r : ℕ) →
      Placed u 0 (unpacked_upto d k) u₁ n → Placed u₁ n (entry_numbers s c e) u₂ r → Placed u 0 (unpacked_upto d (k + 1)) u₂ r
  unpacked_more few k c e cs i u u₁ u₂ n r a b =
      upto_more d (rw (← l.instructions) at few) k c (rw (← l.entries) at cs) u u₁ u₂ n r a (rw (i, ← l.instructions, ← l.entries) at b)

  pub passed_none : (p t : List ℕ) → d.passthrough ≡ p → {t₁ : List ℕ} → t₁ ≡ sets t 0 (passthrough_bits p (count s)) → t₁ ≡ sets t 0 (passthrough_upto d 0)
  passed_none p t ps a = rw (← ps, ← l.instructions) at a ∙ passed_start d t

  pub passed_more : (t : List ℕ) (k e : ℕ) → e ≡ word_of (entry_at es k) → {t₁ t₂ : List ℕ} → t₁ ≡ sets t 0 (passthrough_upto d k) → t₂ ≡ redirect_passed s e t₁ →
      t₂ ≡ sets t 0 (passthrough_upto d (k + 1))
  passed_more t k e i {t₁} {t₂} a b = passed-step d t k t₁ t₂ a (rw (i, ← l.instructions, ← l.entries) at b)

  pub warned_more : (k c e x : ℕ) → Word (char_at es k) c → e ≡ word_of (entry_at es k) → x ≡ entry_refusal s e → (w w₁ w₂ : List ℤ) (n m r : ℕ) → n ≤ 1 → k < 256 →
      Pushed w n (entry_warnings d k) w₁ m →
      Pushed w₁ m (warn_if (both (not (eqb x 0)) (ltb m 4294967296)) (warning 2 (number_of c) (number_of 0) (number_of 0))) w₂ r →
      Pushed w n (entry_warnings d (k + 1)) w₂ r
  warned_more k c e x cs i xs w w₁ w₂ n m r h b a q =
      warned_step d k c (rw (← l.entries) at cs) w w₁ w₂ n m r h b a (rw (xs, i, ← l.instructions, ← l.entries) at q)

-- ---- all passes, one after the other

-- the left entry has one warning at most
pub one_left : (t : Bool) (w w₁ : List ℤ) (i : ℕ) →
    Pushed w 0 (warn_if (both t (ltb 0 4294967296)) (warning 1 (number_of 0) (number_of 0) (number_of 0))) w₁ i → i ≤ 1
one_left t w w₁ i a = omega (arith, a.count, four (both t (ltb 0 4294967296)))
  where
    four : (t : Bool) → length (warn_if t (warning 1 (number_of 0) (number_of 0) (number_of 0))) ≤ 4
    four true = omega arith
    four false = omega arith

module _ (d : Damaged) {s es : List ℤ} {z : ℤ} {p : List ℕ} (f : EntersFrom d s es z p) where
  -- the test, of the lists that are lent
  enterable_is : is_enterable d ≡ both (leb (count s) 32767) (leb (length es / 2) 256)
  enterable_is = λ i. both (leb (count (f.lists.instructions i)) 32767) (leb (length (f.lists.entries i) / 2) 256)

  -- it fails
  pub enters_none : (u : List ℤ) (t : List ℕ) (w : List ℤ) {b : Bool} → b ≡ both (leb (count s) 32767) (leb (length es / 2) 256) → b ≡ false →
      Enters d u t w (record { entries = 0; warnings = 0 }) u t w
  enters_none u t w e h =
      let fails : is_enterable d ≡ false = enterable_is ∙ sym e ∙ h in
      record { entries = rw fails; list = rw fails; passthrough = rw fails; warned = rw fails (pushed_none w 0) }

  left_pushed : {b : Bool} → b ≡ both (non_neg z) (leb (count s) (word_of z)) → (w w₁ : List ℤ) (i : ℕ) →
      Pushed w 0 (warn_if (both b (ltb 0 4294967296)) (warning 1 (number_of 0) (number_of 0) (number_of 0))) w₁ i → Pushed w 0 (left_warning d) w₁ i
  left_pushed {b} bs w w₁ i a =
      rw (bs, ← f.left_entry_lem, ← f.lists.instructions) at
      (pushed_if w 0 b (warning 1 (number_of 0) (number_of 0) (number_of 0)) w₁ i (omega arith) a)

  -- it holds
  enterable_so : {b : Bool} → b ≡ both (leb (count s) 32767) (leb (length es / 2) 256) → b ≡ true → is_enterable d ≡ true
  enterable_so e h = enterable_is ∙ sym e ∙ h

-- what each pass leaves of the font d, with what was lent of it
pub record EntryPasses (d : Damaged) (s es : List ℤ) (z : ℤ) (p : List ℕ) : Type 0 where
  pub lent : EntersFrom d s es z p
  pub fits : Bool
  pub fits_is : fits ≡ both (leb (count s) 32767) (leb (length es / 2) 256)
  pub fit : fits ≡ true
  -- the entries
  pub unpacked : List ℤ
  pub unpacked' : List ℤ
  pub entries : ℕ
  pub placed_are : Placed unpacked 0 (unpacked_entries d) unpacked' entries
  -- passthrough, as 0 and 1, and with redirects
  pub through : List ℕ
  pub through₁ : List ℕ
  pub through' : List ℕ
  pub bits : through₁ ≡ sets through 0 (passthrough_bits p (count s))
  pub passed_are : (t : List ℕ) → PassesFrom d t s es through₁ → through' ≡ sets t 0 (repaired_passthrough d)
  -- the warnings, of the left entry and then of the entries
  pub goes : Bool
  pub goes_is : goes ≡ both (non_neg z) (leb (count s) (word_of z))
  pub warnings : List ℤ
  pub warnings₁ : List ℤ
  pub warnings' : List ℤ
  pub one : ℕ
  pub all : ℕ
  pub left_warned : Pushed warnings 0 (warn_if (both goes (ltb 0 4294967296)) (warning 1 (number_of 0) (number_of 0) (number_of 0))) warnings₁ one
  pub entries_warned : Pushed warnings₁ one (entry_warnings d (length es / 2)) warnings' all

pub enters : {d : Damaged} {s es : List ℤ} {z : ℤ} {p : List ℕ} (x : EntryPasses d s es z p) →
    Enters d x.unpacked x.through x.warnings (record { entries = x.entries; warnings = x.all }) x.unpacked' x.through' x.warnings'
enters {d} {s} {es} {p = p} x =
    let f = x.lent in
    let holds = enterable_so d f x.fits_is x.fit in
    let from = passed_none d s es f.lists p x.through f.passed x.bits in
    record {
      entries = rw holds (omega (arith, x.placed_are.count));
      list = rw holds x.placed_are.list;
      passthrough = rw holds (x.passed_are x.through (record { lists = f.lists; from = from }));
      warned =
          rw holds
          (pushed_append _ _ _ _ _ _ _ _ (left_pushed d f x.goes_is _ _ _ x.left_warned) (rw (← f.lists.entries) at x.entries_warned));
    }
