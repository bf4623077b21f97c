-- Laws of the tree by which values are found: a search comes to each value, passes at most 32 others, and finds an empty slot where the value is not there; a
-- new value goes into that slot, and what was found before is found as before. Assumes nothing.
use mathlib.Core.Path.{◌≡◌, refl, sym, ap, ◌∙◌}
use mathlib.Core.List.{List, [], ◌∷◌, ◌++◌}
use mathlib.Core.Logic.{◌⊎◌, inl, inr}
use Prim.Native.Nat.{ℕ, zero, suc, ◌+◌, ◌-◌, ◌*◌, ◌/◌, ◌%◌, ◌^◌, ◌<◌, ◌≤◌}
use native.Mathlib.Nat.{eq-or-lt_of_le, le_of_suc-le-suc, div-one, div-div-eq-div-mul, pow-succ'}
use native.Mathlib.Numerals.{add-one}
use native.Mathlib.Decide.{dec_le, ℕ_discrete}
use native.Mathlib.Omega.{arith}
use lib.IntN.{ℤ, pos}
use lib.ListN.{length, get_or, set, replicate, length-set, length-replicate}
use lib.Seq.{get_or-set_same, get_or-set_other}
use Rattle.words.specs.Words.{word_of, number_of}
use Rattle.words.proofs.Bits.{word_number}
use Rattle.program_kerns.specs.Kerns.{kern_place}
use Rattle.program_kerns.specs.Sharing.{word_at, slot_after, link_after, Descends, SearchEnds, SearchReaches, Linked}
use Rattle.program_kerns.proofs.Places.{place_word, place_absent, place_grows, place_new, snoc_at, snoc_end, snoc_length}

-- ---- words that agree in all bits are the same

pub bits_same : (n w v : ℕ) → w < 2 ^ n → v < 2 ^ n → ((j : ℕ) → j < n → w / 2 ^ j % 2 ≡ v / 2 ^ j % 2) → w ≡ v
bits_same zero w v a b h = omega arith
bits_same (suc n) w v a b h =
    let low : w % 2 ≡ v % 2 = rw (div-one w, div-one v) at (h 0 (omega arith)) in
    let half : w / 2 ≡ v
    / 2 = bits_same n (w / 2) (v / 2) (omega arith) (omega arith)
    (λ j l. rw (div-div-eq-div-mul w 2 (2 ^ j), div-div-eq-div-mul v 2 (2 ^ j), ← pow-succ' 2 j) (h (suc j) (omega arith))) in
    omega arith

-- ---- a search

pub descends_none : (ks : List ℤ) (links : List ℕ) (w : ℕ) → Descends ks links w 0
descends_none ks links w = record { linked = λ j l. absurd (omega arith); others = λ j l. absurd (omega arith) }

module _ {ks : List ℤ} {links : List ℕ} {w n : ℕ} (s : Descends ks links w n) where
  pub descends_more : (link_after links w n ≡ 0 → ⊥) → (word_at ks (link_after links w n - 1) ≡ w → ⊥) → Descends ks links w (n + 1)
  descends_more a b = record { linked = λ j l. link j (below j (omega arith)); others = λ j l. other j (below j (omega arith)) }
    where
      below : (j : ℕ) → j ≤ n → (j ≡ n) ⊎ (j < n)
      below j h = eq-or-lt_of_le h

      link : (j : ℕ) → (j ≡ n) ⊎ (j < n) → link_after links w j ≡ 0 → ⊥
      link j (inl e) = rw e a
      link j (inr l) = s.linked j l

      other : (j : ℕ) → (j ≡ n) ⊎ (j < n) → word_at ks (link_after links w j - 1) ≡ w → ⊥
      other j (inl e) = rw e b
      other j (inr l) = s.others j l

  pub descends_less : (j : ℕ) → j ≤ n → Descends ks links w j
  descends_less j h = record { linked = λ k l. s.linked k (omega arith); others = λ k l. s.others k (omega arith) }

-- two searches that come to one slot passed as many values, and went by the same bits
record Meet (v w n k : ℕ) : Type 0 where
  same : n ≡ k
  bits : (j : ℕ) → j < n → v / 2 ^ j % 2 ≡ w / 2 ^ j % 2

meet_more : (v w n k : ℕ) → Meet v w n k → v / 2 ^ n % 2 ≡ w / 2 ^ k % 2 → Meet v w (suc n) (suc k)
meet_more v w n k m e = record { same = ap suc m.same; bits = λ j l. by j (eq-or-lt_of_le (le_of_suc-le-suc l)) }
  where
    by : (j : ℕ) → (j ≡ n) ⊎ (j < n) → v / 2 ^ j % 2 ≡ w / 2 ^ j % 2
    by j (inl d) = rw d (rw (← m.same) at e)
    by j (inr l) = m.bits j l

module _ {ks : List ℤ} {links : List ℕ} (c : Linked ks links) where
  meets : (v w n k : ℕ) → Descends ks links v n → Descends ks links w k → slot_after links v n ≡ slot_after links w k → Meet v w n k
  unfolding slot_after
  meets v w zero zero s t e = record { same = refl; bits = λ j l. absurd (omega arith) }
  meets v w zero (suc k) s t e = absurd (omega arith)
  meets v w (suc n) zero s t e = absurd (omega arith)
  meets v w (suc n) (suc k) s t e =
      let a = s.linked n (omega arith) in
      let b = t.linked k (omega arith) in
      let same : link_after links v n ≡ link_after links w k = omega arith in
      meet_more v w n k
      (meets v w n k (descends_less s n (omega arith)) (descends_less t k (omega arith)) (c.single (slot_after links v n) (slot_after links w k) a same))
      (omega arith)

  -- the value to whose link a search comes after n others agrees with w in n bits
  met : (w n p : ℕ) → Descends ks links w n → (l : p < length ks) → link_after links w n ≡ p + 1 → Meet w (word_at ks p) n (c.reached p l).depth
  met w n p s l e =
      let r = c.reached p l in
      meets w (word_at ks p) n r.depth s r.descends
      (c.single (slot_after links w n) (slot_after links (word_at ks p) r.depth) (λ z. omega arith) (e ∙ sym r.link_is))

  -- so that the search for w passes at most 32
  pub descends_few : (w n : ℕ) → w < 2 ^ 32 → Descends ks links w n → n ≤ 32
  descends_few w n l s = by (dec_le n 32)
    where
      past : (p : ℕ) → link_after links w 32 ≡ p + 1 → p < length ks → 32 < n → ⊥
      past p e i h =
          let same : w ≡ word_at ks p = bits_same 32 w (word_at ks p) l (c.words p i) (met w 32 p (descends_less s 32 (omega arith)) i e).bits in
          let at_p : link_after links w 32 - 1 ≡ p = omega arith in
          s.others 32 h (rw at_p (sym same))

      by : Dec (n ≤ 32) → n ≤ 32
      by (yes h) = h
      by (no h) =
          let some = s.linked 32 (omega arith) in
          let low = c.places (slot_after links w 32) in
          absurd (past (link_after links w 32 - 1) (omega arith) (omega arith) (omega arith))

  -- the slot to which it comes
  slot_le : (w n : ℕ) → Descends ks links w n → slot_after links w n ≤ 2 * length ks
  unfolding slot_after
  slot_le w zero s = omega arith
  slot_le w (suc n) s = omega (arith, s.linked n (omega arith), c.places (slot_after links w n))

  pub slot_lt : (w n : ℕ) → Descends ks links w n → slot_after links w n < 65535
  slot_lt w n s = omega (arith, slot_le w n s, c.few)

  pub link_lt : (s : ℕ) → get_or links s 0 < 32768
  link_lt s = omega (arith, c.places s, c.few)

  -- ---- where a search ends

  module _ {w slot : ℕ} (h : SearchEnds ks links w slot) where
    pub ends_lt : slot < 65535
    ends_lt = rw h.slot_is (slot_lt w h.depth h.descends)

    -- at a link: the value's place
    pub ends_found : w < 2 ^ 32 → (get_or links slot 0 ≡ 0 → ⊥) → get_or links slot 0 - 1 ≡ kern_place (number_of w) ks
    ends_found l some =
        sym (c.once (get_or links slot 0 - 1) (omega (arith, c.places slot)))
        ∙ place_word (get_or ks (get_or links slot 0 - 1) (pos 0)) (number_of w) ks (h.stops some ∙ sym (word_number w l))

    -- at no link: the value is nowhere
    nowhere : (j : ℕ) → get_or links slot 0 ≡ 0 → word_at ks j ≡ w → SearchReaches ks links w j → ⊥
    nowhere j none e r = by (dec_le r.depth h.depth) (dec_le h.depth r.depth)
      where
        empty : link_after links w h.depth ≡ 0
        empty = rw h.slot_is at none

        by : Dec (r.depth ≤ h.depth) → Dec (h.depth ≤ r.depth) → ⊥
        by (yes a) (yes b) = let same : r.depth ≡ h.depth = omega arith in let d : 0 ≡ j + 1 = sym empty ∙ (rw same at r.link_is) in omega arith
        by (yes a) (no b) = h.descends.others r.depth (omega arith) (let d : link_after links w r.depth - 1 ≡ j = omega (arith, r.link_is) in rw d e)
        by (no a) b = r.descends.linked h.depth (omega arith) empty

    pub ends_absent : w < 2 ^ 32 → get_or links slot 0 ≡ 0 → kern_place (number_of w) ks ≡ length ks
    ends_absent l none = place_absent (number_of w) ks (λ j i d. let e : word_at ks j ≡ w = d ∙ word_number w l in nowhere j none e (rw e at (c.reached j i)))

-- ---- no value

zeros_at : (n i : ℕ) → get_or {A = ℕ} (replicate n 0) i 0 ≡ 0
zeros_at zero i = refl
zeros_at (suc n) zero = refl
zeros_at (suc n) (suc i) = zeros_at n i

pub linked_none : (links : List ℕ) → links ≡ replicate 65536 0 → Linked [] links
linked_none links e =
    record {
      few = omega arith;
      slots = rw e (length-replicate {A = ℕ} 65536 0);
      once = λ j h. absurd (omega arith);
      words = λ j h. absurd (omega arith);
      places = λ s. omega (arith, zero_at s);
      single = λ s t some. absurd (some (zero_at s));
      reached = λ p h. absurd (omega arith);
    }
  where
    zero_at : (s : ℕ) → get_or links s 0 ≡ 0
    zero_at s = rw e (zeros_at 65536 s)

-- ---- one more value, whose link goes into the empty slot at which the search for it ended

-- a link after the store of m: the new one, or one of before
abbrev LinkCase : List ℕ → ℕ → ℕ → ℕ → Type 0
LinkCase links slot m s = ((s ≡ slot) × (get_or (set links slot m) s 0 ≡ m)) ⊎ (get_or (set links slot m) s 0 ≡ get_or links s 0)

module _ {ks : List ℤ} {links : List ℕ} (c : Linked ks links) (v : ℤ) {slot : ℕ} (h : SearchEnds ks links (word_of v) slot) (none : get_or links slot 0 ≡ 0) where
  -- the other links stay as they are
  link_kept : (s : ℕ) → (get_or links s 0 ≡ 0 → ⊥) → get_or (set links slot (length ks + 1)) s 0 ≡ get_or links s 0
  link_kept s some = get_or-set_other links slot s (length ks + 1) 0 (λ e. some (rw e none))

  -- and so do the searches, which go over links alone
  slot_kept : (w n : ℕ) → Descends ks links w n → slot_after (set links slot (length ks + 1)) w n ≡ slot_after links w n
  unfolding slot_after
  slot_kept w zero s = refl
  slot_kept w (suc n) s = rw (slot_kept w n (descends_less s n (omega arith)), link_kept (slot_after links w n) (s.linked n (omega arith)))

  link_after_lem : (w n : ℕ) → Descends ks links w n → (link_after links w n ≡ 0 → ⊥) → link_after (set links slot (length ks + 1)) w n ≡ link_after links w n
  link_after_lem w n s some = rw (slot_kept w n s) (link_kept (slot_after links w n) some)

  descends_kept : (w n : ℕ) → Descends ks links w n → Descends (ks ++ (v ∷ [])) (set links slot (length ks + 1)) w n
  descends_kept w n s =
      record {
        linked = λ j l. rw (same j l) (s.linked j l);
        others = λ j l. rw (same j l, snoc_at ks v (link_after links w j - 1) (omega (arith, s.linked j l, c.places (slot_after links w j)))) (s.others j l);
      }
    where
      same : (j : ℕ) → j < n → link_after (set links slot (length ks + 1)) w j ≡ link_after links w j
      same j l = link_after_lem w j (descends_less s j (omega arith)) (s.linked j l)

  -- the new link
  link_new : get_or (set links slot (length ks + 1)) slot 0 ≡ length ks + 1
  link_new = get_or-set_same links slot (length ks + 1) 0 (omega (arith, c.slots, ends_lt c h))

  reached_more : (p : ℕ) → (p ≡ length ks) ⊎ (p < length ks) → SearchReaches (ks ++ (v ∷ [])) (set links slot (length ks + 1)) (word_at (ks ++ (v ∷ [])) p) p
  reached_more p (inl e) =
      rw (e, snoc_end ks v)
      record {
        depth = h.depth;
        descends = descends_kept (word_of v) h.depth h.descends;
        link_is = rw (slot_kept (word_of v) h.depth h.descends, ← h.slot_is) link_new;
      }
  reached_more p (inr l) =
      let r = c.reached p l in
      rw (snoc_at ks v p l)
      record {
        depth = r.depth;
        descends = descends_kept (word_at ks p) r.depth r.descends;
        link_is = link_after_lem (word_at ks p) r.depth r.descends (λ z. omega (arith, r.link_is)) ∙ r.link_is;
      }

  link_cases : (s : ℕ) → LinkCase links slot (length ks + 1) s
  link_cases s = by (ℕ_discrete s slot)
    where
      by : Dec (s ≡ slot) → LinkCase links slot (length ks + 1) s
      by (yes e) = inl (e, rw e link_new)
      by (no d) = inr (get_or-set_other links slot s (length ks + 1) 0 d)

  places_more : (s : ℕ) → get_or (set links slot (length ks + 1)) s 0 ≤ length ks + 1
  places_more s = by (link_cases s)
    where
      by : LinkCase links slot (length ks + 1) s → get_or (set links slot (length ks + 1)) s 0 ≤ length ks + 1
      by (inl e) = omega arith
      by (inr e) = omega (arith, c.places s)

  single_more : (s t : ℕ) → (get_or (set links slot (length ks + 1)) s 0 ≡ 0 → ⊥) →
      get_or (set links slot (length ks + 1)) s 0 ≡ get_or (set links slot (length ks + 1)) t 0 → s ≡ t
  single_more s t some d = by (link_cases s) (link_cases t)
    where
      by : LinkCase links slot (length ks + 1) s → LinkCase links slot (length ks + 1) t → s ≡ t
      by (inl e) (inl f) = e.0 ∙ sym f.0
      by (inl e) (inr f) = absurd (omega (arith, c.places t))
      by (inr e) (inl f) = absurd (omega (arith, c.places s))
      by (inr e) (inr f) = c.single s t (rw e at some) (sym e ∙ d ∙ f)

  once_more : kern_place v ks ≡ length ks → (j : ℕ) → (j ≡ length ks) ⊎ (j < length ks) → kern_place (get_or (ks ++ (v ∷ [])) j (pos 0)) (ks ++ (v ∷ [])) ≡ j
  once_more absent j (inl e) = rw (e, snoc_end ks v) (place_new v ks absent)
  once_more absent j (inr l) = rw (snoc_at ks v j l) (place_grows (get_or ks j (pos 0)) ks (v ∷ []) (rw (c.once j l) l) ∙ c.once j l)

  words_more : word_of v < 2 ^ 32 → (j : ℕ) → (j ≡ length ks) ⊎ (j < length ks) → word_at (ks ++ (v ∷ [])) j < 2 ^ 32
  words_more fits j (inl e) = rw (e, snoc_end ks v) fits
  words_more fits j (inr l) = rw (snoc_at ks v j l) (c.words j l)

  pub linked_more : kern_place v ks ≡ length ks → word_of v < 2 ^ 32 → length ks < 32767 → Linked (ks ++ (v ∷ [])) (set links slot (length ks + 1))
  linked_more absent fits room =
      record {
        few = rw (snoc_length ks v) room;
        slots = length-set links slot (length ks + 1) ∙ c.slots;
        once = λ j l. once_more absent j (below j l);
        words = λ j l. words_more fits j (below j l);
        places = λ s. rw (snoc_length ks v, ← add-one (length ks)) (places_more s);
        single = single_more;
        reached = λ p l. reached_more p (below p l);
      }
    where
      below : (j : ℕ) → j < length (ks ++ (v ∷ [])) → (j ≡ length ks) ⊎ (j < length ks)
      below j l = eq-or-lt_of_le (le_of_suc-le-suc (rw (snoc_length ks v) at l))
