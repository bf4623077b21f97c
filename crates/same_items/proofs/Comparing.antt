-- Two replies of runs beside each other: they are the same exactly where the first answers are, and what follows them is.
-- Assumes nothing.
use mathlib.Core.Path.{◌≡◌, refl, sym, ap, subst, ◌∙◌}
use mathlib.Core.Bool.{Bool, true, false}
use mathlib.Core.List.{List, [], ◌∷◌, ◌++◌}
use Prim.Native.Nat.{ℕ, zero, suc}
use native.Mathlib.Omega.{arith}
use lib.IntN.{ℤ, pos}
use borrow.Author.Tests.{eq-eqb}
use Rattle.lang.specs.Answers.{Reply, reply_of}
use Rattle.repairs.proofs.Committing.{equal_same}
use Rattle.captions.specs.declared.Answer.{Answer}
use Rattle.captions.specs.declared.Answer.TheVariants.{Char, Ligature, Kern, End, Refused}
use Rattle.captions.specs.Replies.{bit_number, answer_reply}
use Rattle.word_items.specs.ItemLists.{is_item, Small}
use Rattle.word_set.specs.Setting.{numbers_before, and_then}
use Rattle.removals.specs.Items.{same_items}
use Rattle.removals.proofs.SameItems.{Same, same_holds, same_is}
use Rattle.same_answer.specs.Answers.{same_answer}
use Rattle.same_answer.proofs.Laws.{no, together, flag_is, answer_holds}

-- ---- an answer, and then what follows it

-- what is known of an answer whose run comes to its end
then_number : (n : ℕ) (vs : List ℤ) → (reply_of n vs).number ≡ 0 → n ≡ 0
then_number zero vs e = refl
then_number (suc n) vs e = e

then_values : (n : ℕ) (vs : List ℤ) → (reply_of n vs).number ≡ 0 → (reply_of n vs).values ≡ vs
then_values zero vs e = refl
then_values (suc n) vs e = absurd (omega (arith, e))

no_refusal : {A : Type 0} (k : ℕ) → Small (Refused k) → k ≡ 0 → A
no_refusal k l e = absurd (omega (arith, l, e))

module _ (q r : Reply) where
  -- the numbers of two items, before those that follow
  fronts : (vs ws : List ℤ) → Same (numbers_before vs q) (numbers_before ws r) → vs ++ q.values ≡ ws ++ r.values
  fronts vs ws h =
      sym (then_values q.number (vs ++ q.values) h.first) ∙ h.values ∙ then_values r.number (ws ++ r.values) h.second

  -- an item and the end
  not_end : {A : Type 0} (v : ℤ) (vs : List ℤ) → Same (numbers_before (v ∷ vs) q) (reply_of 0 []) → A
  not_end v vs h =
      let e : v ∷ (vs ++ q.values) ≡ [] = sym (then_values q.number (v ∷ (vs ++ q.values)) h.first) ∙ h.values in
      absurd (let z : ◌≡◌ {A = ℕ} 0 1 = cc in omega arith)

  end_not : {A : Type 0} (v : ℤ) (vs : List ℤ) → Same (reply_of 0 []) (numbers_before (v ∷ vs) r) → A
  end_not v vs h =
      let e : v ∷ (vs ++ r.values) ≡ [] = sym (then_values r.number (v ∷ (vs ++ r.values)) h.second) ∙ sym h.values in
      absurd (let z : ◌≡◌ {A = ℕ} 0 1 = cc in omega arith)

  then_same : (a b : Answer) → Small a → Small b → Same (and_then a q) (and_then b r) → same_answer a b ≡ true
  then_same (Char c p) (Char d u) s t h =
      let e = fronts (answer_reply (Char c p)).values (answer_reply (Char d u)).values h in
      let f : c ≡ d = cc in
      let g : p ≡ u = cc in
      rw (eq-eqb c d f, eq-eqb p u g)
  then_same (Char c p) (Ligature d u m x y) s t h =
      let e = fronts (answer_reply (Char c p)).values (answer_reply (Ligature d u m x y)).values h in
      absurd (let z : ◌≡◌ {A = ℕ} 0 1 = cc in omega arith)
  then_same (Char c p) (Kern j) s t h =
      let e = fronts (answer_reply (Char c p)).values (answer_reply (Kern j)).values h in
      absurd (let z : ◌≡◌ {A = ℕ} 0 2 = cc in omega arith)
  then_same (Char c p) End s t h = not_end (pos 0) (pos c ∷ pos p ∷ pos 1 ∷ pos 0 ∷ pos 0 ∷ []) h
  then_same (Char c p) (Refused j) s t h = no_refusal j t h.second
  then_same (Ligature c p n l k) (Char d u) s t h =
      let e = fronts (answer_reply (Ligature c p n l k)).values (answer_reply (Char d u)).values h in
      absurd (let z : ◌≡◌ {A = ℕ} 0 1 = cc in omega arith)
  then_same (Ligature c p n l k) (Ligature d u m x y) s t h =
      let e = fronts (answer_reply (Ligature c p n l k)).values (answer_reply (Ligature d u m x y)).values h in
      let f : c ≡ d = cc in
      let g : p ≡ u = cc in
      let i : n ≡ m = cc in
      let v : bit_number l ≡ bit_number x = cc in
      let w : bit_number k ≡ bit_number y = cc in
      rw (eq-eqb c d f, eq-eqb p u g, eq-eqb n m i, flag_is l x v, flag_is k y w)
  then_same (Ligature c p n l k) (Kern j) s t h =
      let e = fronts (answer_reply (Ligature c p n l k)).values (answer_reply (Kern j)).values h in
      absurd (let z : ◌≡◌ {A = ℕ} 1 2 = cc in omega arith)
  then_same (Ligature c p n l k) End s t h = not_end (pos 1) (pos c ∷ pos p ∷ pos n ∷ bit_number l ∷ bit_number k ∷ []) h
  then_same (Ligature c p n l k) (Refused j) s t h = no_refusal j t h.second
  then_same (Kern i) (Char d u) s t h =
      let e = fronts (answer_reply (Kern i)).values (answer_reply (Char d u)).values h in
      absurd (let z : ◌≡◌ {A = ℕ} 0 2 = cc in omega arith)
  then_same (Kern i) (Ligature d u m x y) s t h =
      let e = fronts (answer_reply (Kern i)).values (answer_reply (Ligature d u m x y)).values h in
      absurd (let z : ◌≡◌ {A = ℕ} 1 2 = cc in omega arith)
  then_same (Kern i) (Kern j) s t h =
      let e = fronts (answer_reply (Kern i)).values (answer_reply (Kern j)).values h in
      let f : i ≡ j = cc in
      equal_same i j f
  then_same (Kern i) End s t h = not_end (pos 2) (i ∷ pos 0 ∷ pos 0 ∷ pos 0 ∷ pos 0 ∷ []) h
  then_same (Kern i) (Refused j) s t h = no_refusal j t h.second
  then_same End (Char d u) s t h = end_not (pos 0) (pos d ∷ pos u ∷ pos 1 ∷ pos 0 ∷ pos 0 ∷ []) h
  then_same End (Ligature d u m x y) s t h = end_not (pos 1) (pos d ∷ pos u ∷ pos m ∷ bit_number x ∷ bit_number y ∷ []) h
  then_same End (Kern j) s t h = end_not (pos 2) (j ∷ pos 0 ∷ pos 0 ∷ pos 0 ∷ pos 0 ∷ []) h
  then_same End End s t h = refl
  then_same End (Refused j) s t h = no_refusal j t h.second
  then_same (Refused k) b s t h = no_refusal k s h.first

  -- the numbers of one item, before those that follow
  cancelled : (v0 v1 v2 v3 v4 v5 : ℤ) → let vs = v0 ∷ v1 ∷ v2 ∷ v3 ∷ v4 ∷ v5 ∷ [] in Same (numbers_before vs q) (numbers_before vs r) → Same q r
  cancelled v0 v1 v2 v3 v4 v5 h =
      let vs = v0 ∷ v1 ∷ v2 ∷ v3 ∷ v4 ∷ v5 ∷ [] in
      let e = fronts vs vs h in
      record { first = then_number q.number (vs ++ q.values) h.first; second = then_number r.number (vs ++ r.values) h.second; values = cc }

  after_same : (a : Answer) → is_item a ≡ true → Same (and_then a q) (and_then a r) → Same q r
  after_same (Char c p) i h = cancelled (pos 0) (pos c) (pos p) (pos 1) (pos 0) (pos 0) h
  after_same (Ligature c p n l k) i h = cancelled (pos 1) (pos c) (pos p) (pos n) (bit_number l) (bit_number k) h
  after_same (Kern k) i h = cancelled (pos 2) k (pos 0) (pos 0) (pos 0) (pos 0) h
  after_same End i h = no i
  after_same (Refused k) i h = no i

  joined : (vs : List ℤ) → Same q r → Same (numbers_before vs q) (numbers_before vs r)
  joined vs h = rw (h.first, h.second, h.values) (record { first = refl; second = refl; values = refl })

  same_after : (a : Answer) → is_item a ≡ true → Same q r → Same (and_then a q) (and_then a r)
  same_after (Char c p) i h = joined (answer_reply (Char c p)).values h
  same_after (Ligature c p n l k) i h = joined (answer_reply (Ligature c p n l k)).values h
  same_after (Kern k) i h = joined (answer_reply (Kern k)).values h
  same_after End i h = no i
  same_after (Refused k) i h = no i

  -- ---- by the tests of the code

  pub differs : (a b : Answer) → Small a → Small b → same_answer a b ≡ false → same_items (and_then a q) (and_then b r) ≡ false
  differs a b s t e = by (same_items (and_then a q) (and_then b r)) refl
    where
      by : (x : Bool) → same_items (and_then a q) (and_then b r) ≡ x → x ≡ false
      by true f = no (sym e ∙ then_same a b s t (same_holds (and_then a q) (and_then b r) f))
      by false f = refl

  pub both_end : (a b : Answer) → same_answer a b ≡ true → is_item a ≡ false → same_items (and_then a q) (and_then b r) ≡ true
  both_end (Char c p) b e i = no (sym i)
  both_end (Ligature c p n l k) b e i = no (sym i)
  both_end (Kern k) b e i = no (sym i)
  both_end End b e i = subst (λ (x : Answer). same_items (and_then End q) (and_then x r) ≡ true) (answer_holds End b e)
      (same_is (reply_of 0 []) (reply_of 0 []) (record { first = refl; second = refl; values = refl }))
  both_end (Refused k) b e i = no e

  pub goes_on : (a b : Answer) → same_answer a b ≡ true → is_item a ≡ true → same_items (and_then a q) (and_then b r) ≡ same_items q r
  goes_on a b e i =
      subst (λ (x : Answer). same_items (and_then a q) (and_then x r) ≡ same_items q r) (answer_holds a b e)
      (together (same_items (and_then a q) (and_then a r)) (same_items q r)
      (λ f. same_is q r (after_same a i (same_holds (and_then a q) (and_then a r) f)))
      (λ f. same_is (and_then a q) (and_then a r) (same_after a i (same_holds q r f))))
