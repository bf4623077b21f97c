-- The numbers of an item as they are stored, and what its small numbers are for: what is written is then the numbers of its answer.
-- Assumes nothing.
use mathlib.Core.Path.{◌≡◌, refl, ap, subst, ◌∙◌}
use mathlib.Core.Bool.{Bool, true, false, cond}
use mathlib.Core.List.{List, [], ◌∷◌}
use Prim.Native.Nat.{ℕ, ◌+◌, ◌≤◌}
use native.Mathlib.Omega.{arith}
use lib.IntN.{ℤ, pos}
use lib.Dec.{leb, ltb}
use lib.ListN.{length}
use lib.Seq.{sets}
use borrow.Author.Tests.{leb-true, ltb-true, le-leb, lt-ltb}
use Rattle.words.specs.Words.{number_of}
use Rattle.words.proofs.Bits.{number_pos}
use Rattle.lang.specs.Every.{both}
use Rattle.lang.proofs.Every.{both_left, both_right}
use Rattle.captions.specs.declared.Answer.{Answer}
use Rattle.captions.specs.declared.Answer.TheVariants.{Char, Ligature, Kern, End, Refused}
use Rattle.captions.specs.Replies.{bit_number, answer_reply}
use Rattle.word_plain_letters.specs.PlainLetters.{six_at}
use Rattle.word_items.specs.ItemLists.{is_item, Small, is_small, item_at}

pub no : {A : Type 0} → ◌≡◌ {A = Bool} false true → A
no e = absurd (let z : ◌≡◌ {A = ℕ} 0 1 = cc in omega arith)

pub item_six : (a : Answer) → is_item a ≡ true → length (answer_reply a).values ≡ 6
item_six (Char c p) h = refl
item_six (Ligature c p n a b) h = refl
item_six (Kern k) h = refl
item_six End h = no h
item_six (Refused n) h = no h

-- ---- the six numbers of an item, as they are stored

module _ {x : Answer} where
  pub character_numbers : {c p : ℕ} → x ≡ Char c p → Small x →
      number_of 0 ∷ number_of c ∷ number_of p ∷ number_of 1 ∷ number_of 0 ∷ number_of 0 ∷ [] ≡ (answer_reply x).values
  character_numbers {c} {p} e m =
      let n = subst Small e m in
      rw e (λ j. pos 0 ∷ number_pos c (omega (arith, n.0)) j ∷ number_pos p (omega (arith, n.1)) j ∷ pos 1 ∷ pos 0 ∷ pos 0 ∷ [])

  pub ligature_numbers : {c p n : ℕ} {a b : Bool} (l r : ℕ) → x ≡ Ligature c p n a b → Small x → number_of l ≡ bit_number a → number_of r ≡ bit_number b →
      number_of 1 ∷ number_of c ∷ number_of p ∷ number_of n ∷ number_of l ∷ number_of r ∷ [] ≡ (answer_reply x).values
  ligature_numbers {c} {p} {n} l r e m f g =
      let q = subst Small e m in
      rw e (λ j. pos 1 ∷ number_pos c (omega (arith, q.0)) j ∷ number_pos p (omega (arith, q.1)) j ∷ number_pos n (omega (arith, q.2)) j ∷ f j ∷ g j ∷ [])

  pub kern_numbers : {k : ℤ} (w : ℕ) → x ≡ Kern k → number_of w ≡ k →
      number_of 2 ∷ number_of w ∷ number_of 0 ∷ number_of 0 ∷ number_of 0 ∷ number_of 0 ∷ [] ≡ (answer_reply x).values
  kern_numbers {k} w e q = rw e (λ j. pos 2 ∷ q j ∷ pos 0 ∷ pos 0 ∷ pos 0 ∷ pos 0 ∷ [])

module _ (d d' : List ℤ) (at : ℕ) where
  pub put_character : {x : Answer} {c p : ℕ} → x ≡ Char c p → Small x →
      d' ≡ sets d at (number_of 0 ∷ number_of c ∷ number_of p ∷ number_of 1 ∷ number_of 0 ∷ number_of 0 ∷ []) → d' ≡ sets d at (answer_reply x).values
  put_character e m h = h ∙ ap (sets d at) (character_numbers e m)

-- .. and where there may be no room for them
pub six_as : (d d' : List ℤ) (at : ℕ) {vs ws : List ℤ} → vs ≡ ws → d' ≡ six_at d at vs → d' ≡ six_at d at ws
six_as d d' at e h = h ∙ ap (six_at d at) e

pub six_there : (d d' : List ℤ) (at : ℕ) (vs : List ℤ) → at + 6 ≤ length d → d' ≡ six_at d at vs → d' ≡ sets d at vs
six_there d d' at vs r h = h ∙ ap (λ (b : Bool). cond b (sets d at vs) d) (le-leb (at + 6) (length d) r)

-- no numbers leave the list as it is
pub six_none : (d : List ℤ) (at : ℕ) → d ≡ six_at d at []
six_none d at = by (leb (at + 6) (length d))
  where
    by : (b : Bool) → d ≡ cond b (sets d at []) d
    by true = refl
    by false = refl

-- ---- the test of small numbers

pub test_small : (a : Answer) → is_small a ≡ true → Small a
test_small (Char c p) e = (leb-true c 1114111 (both_left (leb c 1114111) (leb p 65535) e), leb-true p 65535 (both_right (leb c 1114111) (leb p 65535) e))
test_small (Ligature c p n a b) e =
    let o = both (leb p 65535) (leb n 65535) in
    let f = both_right (leb c 1114111) o e in (
      leb-true c 1114111 (both_left (leb c 1114111) o e),
      leb-true p 65535 (both_left (leb p 65535) (leb n 65535) f),
      leb-true n 65535 (both_right (leb p 65535) (leb n 65535) f),
    )
test_small (Kern k) e = tt
test_small End e = tt
test_small (Refused k) e = (ltb-true 0 k (both_left (ltb 0 k) (leb k 20) e), leb-true k 20 (both_right (ltb 0 k) (leb k 20) e))

small_test : (a : Answer) → Small a → is_small a ≡ true
small_test (Char c p) m = rw (le-leb c 1114111 m.0, le-leb p 65535 m.1)
small_test (Ligature c p n a b) m = rw (le-leb c 1114111 m.0, le-leb p 65535 m.1, le-leb n 65535 m.2)
small_test (Kern k) m = refl
small_test End m = refl
small_test (Refused k) m = rw (lt-ltb 0 k m.0, le-leb k 20 m.1)

-- an item whose numbers are small, where there is room for them
pub item_there : (d d' : List ℤ) (at : ℕ) (a : Answer) → at + 6 ≤ length d → Small a → d' ≡ item_at d at a → d' ≡ sets d at (answer_reply a).values
item_there d d' at a r m e =
    let v = (answer_reply a).values in
    six_there d d' at v r (e ∙ ap (λ (b : Bool). cond b (six_at d at v) d) (small_test a m))
