-- Two answers that are the same by the tests of the code are equal, and two kerns are compared by their words.
-- Assumes nothing.
use mathlib.Core.Path.{◌≡◌, refl, sym, ap, ◌∙◌}
use mathlib.Core.Bool.{Bool, true, false}
use Prim.Native.Nat.{ℕ}
use native.Mathlib.Omega.{arith}
use lib.IntN.{ℤ, pos, negsuc}
use lib.Dec.{eqb}
use borrow.Author.Tests.{eq-eqb, eqb-true}
use Rattle.words.specs.Words.{word_of, number_of, Word}
use Rattle.words.proofs.Bits.{number_is}
use Rattle.lang.specs.Every.{both}
use Rattle.lang.proofs.Every.{both_left, both_right}
use Rattle.repairs.specs.Committing.{same_number}
use Rattle.repairs.proofs.Committing.{equal_same}
use Rattle.captions.specs.declared.Answer.{Answer}
use Rattle.captions.specs.declared.Answer.TheVariants.{Char, Ligature, Kern, End, Refused}
use Rattle.captions.specs.Replies.{bit_number}
use Rattle.same_answer.specs.Answers.{same_flag, same_answer}

pub no : {A : Type 0} → ◌≡◌ {A = Bool} false true → A
no e = absurd (let z : ◌≡◌ {A = ℕ} 0 1 = cc in omega arith)

-- two tests that hold together are equal
pub together : (a b : Bool) → (a ≡ true → b ≡ true) → (b ≡ true → a ≡ true) → a ≡ b
together true b f g = sym (f refl)
together false true f g = no (g refl)
together false false f g = refl

flag_holds : (a b : Bool) → same_flag a b ≡ true → a ≡ b
flag_holds true b e = sym e
flag_holds false true e = no e
flag_holds false false e = refl

pub flag_is : (a b : Bool) → bit_number a ≡ bit_number b → same_flag a b ≡ true
flag_is true true e = refl
flag_is true false e = absurd (let z : ◌≡◌ {A = ℕ} 0 1 = cc in omega arith)
flag_is false true e = absurd (let z : ◌≡◌ {A = ℕ} 0 1 = cc in omega arith)
flag_is false false e = refl

number_holds : (x y : ℤ) → same_number x y ≡ true → x ≡ y
number_holds (pos m) (pos n) e = ap pos (eqb-true m n e)
number_holds (pos m) (negsuc n) e = no e
number_holds (negsuc m) (pos n) e = no e
number_holds (negsuc m) (negsuc n) e = ap negsuc (eqb-true m n e)

-- two numbers by their words
pub word_same : {x y : ℤ} {a b : ℕ} → Word x a → Word y b → eqb a b ≡ same_number x y
word_same {x} {y} {a} {b} p q =
    together (eqb a b) (same_number x y) (λ e. equal_same x y (sym (number_is p) ∙ ap number_of (eqb-true a b e) ∙ number_is q))
    (λ e. eq-eqb a b (p.is ∙ ap word_of (number_holds x y e) ∙ sym q.is))

character_holds : (c p d q : ℕ) → both (eqb c d) (eqb p q) ≡ true → Char c p ≡ Char d q
character_holds c p d q e =
    let f = eqb-true c d (both_left (eqb c d) _ e) in
    let g = eqb-true p q (both_right (eqb c d) _ e) in
    cc

ligature_holds : (c p n : ℕ) (l r : Bool) (d q m : ℕ) (x y : Bool) → same_answer (Ligature c p n l r) (Ligature d q m x y) ≡ true →
    Ligature c p n l r ≡ Ligature d q m x y
ligature_holds c p n l r d q m x y e =
    let e1 = both_right (eqb c d) _ e in
    let e2 = both_right (eqb p q) _ e1 in
    let e3 = both_right (eqb n m) _ e2 in
    let f = eqb-true c d (both_left (eqb c d) _ e) in
    let g = eqb-true p q (both_left (eqb p q) _ e1) in
    let h = eqb-true n m (both_left (eqb n m) _ e2) in
    let i = flag_holds l x (both_left (same_flag l x) _ e3) in
    let j = flag_holds r y (both_right (same_flag l x) _ e3) in
    cc

pub answer_holds : (a b : Answer) → same_answer a b ≡ true → a ≡ b
answer_holds (Char c p) (Char d q) e = character_holds c p d q e
answer_holds (Char c p) (Ligature d q m x y) e = no e
answer_holds (Char c p) (Kern j) e = no e
answer_holds (Char c p) End e = no e
answer_holds (Char c p) (Refused j) e = no e
answer_holds (Ligature c p n l r) (Char d q) e = no e
answer_holds (Ligature c p n l r) (Ligature d q m x y) e = ligature_holds c p n l r d q m x y e
answer_holds (Ligature c p n l r) (Kern j) e = no e
answer_holds (Ligature c p n l r) End e = no e
answer_holds (Ligature c p n l r) (Refused j) e = no e
answer_holds (Kern k) (Char d q) e = no e
answer_holds (Kern k) (Ligature d q m x y) e = no e
answer_holds (Kern k) (Kern j) e = ap Kern (number_holds k j e)
answer_holds (Kern k) End e = no e
answer_holds (Kern k) (Refused j) e = no e
answer_holds End (Char d q) e = no e
answer_holds End (Ligature d q m x y) e = no e
answer_holds End (Kern j) e = no e
answer_holds End End e = refl
answer_holds End (Refused j) e = no e
answer_holds (Refused k) b e = no e
