-- The next word by its answer, and what is answered of its items. Assumes nothing.
use mathlib.Core.Path.{◌≡◌, refl, sym, ap, ap₂, subst, ◌∙◌}
use mathlib.Core.Bool.{Bool, true}
use mathlib.Core.List.{List, [], ◌∷◌}
use mathlib.Core.Option.{Option, none, some}
use Prim.Native.Nat.{ℕ, zero, suc, ◌/◌, ◌≤◌}
use native.Mathlib.Nat.{sub-zero}
use native.Mathlib.Omega.{arith}
use lib.IntN.{ℤ, pos}
use lib.Dec.{leb}
use lib.ListN.{length, replicate}
use borrow.Author.Tests.{leb-true}
use Rattle.lang.specs.declared.Written.{Written}
use Rattle.lang.specs.declared.Written.TheVariants as written
use Rattle.lang.specs.Every.{both}
use Rattle.lang.specs.Checks.{unless, or_else, absent_refusal}
use Rattle.lang.specs.Answers.{Reply, reply_of, list_of, written_reply}
use Rattle.lang.proofs.Every.{both_left}
use Rattle.lang.proofs.Refusals.{unless_none}
use Rattle.word_set.specs.Setting.{after_begin}
use Rattle.word_set.specs.Writing.{Tells}
use Rattle.short_words.specs.declared.NextAnswer.TheVariants.{Word, End, Refused}
use Rattle.short_words.specs.declared.NextWord.{NextWord}
use Rattle.short_words.specs.declared.SetNext.{SetNext}
use Rattle.short_words.specs.ShortWords.{all_in_set, is_short_word}
use Rattle.short_words.specs.NextWords.{next_short_word, short_refusal, short_word, held_word, next_found, next_word_by}
use Rattle.short_words.proofs.Theorems.{next_is_taken, holds_word}
use Rattle.short_word_items.specs.NextItems.{next_word_items}
use Rattle.short_word_set.specs.SetNext.{items_of_next, word_found, not_set, set_next_by, SetsFound}

-- ---- what is answered of them

counted : (k n m : ℕ) → written_reply (written.Count k) ≡ reply_of n (pos m ∷ []) → (n ≡ 0) × (k ≡ m)
counted k zero m e = let q : ◌≡◌ {A = List ℤ} (pos k ∷ []) (pos m ∷ []) = ap (λ (r : Reply). r.values) e in (refl, cc)
counted k (suc n) m e = absurd (let q : ◌≡◌ {A = ℕ} 0 (suc n) = ap (λ (r : Reply). r.number) e in omega arith)

refused : (j n m : ℕ) → written_reply (written.Refused j) ≡ reply_of n (pos m ∷ []) → (j ≡ n) × (n ≡ 0 → ⊥)
refused j zero m e =
    absurd (let q : ◌≡◌ {A = List ℤ} [] (pos m ∷ []) = ap (λ (r : Reply). r.values) e in let z : ◌≡◌ {A = ℕ} 0 1 = cc in omega arith)
refused j (suc n) m e = (ap (λ (r : Reply). r.number) e, λ z. omega arith)

module _ (reply : Reply) (next : NextWord) (items : List ℤ) where
  refused_by : (n : ℕ) → (n ≡ 0 → ⊥) → (count : ℕ) → not_set (Refused n) ≡ set_next_by n next count
  refused_by zero h count = absurd (h refl)
  refused_by (suc n) h count = refl

  zeros_by : (n : ℕ) → (n ≡ 0 → ⊥) → (xs : List ℤ) → replicate (length items) (pos 0) ≡ list_of n (pos 0) (length items) xs
  zeros_by zero h xs = absurd (h refl)
  zeros_by (suc n) h xs = refl

  -- no items, as their number says
  pub found_refused : (j : ℕ) {mid items' : List ℤ} {r : SetNext} → Tells reply items (written.Refused j) mid → length mid ≡ length items →
      r ≡ not_set (Refused j) → items' ≡ replicate (length mid) (pos 0) → SetsFound reply next items r items'
  found_refused j t l e z =
      let q = refused j reply.number (length reply.values / 6) t.answer in
      record {
        answer = e ∙ ap (λ (k : ℕ). not_set (Refused k)) q.0 ∙ refused_by reply.number q.1 (length reply.values / 6);
        list = z ∙ ap (λ (k : ℕ). replicate k (pos 0)) l ∙ zeros_by reply.number q.1 reply.values;
      }

  pub found_counted : (k : ℕ) {items' : List ℤ} → Tells reply items (written.Count k) items' →
      SetsFound reply next items (record { answer = next.answer; word = next.word; count = k }) items'
  found_counted k t =
      let q = counted k reply.number (length reply.values / 6) t.answer in
      record {
        answer =
            ap (λ (m : ℕ). record { answer = next.answer; word = next.word; count = m }) q.1
            ∙ ap (λ (n : ℕ). set_next_by n next (length reply.values / 6)) (sym q.0);
        list = t.list;
      }

pub tells_as : {reply : Reply} {items : List ℤ} {w v : Written} {items' : List ℤ} → w ≡ v → Tells reply items w items' → Tells reply items v items'
tells_as {reply} {items} {items' = items'} e t = subst (λ (x : Written). Tells reply items x items') e t

-- ---- by the answer of the next word

-- there is one
pub record Answers (n : ℕ) (o : Option (List ℕ)) (x : NextWord) : Type 0 where
  pub next : List ℕ
  pub taken : n ≡ 0
  pub one : o ≡ some next
  pub is : x ≡ next_found (some next)

word_by : (n : ℕ) (o : Option (List ℕ)) → (next_word_by n o).answer ≡ Word → Answers n o (next_word_by n o)
word_by zero none e = absurd (let z : ◌≡◌ {A = ℕ} 0 1 = cc in omega arith)
word_by zero (some w) e = record { next = w; taken = refl; one = refl; is = refl }
word_by (suc n) o e = absurd (let z : ◌≡◌ {A = ℕ} 0 1 = cc in omega arith)

pub word_answers : (n : ℕ) (o : Option (List ℕ)) (x : NextWord) → x ≡ next_word_by n o → x.answer ≡ Word → Answers n o x
word_answers n o x e q =
    let a = word_by n o (ap (λ (y : NextWord). y.answer) (sym e) ∙ q) in
    record { next = a.next; taken = a.taken; one = a.one; is = e ∙ a.is }

end_by : (n : ℕ) (o : Option (List ℕ)) → (next_word_by n o).answer ≡ End → (n ≡ 0) × (o ≡ none)
end_by zero none e = (refl, refl)
end_by zero (some w) e = absurd (let z : ◌≡◌ {A = ℕ} 0 1 = cc in omega arith)
end_by (suc n) o e = absurd (let z : ◌≡◌ {A = ℕ} 0 1 = cc in omega arith)

refusal_by_lem : (n : ℕ) (o : Option (List ℕ)) (m : ℕ) → (next_word_by n o).answer ≡ Refused m → (m ≡ n) × (n ≡ 0 → ⊥)
refusal_by_lem zero none m e = absurd (let z : ◌≡◌ {A = ℕ} 0 1 = cc in omega arith)
refusal_by_lem zero (some w) m e = absurd (let z : ◌≡◌ {A = ℕ} 0 1 = cc in omega arith)
refusal_by_lem (suc n) o m e = let q : suc n ≡ m = cc in (sym q, λ z. omega arith)

module _ (letters : List ℕ) (pairs ops : List ℤ) (boundary : ℤ) (word : List ℕ) (first : Bool) (items : List ℤ) where
  abbrev number : ℕ
  number = or_else (absent_refusal 255 boundary) (short_refusal letters word)

  abbrev reply : Reply
  reply = after_begin number (items_of_next (next_short_word letters word) first pairs ops boundary (length items))

  -- the word that is answered has at most four letters
  second_none : (e s : ℕ) → or_else e s ≡ 0 → s ≡ 0
  second_none zero s q = q
  second_none (suc e) s q = absurd (omega arith)

  pub next_short : (next : List ℕ) → number ≡ 0 → next_short_word letters word ≡ some next → length next ≤ 4
  next_short next z e =
      let s : is_short_word letters word ≡ true =
      unless_none 26 (is_short_word letters word) (second_none (absent_refusal 255 boundary) (short_refusal letters word) z) in
      leb-true (length next) 4 (both_left (leb (length next) 4) (all_in_set letters next) (next_is_taken letters word next s e))

  pub answered_short : (x : NextWord) → Answers number (next_short_word letters word) x → x.word.length ≤ 4
  answered_short x a = subst (λ (y : NextWord). y.word.length ≤ 4) (sym a.is) (next_short a.next a.taken a.one)

  pub word_set : (x : NextWord) (r : SetNext) (items' : List ℤ) → Answers number (next_short_word letters word) x →
      SetsFound (next_word_items first pairs ops boundary (held_word x.word) (length items)) (word_found x.word) items r items' →
      SetsFound reply (next_found (next_short_word letters word)) items r items'
  word_set x r items' a h =
      let w = a.next in
      let held : held_word x.word ≡ w = ap (λ (y : NextWord). held_word y.word) a.is ∙ holds_word w (next_short w a.taken a.one) in
      let same : next_word_items first pairs ops boundary (held_word x.word) (length items) ≡ reply =
      ap (λ (v : List ℕ). next_word_items first pairs ops boundary v (length items)) held
      ∙ sym (ap₂ (λ (n : ℕ) (o : Option (List ℕ)). after_begin n (items_of_next o first pairs ops boundary (length items))) a.taken a.one) in
      let found : word_found x.word ≡ next_found (next_short_word letters word) =
      ap (λ (y : NextWord). word_found y.word) a.is ∙ ap next_found (sym a.one) in
      subst (λ (y : NextWord). SetsFound reply y items r items') found (subst (λ (p : Reply). SetsFound p (word_found x.word) items r items') same h)

  pub end_set : (x : NextWord) {r : SetNext} {items' : List ℤ} → x ≡ next_word_by number (next_short_word letters word) → x.answer ≡ End → r ≡ not_set End →
      items' ≡ replicate (length items) (pos 0) → SetsFound reply (next_found (next_short_word letters word)) items r items'
  end_set x {r} {items'} e q g z =
      let a = end_by number (next_short_word letters word) (ap (λ (y : NextWord). y.answer) (sym e) ∙ q) in
      let none_set : SetsFound (reply_of 0 []) (next_found none) items r items' =
      record { answer = g; list = z ∙ ap (λ (k : ℕ). replicate k (pos 0)) (sym (sub-zero (length items))) } in
      let same : reply_of 0 [] ≡ reply =
      sym (ap₂ (λ (n : ℕ) (o : Option (List ℕ)). after_begin n (items_of_next o first pairs ops boundary (length items))) a.0 a.1) in
      subst (λ (o : Option (List ℕ)). SetsFound reply (next_found o) items r items') (sym a.1)
      (subst (λ (p : Reply). SetsFound p (next_found none) items r items') same none_set)

  refused_reply : (n : ℕ) (p : Reply) → (n ≡ 0 → ⊥) → after_begin n p ≡ record { number = n; values = [] }
  refused_reply zero p h = absurd (h refl)
  refused_reply (suc n) p h = refl

  refused_found : (n : ℕ) (y : NextWord) {items' : List ℤ} → (n ≡ 0 → ⊥) → items' ≡ replicate (length items) (pos 0) →
      SetsFound (record { number = n; values = [] }) y items (not_set (Refused n)) items'
  refused_found zero y h z = absurd (h refl)
  refused_found (suc n) y h z = record { answer = refl; list = z }

  pub refused_set : (x : NextWord) (m : ℕ) {r : SetNext} {items' : List ℤ} → x ≡ next_word_by number (next_short_word letters word) → x.answer ≡ Refused m →
      r ≡ not_set (Refused m) → items' ≡ replicate (length items) (pos 0) → SetsFound reply (next_found (next_short_word letters word)) items r items'
  refused_set x m {r} {items'} e q g z =
      let a = refusal_by_lem number (next_short_word letters word) m (ap (λ (y : NextWord). y.answer) (sym e) ∙ q) in
      let next = next_found (next_short_word letters word) in
      let it : r ≡ not_set (Refused number) = g ∙ ap (λ (k : ℕ). not_set (Refused k)) a.0 in
      subst (λ (p : Reply). SetsFound p next items r items')
      (sym (refused_reply number (items_of_next (next_short_word letters word) first pairs ops boundary (length items)) a.1))
      (subst (λ (y : SetNext). SetsFound (record { number = number; values = [] }) next items y items') (sym it) (refused_found number next a.1 z))
