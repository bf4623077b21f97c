-- Texts put into a list, one after the other.
-- Assumes nothing.
use mathlib.Core.Path.{◌≡◌, refl, ap, sym, ◌∙◌}
use mathlib.Core.List.{List, [], ◌∷◌, ◌++◌}
use mathlib.Core.Logic.{◌⊎◌, inl, inr}
use Prim.Native.Nat.{ℕ, suc, ◌+◌, ◌<◌, ◌≤◌, min}
use native.Mathlib.Nat.{min-eq_left, min-eq_right}
use native.Mathlib.Numerals.{add-one}
use native.Mathlib.Omega.{arith}
use lib.ListN.{length, get_or, set, take, length-append, length-set}
use lib.Seq.{sets, set_out, length-sets, take-suc, take_all}
use Rattle.words.proofs.Lists.{sets_append}
use Rattle.words.proofs.Tests.{less_or_not}
use Rattle.phrases.specs.Phrases.{PutsText}

-- past the end nothing is put
sets_past : (vs l : List ℕ) (i : ℕ) → length l ≤ i → sets l i vs ≡ l
sets_past [] l i h = refl
sets_past (v ∷ vs) l i h =
    ap (λ (d : List ℕ). sets d (suc i) vs) (set_out l i v h) ∙ sets_past vs l (suc i) (omega arith)

pub puts_none : (out : List ℕ) (at : ℕ) → PutsText out at [] (min at (length out)) out
puts_none out at = record { next = ap (λ (i : ℕ). min i (length out)) (let e : at ≡ at + 0 = omega arith in e); list = refl }

pub puts_one : (out : List ℕ) (at b : ℕ) {d : List ℕ} → at < length out → d ≡ set out at b → PutsText out at (b ∷ []) (at + 1) d
puts_one out at b h e = record { next = sym (min-eq_left (let l : at + 1 ≤ length out = omega arith in l)); list = e }

pub puts_past : (out : List ℕ) (at b : ℕ) → length out ≤ at → PutsText out at (b ∷ []) (length out) out
puts_past out at b h =
    record { next = sym (min-eq_right (let l : length out ≤ at + 1 = omega arith in l)); list = sym (sets_past (b ∷ []) out at h) }

-- a second text at the place after the first
module _ {out : List ℕ} {at : ℕ} {xs : List ℕ} {m : ℕ} {d : List ℕ} (a : PutsText out at xs m d) where
  pub same_long : length d ≡ length out
  same_long = ap length a.list ∙ length-sets out at xs

  -- the place where it is put matters only within the list
  put_there : (ys : List ℕ) → sets d m ys ≡ sets d (at + length xs) ys
  put_there ys = by (less_or_not (at + length xs) (length out))
    where
      by : (at + length xs < length out) ⊎ (length out ≤ at + length xs) → sets d m ys ≡ sets d (at + length xs) ys
      by (inl h) = ap (λ (i : ℕ). sets d i ys) (a.next ∙ min-eq_left (let l : at + length xs ≤ length out = omega arith in l))
      by (inr h) =
          let n : m ≡ length out = a.next ∙ min-eq_right h in
          let l : length d ≡ length out = same_long in
          sets_past ys d m (omega arith) ∙ sym (sets_past ys d (at + length xs) (omega arith))

  ends_there : (ys : List ℕ) → min (m + length ys) (length d) ≡ min (at + length (xs ++ ys)) (length out)
  ends_there ys = by (less_or_not (at + length xs) (length out))
    where
      by : (at + length xs < length out) ⊎ (length out ≤ at + length xs) →
          min (m + length ys) (length d) ≡ min (at + length (xs ++ ys)) (length out)
      by (inl h) =
          let n : m ≡ at + length xs = a.next ∙ min-eq_left (let l : at + length xs ≤ length out = omega arith in l) in
          let e : m + length ys ≡ at + length (xs ++ ys) = simp length-append (omega arith) in
          rw (same_long, e)
      by (inr h) =
          let n : m ≡ length out = a.next ∙ min-eq_right h in
          let l : length out ≤ m + length ys = omega arith in
          let k : length out ≤ at + length (xs ++ ys) = simp length-append (omega arith) in
          rw same_long (min-eq_right l ∙ sym (min-eq_right k))

  pub puts_more : {ys : List ℕ} {r : ℕ} {d' : List ℕ} → PutsText d m ys r d' → PutsText out at (xs ++ ys) r d'
  puts_more {ys} b =
      record {
        next = b.next ∙ ends_there ys;
        list = b.list ∙ put_there ys ∙ ap (λ (l : List ℕ). sets l (at + length xs) ys) a.list ∙ sym (sets_append xs ys out at);
      }

-- ---- a text byte by byte

pub puts_start : (out : List ℕ) (at : ℕ) {r : ℕ} → r ≡ min at (length out) → PutsText out at [] r out
puts_start out at e = record { next = e ∙ (puts_none out at).next; list = refl }

pub puts_next : (text : List ℕ) (i : ℕ) {out : List ℕ} {at m : ℕ} {d : List ℕ} {r : ℕ} {d' : List ℕ} → i < length text →
    PutsText out at (take i text) m d → PutsText d m (get_or text i 0 ∷ []) r d' → PutsText out at (take (i + 1) text) r d'
puts_next text i h a b = rw (add-one, take-suc text i 0) (puts_more a b)

pub puts_all : (text : List ℕ) (i : ℕ) {out : List ℕ} {at m : ℕ} {d : List ℕ} → length text ≤ i →
    PutsText out at (take i text) m d → PutsText out at text m d
puts_all text i h a = rw (take_all i text h) at a
