-- Texts put into a list, one after the other, and counted.
-- Assumes nothing.
use mathlib.Core.Path.{◌≡◌, refl, ap, sym, ◌∙◌}
use mathlib.Core.List.{List, [], ◌∷◌, ◌++◌}
use mathlib.Core.Logic.{◌⊎◌, inl, inr}
use Prim.Native.Nat.{ℕ, suc, ◌+◌, ◌<◌, ◌≤◌, min}
use native.Mathlib.Nat.{min-eq_left, min-eq_right}
use native.Mathlib.Numerals.{add-one}
use native.Mathlib.Omega.{arith}
use lib.ListN.{length, get_or, set, take, length-append}
use lib.Seq.{sets, set_out, length-sets, take-suc, take_all}
use Rattle.words.proofs.Lists.{sets_append}
use Rattle.words.proofs.Tests.{less_or_not}
use Rattle.property_lists.specs.Putting.{PutsCounted}

-- past the end nothing is put
sets_past : (vs l : List ℕ) (i : ℕ) → length l ≤ i → sets l i vs ≡ l
sets_past [] l i h = refl
sets_past (v ∷ vs) l i h = ap (λ (d : List ℕ). sets d (suc i) vs) (set_out l i v h) ∙ sets_past vs l (suc i) (omega arith)

pub counted_none : (out : List ℕ) (at : ℕ) {r : ℕ} → r ≡ min at (length out + 1) → PutsCounted out at [] r out
counted_none out at e = record { next = e ∙ ap (λ (i : ℕ). min i (length out + 1)) (let e : at ≡ at + 0 = omega arith in e); list = refl }

-- nothing, at a place that is counted already
pub counted_nothing : {out : List ℕ} {at : ℕ} {text : List ℕ} {m : ℕ} {d : List ℕ} → PutsCounted out at text m d → PutsCounted d m [] m d
counted_nothing {out} {at} {text} {m} {d} a =
    let l : length d ≡ length out = ap length a.list ∙ length-sets out at text in
    record { next = omega (arith, a.next); list = refl }

pub counted_one : (out : List ℕ) (at b : ℕ) {d : List ℕ} → at < length out → d ≡ set out at b → PutsCounted out at (b ∷ []) (at + 1) d
counted_one out at b h e = record { next = omega arith; list = e }

pub counted_past : (out : List ℕ) (at b : ℕ) → length out ≤ at → PutsCounted out at (b ∷ []) (length out + 1) out
counted_past out at b h = record { next = omega arith; list = sym (sets_past (b ∷ []) out at h) }

-- a second text at the place after the first
module _ {out : List ℕ} {at : ℕ} {xs : List ℕ} {m : ℕ} {d : List ℕ} (a : PutsCounted out at xs m d) where
  pub counted_long : length d ≡ length out
  counted_long = ap length a.list ∙ length-sets out at xs

  -- the place where it is put matters only within the list
  put_there : (ys : List ℕ) → sets d m ys ≡ sets d (at + length xs) ys
  put_there ys = by (less_or_not (at + length xs) (length out))
    where
      by : (at + length xs < length out) ⊎ (length out ≤ at + length xs) → sets d m ys ≡ sets d (at + length xs) ys
      by (inl h) = ap (λ (i : ℕ). sets d i ys) (let e : m ≡ at + length xs = omega (arith, a.next) in e)
      by (inr h) =
          let l : length d ≡ length out = counted_long in
          sets_past ys d m (omega (arith, a.next)) ∙ sym (sets_past ys d (at + length xs) (omega arith))

  pub counted_more : {ys : List ℕ} {r : ℕ} {d' : List ℕ} → PutsCounted d m ys r d' → PutsCounted out at (xs ++ ys) r d'
  counted_more {ys} b =
      let l : length d ≡ length out = counted_long in
      record {
        next = simp length-append (omega (arith, a.next, b.next));
        list = b.list ∙ put_there ys ∙ ap (λ (l : List ℕ). sets l (at + length xs) ys) a.list ∙ sym (sets_append xs ys out at);
      }

-- ---- a text byte by byte

pub counted_next : (text : List ℕ) (i : ℕ) {out : List ℕ} {at m : ℕ} {d : List ℕ} {r : ℕ} {d' : List ℕ} → i < length text →
    PutsCounted out at (take i text) m d → PutsCounted d m (get_or text i 0 ∷ []) r d' → PutsCounted out at (take (i + 1) text) r d'
counted_next text i h a b = rw (add-one, take-suc text i 0) (counted_more a b)

pub counted_all : (text : List ℕ) (i : ℕ) {out : List ℕ} {at m : ℕ} {d : List ℕ} → length text ≤ i →
    PutsCounted out at (take i text) m d → PutsCounted out at text m d
counted_all text i h a = rw (take_all i text h) at a
