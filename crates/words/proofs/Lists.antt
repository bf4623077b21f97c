-- Lists that are written from the front: by a function of the index (tabulate, Filling) and by appending (Appending).
-- Assumes nothing.
use mathlib.Core.Path.{◌≡◌, refl, ap, ◌∙◌}
use mathlib.Core.List.{List, [], ◌∷◌, ◌++◌, append_assoc, append-nil}
use mathlib.Core.Logic.{◌⊎◌, inl, inr}
use Prim.Native.Nat.{ℕ, zero, suc, ◌+◌, ◌-◌, ◌<◌, ◌≤◌}
use native.Mathlib.Nat.{sub-zero, zero-sub, suc-sub-suc, eq-or-lt_of_le, le_of_suc-le-suc}
use native.Mathlib.Numerals.{add-one}
use native.Mathlib.Omega.{arith}
use lib.ListN.{length, get_or, set, drop, replicate, length-append, length-drop, replicate-append-replicate, drop_of_length-le, get_or-append}
use lib.Seq.{set_at, drop-cons, drop-drop, drop-append-add, sets, sets-eq, get_or_at, take_at}
use Rattle.words.specs.Lists.{tabulate, Filling, Appending}

-- ---- tabulate

pub length_tabulate {ℓ} : {A : Type ℓ} (n : ℕ) (f : ℕ → A) → length (tabulate n f) ≡ n
unfolding tabulate
length_tabulate zero f = refl
length_tabulate (suc n) f = length-append (tabulate n f) (f n ∷ []) ∙ rw (length_tabulate n f, add-one)

get_d_last {ℓ} : {A : Type ℓ} (n : ℕ) (f : ℕ → A) (i : ℕ) (d : A) → (i ≡ n) ⊎ (i < n) → (i < n → get_or (tabulate n f) i d ≡ f i) →
    get_or (tabulate n f ++ (f n ∷ [])) i d ≡ f i
get_d_last n f i d (inl e) k = rw e (get_or_at (tabulate n f) (f n) [] d n (length_tabulate n f))
get_d_last n f i d (inr h) k = get_or-append (tabulate n f) (f n ∷ []) d i (rw (length_tabulate n f) h) ∙ k h

pub get_d_tabulate {ℓ} : {A : Type ℓ} (n : ℕ) (f : ℕ → A) (i : ℕ) (d : A) → i < n → get_or (tabulate n f) i d ≡ f i
unfolding tabulate
get_d_tabulate zero f i d h = absurd (omega arith)
get_d_tabulate (suc n) f i d h = get_d_last n f i d (eq-or-lt_of_le (le_of_suc-le-suc h)) (get_d_tabulate n f i d)

pub tabulate_ext {ℓ} : {A : Type ℓ} (n : ℕ) (f g : ℕ → A) → ((i : ℕ) → i < n → f i ≡ g i) → tabulate n f ≡ tabulate n g
unfolding tabulate
tabulate_ext zero f g e = refl
tabulate_ext (suc n) f g e = rw (tabulate_ext n f g (λ i h. e i (omega arith)), e n (omega arith))

pub tabulate_constant {ℓ} : {A : Type ℓ} (n : ℕ) (v : A) → tabulate n (λ _. v) ≡ replicate n v
unfolding tabulate
tabulate_constant zero v = refl
tabulate_constant (suc n) v = rw (tabulate_constant n v) (replicate-append-replicate n 1 v ∙ rw add-one)

-- ---- filling from the front by a function of the index

module _ {A : Type 0} (f : ℕ → A) (d₀ : List A) where
  pub filling_none : Filling f d₀ d₀ 0
  unfolding tabulate
  filling_none = record { within = omega arith; filled = refl }

  pub filling_length : {d : List A} {i : ℕ} → Filling f d₀ d i → length d ≡ length d₀
  filling_length {d} {i} h = rw h.filled (simp (length-append, length_tabulate, length-drop) (omega (arith, h.within)))

  pub filling_more : {d : List A} {i : ℕ} → Filling f d₀ d i → i < length d → Filling f d₀ (set d i (f i)) (i + 1)
  unfolding tabulate
  filling_more {d} {i} h l =
      let k : i < length d₀ = omega (arith, filling_length h) in
      record {
        within = omega arith;
        filled = rw (h.filled, drop-cons d₀ i (f i) k, add-one)
            (set_at (tabulate i f) (get_or d₀ i (f i)) (drop (suc i) d₀) (f i) i (length_tabulate i f) ∙ simp append_assoc);
      }

  pub filling_all : {d : List A} {i : ℕ} → Filling f d₀ d i → length d ≤ i → d ≡ tabulate (length d₀) f
  filling_all {d} {i} h l =
      let e : i ≡ length d₀ = omega (arith, filling_length h, h.within) in
      rw (h.filled, e, drop_of_length-le d₀ {i = length d₀} (omega arith), append-nil)

-- ---- appending at the front

pub drop_replicate {ℓ} : {A : Type ℓ} (k n : ℕ) (v : A) → drop k (replicate n v) ≡ replicate (n - k) v
drop_replicate zero n v = rw sub-zero
drop_replicate (suc k) zero v = rw zero-sub
drop_replicate (suc k) (suc n) v = drop_replicate k n v ∙ rw suc-sub-suc

module _ {A : Type 0} (d₀ : List A) where
  pub appending_none : Appending [] d₀ d₀
  appending_none = record { within = omega arith; appended = refl }

  pub appending_length : {done d : List A} → Appending done d₀ d → length d ≡ length d₀
  appending_length {done} {d} h = rw h.appended (simp (length-append, length-drop) (omega (arith, h.within)))

  -- one more, by a store at the end of what is done
  pub appending_one : {done d : List A} (v : A) → Appending done d₀ d → length done < length d → Appending (done ++ (v ∷ [])) d₀ (set d (length done) v)
  appending_one {done} {d} v h l =
      let k : length done < length d₀ = omega (arith, appending_length h) in
      record {
        within = simp length-append (omega arith);
        appended =
            rw (h.appended, drop-cons d₀ (length done) v k)
            (set_at done (get_or d₀ (length done) v) (drop (suc (length done)) d₀) v (length done) refl
            ∙ simp (append_assoc, length-append, add-one));
      }

  -- several more, by stores in a row
  pub appending_more : {done d : List A} (vs : List A) → Appending done d₀ d → length done + length vs ≤ length d →
      Appending (done ++ vs) d₀ (sets d (length done) vs)
  appending_more {done} {d} vs h l =
      let k : length done + length vs ≤ length d₀ = omega (arith, appending_length h) in
      record {
        within = simp length-append k;
        appended =
            sets-eq vs d (length done) l
            ∙ rw (
              h.appended,
              take_at done (drop (length done) d₀) (length done) refl,
              drop-append-add done (drop (length done) d₀) (length vs),
              drop-drop (length vs) (length done) d₀,
            )
            (simp (append_assoc, length-append));
      }

  -- at the end: what is done, and the rest as it was
  pub appending_rest : {done d : List A} (v : A) (n : ℕ) → d₀ ≡ replicate n v → Appending done d₀ d → d ≡ done ++ replicate (n - length done) v
  appending_rest {done} {d} v n e h =
      rw (h.appended, e) (ap (λ (t : List A). done ++ t) (drop_replicate (length done) n v))

-- ---- runs of stores (`sets` of the logic's library: what passes the end is left off)

-- one after the other
pub sets_append : {A : Type 0} (xs ys l : List A) (i : ℕ) → sets l i (xs ++ ys) ≡ sets (sets l i xs) (i + length xs) ys
sets_append [] ys l i = ap (λ (j : ℕ). sets l j ys) (omega arith)
sets_append (x ∷ xs) ys l i =
    sets_append xs ys (set l i x) (suc i) ∙ ap (λ (j : ℕ). sets (sets (set l i x) (suc i) xs) j ys) (omega arith)

-- from the front, in a list that is long enough
pub sets_front : {A : Type 0} (xs l : List A) → length xs ≤ length l → sets l 0 xs ≡ xs ++ drop (length xs) l
sets_front xs l h = sets-eq xs l 0 (omega arith) ∙ ap (λ (k : ℕ). xs ++ drop k l) (let e : 0 + length xs ≡ length xs = omega arith in e)
