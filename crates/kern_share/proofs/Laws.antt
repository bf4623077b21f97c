-- A value's place by a search from the front; which instructions hold a value; the kerns gathered so far; the instructions passed.
-- Assumes nothing.
use mathlib.Core.Path.{◌≡◌, refl, sym, ap, ◌∙◌}
use mathlib.Core.Bool.{Bool, true, false, cond}
use mathlib.Core.List.{List, [], ◌∷◌, ◌++◌}
use mathlib.Core.Logic.{◌⊎◌, inl, inr}
use Prim.Native.Nat.{ℕ, zero, suc, ◌+◌, ◌*◌, ◌/◌, ◌%◌, ◌^◌, ◌<◌, ◌≤◌}
use native.Mathlib.Numerals.{add-one}
use native.Mathlib.Omega.{arith}
use lib.IntN.{ℤ, pos}
use lib.Dec.{leb, eqb}
use lib.ListN.{length, get_or, take, drop, set, length-set, take-append-drop}
use lib.Seq.{length-take-le, take_all, get_or-take, take_at, ext_get_or, get_or-set_same, get_or-set_other}
use borrow.Author.Tests.{eq-eqb, ne_eqb, eqb-true, eqb-false, le-leb, lt-leb, leb-true, leb-false, lt-ltb, le-ltb}
use Rattle.words.specs.Words.{Word, word_of, number_of}
use Rattle.words.specs.Lists.{tabulate, Appending}
use Rattle.words.proofs.Bits.{word_number, number_is}
use Rattle.words.proofs.Lists.{length_tabulate, get_d_tabulate, appending_one, appending_length}
use Rattle.lang.specs.Every.{both}
use Rattle.lang.specs.Records.{count, field, is_kind}
use Rattle.lang.proofs.Every.{both_left, both_right, both_false}
use Rattle.program_kerns.specs.Kerns.{kern_place, shared, changed}
use Rattle.program_kerns.specs.SharedKerns.{is_past_index, holds_value, held_value, shared_kerns, all_kerns, shared_number, has_kern_room, SharesKerns}
use Rattle.program_kerns.proofs.Places.{place_absent, place_le, snoc_length}
use Rattle.kern_share.specs.Placing.{is_new, shared_at}
use Rattle.program_kerns.proofs.SharedKerns.{kerns_few}
use Rattle.program_kerns.proofs.Changes.{kind_is, kind_not, small_word}

-- ---- a search from the front

place_first : (v : ℤ) (ks : List ℤ) (p : ℕ) → p < length ks → word_of (get_or ks p (pos 0)) ≡ word_of v →
    ((j : ℕ) → j < p → word_of (get_or ks j (pos 0)) ≡ word_of v → ⊥) → p ≡ kern_place v ks
unfolding kern_place
place_first v [] p h e o = absurd (omega arith)
place_first v (k ∷ ks) zero h e o = rw (eq-eqb (word_of k) (word_of v) e)
place_first v (k ∷ ks) (suc p) h e o =
    rw (ne_eqb (word_of k) (word_of v) (o 0 (omega arith))) (ap suc (place_first v ks p (omega arith) e (λ j l. o (suc j) (omega arith))))

-- the first p kerns are others
abbrev pub Others : List ℤ → ℕ → ℕ → Type 0
Others ks w p = (j : ℕ) → j < p → word_of (get_or ks j (pos 0)) ≡ w → ⊥

module _ (ks : List ℤ) (m w : ℕ) (l : w < 2 ^ 32) where
  pub others_more : (p r : ℕ) → Others ks w p → Word (get_or ks p (pos 0)) r → (r ≡ w → ⊥) → Others ks w (p + 1)
  others_more p r o h n j b e = by (eqb j p) refl
    where
      by : (t : Bool) → eqb j p ≡ t → ⊥
      by true q = let z : j ≡ p = eqb-true j p q in n (h.is ∙ rw z at e)
      by false q = let z : j ≡ p → ⊥ = eqb-false j p q in o j (omega arith) e

  taken_at : (j : ℕ) → j < m → word_of (get_or (take m ks) j (pos 0)) ≡ word_of (get_or ks j (pos 0))
  taken_at j b = ap word_of (get_or-take m ks j (pos 0) b)

  module _ (h : m ≤ length ks) where
    t : length (take m ks) ≡ m
    t = length-take-le m ks h

    pub found_place_lem : (p r : ℕ) → p < m → Others ks w p → Word (get_or ks p (pos 0)) r → r ≡ w → p ≡ kern_place (number_of w) (take m ks)
    found_place_lem p r b o d e =
        let b' : p < length (take m ks) = rw t b in
        place_first (number_of w) (take m ks) p b' (taken_at p b ∙ sym d.is ∙ e ∙ sym (word_number w l))
        (λ j q z. o j q (sym (taken_at j (omega arith)) ∙ z ∙ word_number w l))

    pub no_place : (p : ℕ) → m ≤ p → Others ks w p → m ≡ kern_place (number_of w) (take m ks)
    no_place p b o =
        sym (place_absent (number_of w) (take m ks)
        (λ j q z. let q' : j < m = rw t at q in o j (omega arith) (sym (taken_at j q') ∙ z ∙ word_number w l)) ∙ t)

-- ---- an instruction that holds a value

pub holds_none : (s : List ℤ) (k i : ℕ) → count s ≤ i → false ≡ holds_value s k i
holds_none s k i h = rw (le-ltb i (count s) h)

module _ (s : List ℤ) (k i : ℕ) (b : i < count s) {kind : ℕ} (h : Word (field s i 2) kind) where
  pub holds_kern : kind ≡ 0 → true ≡ holds_value s k i
  holds_kern e = rw (kind_is 0 s i h e, lt-ltb i (count s) b)

  pub holds_other : (kind ≡ 0 → ⊥) → (kind ≡ 1 → ⊥) → false ≡ holds_value s k i
  holds_other n m = rw (kind_not 0 s i h n, kind_not 1 s i h m, lt-ltb i (count s) b)

  module _ (n : kind ≡ 0 → ⊥) (e : kind ≡ 1) {operand : ℕ} (o : Word (field s i 3) operand) where
    pub holds_past : k ≤ operand → leb operand 65535 ≡ holds_value s k i
    holds_past l = rw (kind_not 0 s i h n, kind_is 1 s i h e, ← o.is, lt-ltb i (count s) b, le-leb k operand l)

    pub holds_index : operand < k → leb k operand ≡ holds_value s k i
    holds_index l = rw (kind_not 0 s i h n, kind_is 1 s i h e, ← o.is, lt-ltb i (count s) b, lt-leb k operand l)

module _ (s : List ℤ) (i : ℕ) {kind : ℕ} (h : Word (field s i 2) kind) where
  pub held_kern : kind ≡ 0 → {w : ℕ} → Word (field s i 3) w → Word (held_value s i) w
  held_kern e o = rw (kind_is 0 s i h e) o

  pub held_zero : (kind ≡ 0 → ⊥) → Word (held_value s i) 0
  held_zero n = rw (kind_not 0 s i h n) (small_word 0 (omega arith))

-- ---- the kerns gathered

-- a value by its word has the place of the value
pub place_held : {v : ℤ} {w p : ℕ} (ks : List ℤ) → Word v w → p ≡ kern_place (number_of w) ks → p ≡ kern_place v ks
place_held ks h e = e ∙ ap (λ (z : ℤ). kern_place z ks) (number_is h)

-- by the place of its value an instruction adds a kern, or not
module _ (s : List ℤ) (k i : ℕ) (ks : List ℤ) (m : ℕ) {p : ℕ} (q : p ≡ kern_place (held_value s i) (take m ks)) where
  pub is_old : (p ≡ m → ⊥) → is_new s k i ks m ≡ false
  is_old n = rw (ne_eqb (kern_place (held_value s i) (take m ks)) m (λ z. n (q ∙ z))) (both_false (holds_value s k i))

  pub is_new_lem : holds_value s k i ≡ true → p ≡ m → is_new s k i ks m ≡ true
  is_new_lem t e = rw (t, eq-eqb (kern_place (held_value s i) (take m ks)) m (sym q ∙ e))

-- the kerns of the first i instructions stand in front of a list
pub record Gathering (s ks₀ ks : List ℤ) (k i m : ℕ) : Type 0 where
  pub counted : m ≡ length (shared_kerns s (take k ks₀) i)
  pub few : m ≤ k + i
  pub stand : Appending (shared_kerns s (take k ks₀) i) ks₀ ks

module _ (s ks₀ : List ℤ) (k : ℕ) (h : k ≤ length ks₀) where
  pub gathering_none : Gathering s ks₀ ks₀ k 0 k
  unfolding shared_kerns
  gathering_none =
      record {
        counted = sym (length-take-le k ks₀ h);
        few = omega arith;
        stand = record { within = rw (length-take-le k ks₀ h) h; appended = rw (length-take-le k ks₀ h) (sym (take-append-drop k ks₀)) };
      }

  module _ {ks : List ℤ} {i m : ℕ} (g : Gathering s ks₀ ks k i m) (l : k + i < length ks₀) where
    abbrev Y : List ℤ
    Y = shared_kerns s (take k ks₀) i

    front : take m ks ≡ Y
    front = rw g.stand.appended (take_at Y (drop (length Y) ks₀) m (sym g.counted))

    abbrev H : ℤ
    H = held_value s i

    next : shared_kerns s (take k ks₀) (i + 1) ≡ cond (holds_value s k i) (shared Y H) Y
    unfolding shared_kerns
    next = rw (add-one i, length-take-le k ks₀ h)

    same : holds_value s k i ≡ false ⊎ eqb (kern_place H Y) (length Y) ≡ false → shared_kerns s (take k ks₀) (i + 1) ≡ Y
    same (inl e) = rw e at next
    same (inr e) = next ∙ by (holds_value s k i)
      where
        by : (t : Bool) → cond t (shared Y H) Y ≡ Y
        by true = rw e
        by false = refl

    -- nothing is added
    pub gathering_same : {ks' : List ℤ} → ks' ≡ ks → holds_value s k i ≡ false ⊎ eqb (kern_place H Y) (length Y) ≡ false → Gathering s ks₀ ks' k (i + 1) m
    gathering_same e t = rw e (record { counted = rw (same t) g.counted; few = omega (arith, g.few); stand = rw (same t) g.stand })

    -- a value is added
    pub gathering_one : {ks' : List ℤ} → ks' ≡ set ks m H → holds_value s k i ≡ true → eqb (kern_place H Y) (length Y) ≡ true → Gathering s ks₀ ks' k (i + 1) (m + 1)
    gathering_one {ks'} e t u =
        let n : shared_kerns s (take k ks₀) (i + 1) ≡ Y ++ (H ∷ []) = rw (t, u) at next in
        let b : length Y < length ks = omega (arith, appending_length ks₀ g.stand, g.counted, g.few) in
        let d : ks' ≡ set ks (length Y) H = rw g.counted at e in
        record {
          counted = rw n (ap (λ (x : ℕ). x + 1) g.counted ∙ add-one (length Y) ∙ sym (snoc_length Y H));
          few = omega (arith, g.few);
          stand = rw (n, d) (appending_one ks₀ H g.stand b);
        }

    -- by the test of the value among the kerns
    module _ {p : ℕ} (q : p ≡ kern_place H (take m ks)) where
      place_here : p ≡ kern_place H Y
      place_here = q ∙ ap (kern_place H) front

      pub gathering_old : {ks' : List ℤ} → ks' ≡ ks → (p ≡ m → ⊥) → Gathering s ks₀ ks' k (i + 1) m
      gathering_old e n = gathering_same e (inr (ne_eqb (kern_place H Y) (length Y) (λ z. n (place_here ∙ z ∙ sym g.counted))))

      pub gathering_new : {ks' : List ℤ} → ks' ≡ set ks m H → holds_value s k i ≡ true → p ≡ m → Gathering s ks₀ ks' k (i + 1) (m + 1)
      gathering_new e t n = gathering_one e t (eq-eqb (kern_place H Y) (length Y) (sym place_here ∙ n ∙ g.counted))

    pub gathering_more : {r : ℕ} {ks' : List ℤ} → r ≡ cond (is_new s k i ks m) (m + 1) m → ks' ≡ cond (is_new s k i ks m) (set ks m H) ks →
        Gathering s ks₀ ks' k (i + 1) r
    gathering_more {r} {ks'} a b = by (holds_value s k i) refl (eqb (kern_place H (take m ks)) m) refl
      where
        by : (t : Bool) → holds_value s k i ≡ t → (u : Bool) → eqb (kern_place H (take m ks)) m ≡ u → Gathering s ks₀ ks' k (i + 1) r
        by false e u f = let a' : r ≡ m = rw e at a in let b' : ks' ≡ ks = rw e at b in rw a' (gathering_same b' (inl e))
        by true e false f =
            let a' : r ≡ m = rw (e, f) at a in
            let b' : ks' ≡ ks = rw (e, f) at b in
            rw a' (gathering_old refl b' (eqb-false (kern_place H (take m ks)) m f))
        by true e true f =
            let a' : r ≡ m + 1 = rw (e, f) at a in
            let b' : ks' ≡ set ks m H = rw (e, f) at b in
            rw a' (gathering_new refl b' e (eqb-true (kern_place H (take m ks)) m f))

-- ---- the instructions passed

always : {A : Type 0} (t : Bool) (a : A) → cond t a a ≡ a
always true a = refl
always false a = refl

-- one instruction, from what was read and written
module _ (s ks : List ℤ) (k i : ℕ) where
  pub shared_kept : holds_value s k i ≡ false → s ≡ shared_at s ks k i
  shared_kept t = rw t

  module _ {w p : ℕ} (v : Word (held_value s i) w) (e : p ≡ kern_place (number_of w) (take (length ks) ks)) where
    place_is : p ≡ kern_place (held_value s i) ks
    place_is = place_held ks v (e ∙ ap (kern_place (number_of w)) (take_all (length ks) ks (omega arith)))

    pub place_few : p ≤ length ks
    place_few = rw place_is (place_le (held_value s i) ks)

    pub shared_written : {d₁ d₂ : List ℤ} → holds_value s k i ≡ true → length ks ≤ 65536 → d₁ ≡ set s (4 * i + 2) (number_of 1) →
        d₂ ≡ set d₁ (4 * i + 3) (number_of p) → d₂ ≡ shared_at s ks k i
    shared_written t l a b =
        let n : number_of p ≡ pos p = number_is (small_word p (omega (arith, place_few))) in
        b ∙ rw (a, n, place_is, t)

-- the first i instructions are shared, and the others as they were
pub record Sharing (s ks : List ℤ) (k : ℕ) (d : List ℤ) (i : ℕ) : Type 0 where
  pub long : length d ≡ length s
  pub done : (j : ℕ) → j < 4 * i → get_or d j (pos 0) ≡ shared_number s ks k j
  pub rest : (j : ℕ) → 4 * i ≤ j → get_or d j (pos 0) ≡ get_or s j (pos 0)

module _ (s ks : List ℤ) (k : ℕ) where
  pub sharing_none : Sharing s ks k s 0
  sharing_none = record { long = refl; done = λ j h. absurd (omega arith); rest = λ j h. refl }

  module _ {d : List ℤ} {i : ℕ} (g : Sharing s ks k d i) (h : i < count s) where
    field-same : (f : ℕ) → field d i f ≡ field s i f
    field-same f = rw (g.long, g.rest (4 * i + f) (omega arith))

    holds_same : holds_value d k i ≡ holds_value s k i
    holds_same = rw (field-same 2, field-same 3, g.long)

    held_same : held_value d i ≡ held_value s i
    held_same = rw (field-same 2, field-same 3)

    -- a number of instruction i, as it is shared
    number-not : holds_value s k i ≡ false → (j : ℕ) → j / 4 ≡ i → shared_number s ks k j ≡ get_or s j (pos 0)
    number-not t j e = rw (e, t)

    number-kind : holds_value s k i ≡ true → (j : ℕ) → j / 4 ≡ i → j % 4 ≡ 2 → shared_number s ks k j ≡ pos 1
    number-kind t j e m = rw (e, t, m)

    number-operand : holds_value s k i ≡ true → (j : ℕ) → j / 4 ≡ i → j % 4 ≡ 3 → shared_number s ks k j ≡ pos (kern_place (held_value s i) ks)
    number-operand t j e m = rw (e, t, m)

    number-other : (j : ℕ) → (j % 4 ≡ 2 → ⊥) → (j % 4 ≡ 3 → ⊥) → shared_number s ks k j ≡ get_or s j (pos 0)
    number-other j a b = rw (ne_eqb (j % 4) 2 a, ne_eqb (j % 4) 3 b) (always (holds_value s k (j / 4)) (get_or s j (pos 0)))

    abbrev D : List ℤ
    D = set (set d (4 * i + 2) (pos 1)) (4 * i + 3) (pos (kern_place (held_value s i) ks))

    D-long : length D ≡ length s
    D-long = length-set (set d (4 * i + 2) (pos 1)) (4 * i + 3) _ ∙ length-set d (4 * i + 2) (pos 1) ∙ g.long

    D-other : (j : ℕ) → (j ≡ 4 * i + 2 → ⊥) → (j ≡ 4 * i + 3 → ⊥) → get_or D j (pos 0) ≡ get_or d j (pos 0)
    D-other j a b =
        get_or-set_other (set d (4 * i + 2) (pos 1)) (4 * i + 3) j _ (pos 0) b ∙ get_or-set_other d (4 * i + 2) j (pos 1) (pos 0) a

    sharing-kept : holds_value s k i ≡ false → Sharing s ks k d (i + 1)
    sharing-kept t = record { long = g.long; done = go; rest = λ j l. g.rest j (omega arith) }
      where
        go : (j : ℕ) → j < 4 * (i + 1) → get_or d j (pos 0) ≡ shared_number s ks k j
        go j l = by (leb (4 * i) j) refl
          where
            by : (b : Bool) → leb (4 * i) j ≡ b → get_or d j (pos 0) ≡ shared_number s ks k j
            by true e = let m : 4 * i ≤ j = leb-true (4 * i) j e in g.rest j m ∙ sym (number-not t j (omega arith))
            by false e = let m : j < 4 * i = leb-false (4 * i) j e in g.done j m

    sharing-written : holds_value s k i ≡ true → Sharing s ks k D (i + 1)
    sharing-written t = record { long = D-long; done = go; rest = λ j l. D-other j (λ e. absurd (omega arith)) (λ e. absurd (omega arith)) ∙ g.rest j (omega arith) }
      where
        go : (j : ℕ) → j < 4 * (i + 1) → get_or D j (pos 0) ≡ shared_number s ks k j
        go j l = by (leb (4 * i) j) refl (eqb j (4 * i + 2)) refl (eqb j (4 * i + 3)) refl
          where
            by : (b : Bool) → leb (4 * i) j ≡ b → (u : Bool) → eqb j (4 * i + 2) ≡ u → (v : Bool) → eqb j (4 * i + 3) ≡ v →
                get_or D j (pos 0) ≡ shared_number s ks k j
            by false e u f v q =
                let m : j < 4 * i = leb-false (4 * i) j e in
                D-other j (λ z. absurd (omega arith)) (λ z. absurd (omega arith)) ∙ g.done j m
            by true e true f v q =
                let m : j ≡ 4 * i + 2 = eqb-true j (4 * i + 2) f in
                let b2 : 4 * i + 2 < length d = omega (arith, g.long) in
                let w : get_or D (4 * i + 2) (pos 0) ≡ pos 1 = get_or-set_other (set d (4 * i + 2) (pos 1)) (4 * i + 3) (4 * i + 2) _ (pos 0) (λ z. absurd (omega arith))
                ∙ get_or-set_same d (4 * i + 2) (pos 1) (pos 0) b2 in
                ap (λ (x : ℕ). get_or D x (pos 0)) m ∙ w ∙ sym (number-kind t j (omega arith) (omega arith))
            by true e false f true q =
                let m : j ≡ 4 * i + 3 = eqb-true j (4 * i + 3) q in
                let b3 : 4 * i + 3 < length (set d (4 * i + 2) (pos 1)) = rw (length-set d (4 * i + 2) (pos 1)) (omega (arith, g.long)) in
                let w : get_or D (4 * i + 3) (pos 0) ≡ pos (kern_place (held_value s i) ks) = get_or-set_same (set d (4 * i + 2) (pos 1)) (4 * i + 3) _ (pos 0) b3 in
                ap (λ (x : ℕ). get_or D x (pos 0)) m ∙ w ∙ sym (number-operand t j (omega arith) (omega arith))
            by true e false f false q =
                let m : 4 * i ≤ j = leb-true (4 * i) j e in
                let a : j ≡ 4 * i + 2 → ⊥ = eqb-false j (4 * i + 2) f in
                let b : j ≡ 4 * i + 3 → ⊥ = eqb-false j (4 * i + 3) q in
                D-other j a b ∙ g.rest j m ∙ sym (number-other j (λ z. absurd (omega arith)) (λ z. absurd (omega arith)))

    pub sharing_more : {d' : List ℤ} → d' ≡ shared_at d ks k i → Sharing s ks k d' (i + 1)
    sharing_more {d'} e = by (holds_value s k i) refl
      where
        by : (t : Bool) → holds_value s k i ≡ t → Sharing s ks k d' (i + 1)
        by true t = let q : d' ≡ D = e ∙ rw (holds_same, t, held_same) in rw q (sharing-written t)
        by false t = let q : d' ≡ d = e ∙ rw (holds_same, t) in rw q (sharing-kept t)

  pub sharing_all : {d : List ℤ} {i : ℕ} → Sharing s ks k d i → count s ≤ i → d ≡ tabulate (length s) (shared_number s ks k)
  sharing_all {d} {i} g h =
      ext_get_or (pos 0) d (tabulate (length s) (shared_number s ks k)) (g.long ∙ sym (length_tabulate (length s) (shared_number s ks k)))
      (λ j l. by j (rw g.long at l) (leb (4 * i) j) refl ∙ sym (get_d_tabulate (length s) (shared_number s ks k) j (pos 0) (rw g.long at l)))
    where
      by : (j : ℕ) → j < length s → (b : Bool) → leb (4 * i) j ≡ b → get_or d j (pos 0) ≡ shared_number s ks k j
      by j l true e =
          let m : 4 * i ≤ j = leb-true (4 * i) j e in
          let n : count s ≤ j / 4 = omega arith in
          let t : holds_value s k (j / 4) ≡ false = sym (holds_none s k (j / 4) n) in
          g.rest j m ∙ rw t
      by j l false e = g.done j (leb-false (4 * i) j e)

-- ---- the whole

module _ (s kerns : List ℤ) (k : ℕ) where
  -- without room
  pub shares_nothing : has_kern_room s kerns k ≡ false → SharesKerns s kerns k k s kerns
  shares_nothing e = record { answer = rw e; program = rw e; list = rw e }

  module _ (e : has_kern_room s kerns k ≡ true) where
    pub room_few : k + count s ≤ 65536
    room_few = leb-true (k + count s) 65536 (both_left (leb (k + count s) 65536) (leb (k + count s) (length kerns)) e)

    pub room_here : k + count s ≤ length kerns
    room_here = leb-true (k + count s) (length kerns) (both_right (leb (k + count s) 65536) (leb (k + count s) (length kerns)) e)

    K-long : length (take k kerns) ≡ k
    K-long = length-take-le k kerns (omega (arith, room_here))

    pub all_few : length (all_kerns s (take k kerns)) ≤ k + count s
    all_few = omega (arith, kerns_few s (take k kerns) (count s), K-long)

    module _ {m : ℕ} {kerns' : List ℤ} (a : m ≡ length (all_kerns s (take k kerns))) (g : Appending (all_kerns s (take k kerns)) kerns kerns') where
      pub front_is : take m kerns' ≡ all_kerns s (take k kerns)
      front_is = rw g.appended (take_at (all_kerns s (take k kerns)) (drop (length (all_kerns s (take k kerns))) kerns) m (sym a))

      pub shares_all : {s' : List ℤ} → s' ≡ tabulate (length s) (shared_number s (take m kerns') k) → SharesKerns s kerns k m s' kerns'
      shares_all p =
          record {
            answer = rw e a;
            program = rw e (p ∙ ap (λ (l : List ℤ). tabulate (length s) (shared_number s l k)) front_is
                ∙ ap (λ (n : ℕ). tabulate (length s) (shared_number s (all_kerns s (take k kerns)) n)) (sym K-long));
            list = rw e g.appended;
          }
