-- Laws of the tests of a step: each says over plain values what a way through the code shows.
-- Assumes nothing.
use mathlib.Core.Path.{◌≡◌, refl, sym, ap, ◌∙◌}
use mathlib.Core.Bool.{Bool, true, false, cond, not}
use mathlib.Core.List.{List}
use Prim.Native.Nat.{ℕ, ◌+◌, ◌-◌, ◌/◌, ◌%◌, ◌^◌, ◌<◌, ◌≤◌}
use native.Mathlib.Omega.{arith}
use lib.IntN.{ℤ}
use lib.Dec.{leb, eqb}
use lib.ListN.{length, get_or}
use borrow.Author.Tests.{eq-eqb, ne_eqb, le-leb, lt-leb, leb-true, leb-false}
use Rattle.words.specs.Words.{Word, word_of, number_of}
use Rattle.words.proofs.Bits.{word_number, number_pos, number_neg, number_is, read_pos, read_neg}
use Rattle.lang.specs.Operations.{is_standard}
use Rattle.lang.specs.Records.{count, field, is_kind}
use Rattle.repairs.specs.declared.Faults.{Faults}
use Rattle.repairs.specs.Damaged.{program_by}
use Rattle.repairs.specs.Repaired.{faults_of}
use Rattle.repair_faults.specs.Tests.{exists_in, is_edge, skip_past_end, redirect_past_end, right_missing, kern_past_list, product_missing, tag_invalid}

-- two tests of order that hold together
leb_both : (a b c d : ℕ) → (a ≤ b → c ≤ d) → (b < a → d < c) → leb a b ≡ leb c d
leb_both a b c d f g = go (leb a b) refl
  where
    go : (t : Bool) → leb a b ≡ t → t ≡ leb c d
    go true e = sym (le-leb c d (f (leb-true a b e)))
    go false e = sym (lt-leb c d (g (leb-false a b e)))

-- ---- kinds

module _ (s : List ℤ) (i k : ℕ) {kind : ℕ} (ks : kind ≡ word_of (field s i 2)) where
  pub not_kind : (kind ≡ k → ⊥) → is_kind k s i ≡ false
  not_kind h = ap (λ (w : ℕ). eqb w k) (sym ks) ∙ ne_eqb kind k h

  pub of_kind : kind ≡ k → is_kind k s i ≡ true
  of_kind h = ap (λ (w : ℕ). eqb w k) (sym ks) ∙ eq-eqb kind k h

-- ---- skips

module _ (s : List ℤ) (marks : List ℕ) (i : ℕ) {m : ℕ} (ms : m ≡ get_or marks i 0) where
  pub skip_unreachable : m ≡ 0 → false ≡ skip_past_end s marks i
  skip_unreachable h = rw (← ms, h)

  module _ (h : m ≡ 0 → ⊥) {w : ℕ} (ws : Word (field s i 0) w) where
    pub skip_none : 2147483647 < w → false ≡ skip_past_end s marks i
    skip_none l = rw (← ms, ne_eqb m 0 h, read_neg ws (omega arith))

    module _ (l : w ≤ 2147483647) where
      pub skip_past : count s ≤ i → true ≡ skip_past_end s marks i
      skip_past g = rw (← ms, ne_eqb m 0 h, read_pos ws (omega arith), le-leb (count s) (i + 1 + w) (omega arith))

      pub skip_lands : i < count s → leb (count s - i) (w + 1) ≡ skip_past_end s marks i
      skip_lands g =
          rw (← ms, ne_eqb m 0 h, read_pos ws (omega arith)) (leb_both (count s - i) (w + 1) (count s) (i + 1 + w) (λ e. omega arith) (λ e. omega arith))

-- ---- redirects

module _ (s : List ℤ) (marks through : List ℕ) (i : ℕ) {kind : ℕ} (ks : kind ≡ word_of (field s i 2)) where
  pub redirect_none : (kind ≡ 3 → ⊥) → false ≡ redirect_past_end s marks through i
  redirect_none h = rw (not_kind s i 3 ks h)

  module _ (h : kind ≡ 3) {w : ℕ} (ws : w ≡ word_of (field s i 3)) where
    pub redirect_followed : w % 65536 < count s → false ≡ redirect_past_end s marks through i
    redirect_followed l = rw (of_kind s i 3 ks h, ← ws, lt-leb (count s) (w % 65536) l)

    module _ (l : count s ≤ w % 65536) {m : ℕ} (ms : m ≡ get_or marks i 0) where
      pub redirect_reached : (m ≡ 0 → ⊥) → true ≡ redirect_past_end s marks through i
      redirect_reached g = rw (of_kind s i 3 ks h, ← ws, le-leb (count s) (w % 65536) l, ← ms, ne_eqb m 0 g)

      pub redirect_unreached : m ≡ 0 → {t : ℕ} → t ≡ get_or through i 0 → eqb t 0 ≡ redirect_past_end s marks through i
      redirect_unreached g {t} ts = rw (of_kind s i 3 ks h, ← ws, le-leb (count s) (w % 65536) l, ← ms, eq-eqb m 0 g, ← ts) (go (eqb t 0))
        where
          go : (b : Bool) → b ≡ not (cond b false true)
          go true = refl
          go false = refl

-- ---- right characters

module _ (b c : ℕ) (bs : b < 2 ^ 32) (cs : c < 2 ^ 32) where
  pub edge_none : 2147483647 < b → false ≡ is_edge (number_of b) (number_of c)
  edge_none h = rw (number_neg b (omega arith))

  pub edge_same : b ≤ 2147483647 → eqb b c ≡ is_edge (number_of b) (number_of c)
  edge_same h = rw (word_number b bs, word_number c cs, number_pos b (omega arith))

module _ (s : List ℤ) (boundary : ℤ) (existing : List ℕ) (i : ℕ) {kind : ℕ} (ks : kind ≡ word_of (field s i 2)) where
  pub right_redirect : kind ≡ 3 → false ≡ right_missing s boundary existing i
  right_redirect h = rw (of_kind s i 3 ks h)

  module _ (h : kind ≡ 3 → ⊥) {w : ℕ} (ws : Word (field s i 1) w) {there : Bool} (ts : there ≡ exists_in existing w) where
    pub right_exists : there ≡ true → false ≡ right_missing s boundary existing i
    right_exists g = rw (not_kind s i 3 ks h, ← ws.is, ← ts, g)

    pub right_edge : there ≡ false → {edge : Bool} → edge ≡ is_edge boundary (number_of w) → not edge ≡ right_missing s boundary existing i
    right_edge g es = rw (not_kind s i 3 ks h, es, number_is ws, ← ws.is, ← ts, g)

-- ---- kern indices

module _ (s kerns : List ℤ) (i : ℕ) {kind : ℕ} (ks : kind ≡ word_of (field s i 2)) where
  pub kern_none : (kind ≡ 1 → ⊥) → false ≡ kern_past_list s kerns i
  kern_none h = rw (not_kind s i 1 ks h)

  pub kern_index : kind ≡ 1 → {w : ℕ} → w ≡ word_of (field s i 3) → leb (length kerns) w ≡ kern_past_list s kerns i
  kern_index h ws = rw (of_kind s i 1 ks h, ← ws)

-- ---- ligatures

module _ (s : List ℤ) (existing : List ℕ) (i : ℕ) {kind : ℕ} (ks : kind ≡ word_of (field s i 2)) where
  pub product_none : (kind ≡ 2 → ⊥) → false ≡ product_missing s existing i
  product_none h = rw (not_kind s i 2 ks h)

  pub tag_none : (kind ≡ 2 → ⊥) → false ≡ tag_invalid s i
  tag_none h = rw (not_kind s i 2 ks h)

  module _ (h : kind ≡ 2) {w : ℕ} (ws : w ≡ word_of (field s i 3)) {t : Bool} where
    pub product_by : t ≡ exists_in existing (w % 256) → not t ≡ product_missing s existing i
    product_by ts = rw (of_kind s i 2 ks h, ts, ← ws)

    pub tag_by : t ≡ is_standard (w / 256) → not t ≡ tag_invalid s i
    tag_by ts = rw (of_kind s i 2 ks h, ts, ← ws)

-- ---- all of them

module _ (s kerns : List ℤ) (boundary : ℤ) (existing marks through : List ℕ) (i : ℕ) where
  pub faults_are : {w : ℕ} → Word boundary w → {skip redirect right kern product tag : Bool} → skip ≡ skip_past_end s marks i →
      redirect ≡ redirect_past_end s marks through i → right ≡ right_missing s (number_of w) existing i → kern ≡ kern_past_list s kerns i →
      product ≡ product_missing s existing i → tag ≡ tag_invalid s i → (n : ℕ) →
      ◌≡◌ {A = Faults} (record { skip = skip; redirect = redirect; right = right; kern = kern; product = product; tag = tag })
      (faults_of (program_by s kerns boundary n existing marks through) i)
  faults_are ws es fs gs hs ks ls n = rw (es, fs, gs ∙ ap (λ (b : ℤ). right_missing s b existing i) (number_is ws), hs, ks, ls)
