-- The rows that `add_rows` writes for one left are those of its chain's rules: `Appended` and `OrderWritten` of crate `compiling`, of what `survey` found.
-- Assumes nothing.
use mathlib.Core.Path.{◌≡◌, refl, sym, ap, ◌∙◌, subst}
use mathlib.Core.List.{List}
use mathlib.Core.Logic.{◌⊎◌, inl, inr}
use Prim.Native.Nat.{ℕ, zero, suc, ◌+◌, ◌-◌, ◌*◌, ◌%◌, ◌<◌, ◌≤◌}
use native.Mathlib.Nat.{eq-or-lt_of_le, le_of_suc-le-suc}
use native.Mathlib.Numerals.{add-one}
use native.Mathlib.Omega.{arith}
use lib.IntN.{ℤ}
use lib.ListN.{length, get_or, set, replicate, length-set}
use lib.Seq.{get_or-set_same, get_or-set_other}
use Rattle.words.specs.Words.{Word}
use Rattle.words.proofs.Tests.{same_or_not}
use Rattle.fonts.specs.Fonts.{left_of, left_entry_of}
use Rattle.compiling.specs.Rows.{at}
use Rattle.compiling.specs.PairSteps.{count_ruled, rank, Ordered, Appended, OrderWritten, Adding, Adds}
use Rattle.compiling.proofs.RowLaws.{at_stored, at_kept}
use Rattle.compiling.proofs.PairRowLaws.{rank_past, appended_none, appended_more, blank_is, adds_some, few_ruled}
use Rattle.compile_survey.specs.Bits.{bit_at}
use Rattle.compile_survey.specs.Surveys.{ruled_bit, Tabled, Surveys}
use Rattle.compile_chain_rows.specs.ChainRows.{bit_rank, row_by, rows_from}
use Rattle.compile_chain_rows.proofs.Walking.{bit_rank_zero, bit_rank_suc, rows_zero, rows_suc}

rank_none : (f : List ℕ) → rank f 0 ≡ 0
unfolding rank
rank_none f = refl

rank_more : (f : List ℕ) (r : ℕ) → rank f (suc r) ≡ count_ruled (get_or f r 0) (rank f r)
unfolding rank
rank_more f r = refl

count_bit : (x n : ℕ) → count_ruled x n ≡ ruled_bit x + n
count_bit zero n = omega arith
count_bit (suc x) n = omega arith

-- the same store in two lists that agree
both : (v u : List ℕ) (p x q : ℕ) → p < length v → length v ≡ length u → get_or v q 0 ≡ get_or u q 0 → get_or (set v p x) q 0 ≡ get_or (set u p x) q 0
both v u p x q l e h = go (same_or_not q p)
  where
    go : (q ≡ p) ⊎ (q ≡ p → ⊥) → get_or (set v p x) q 0 ≡ get_or (set u p x) q 0
    go (inl i) = rw i (get_or-set_same v p x 0 l ∙ sym (get_or-set_same u p x 0 (omega arith)))
    go (inr ne) = get_or-set_other v p q x 0 ne ∙ h ∙ sym (get_or-set_other u p q x 0 ne)

module _ (t n : ℕ) (first order places₀ indices₀ places indices rights : List ℕ) (m : ℕ) (o : Ordered first order m)
    (b : Tabled first order places₀ indices₀ places indices rights m) (short : (q : ℕ) → get_or first q 0 ≤ 32767) (w : List ℕ) (room : 16 * (n + m) ≤ length w)
    (few : n + 256 ≤ 65792) where
  ranks : (r : ℕ) → r ≤ 256 → bit_rank rights r ≡ rank first r
  ranks zero l = bit_rank_zero rights ∙ sym (rank_none first)
  ranks (suc r) l =
      omega (arith, bit_rank_suc rights r, b.bit r l, ranks r (omega arith), rank_more first r, count_bit (get_or first r 0) (rank first r))

  -- the place of a character that has a rule
  abbrev At : ℕ → Type 0
  At q = (get_or places q 0 < m) × (get_or order (get_or places q 0) 0 ≡ q)

  at_place : (q : ℕ) → q < 256 → 0 < get_or first q 0 → At q
  at_place q l p =
      let y = o.each q l p in
      let e : get_or places q 0 ≡ y.0 = ap (λ (x : ℕ). get_or places x 0) (sym y.2) ∙ b.place y.0 y.1 in
      rw e (y.1, y.2)

  index_is : (q i : ℕ) → q < 256 → get_or first q 0 ≡ suc i → get_or indices (get_or places q 0) 0 ≡ i
  index_is q i l e =
      let y = at_place q l (omega arith) in
      omega (arith, b.index (get_or places q 0) y.0, ap (λ (x : ℕ). get_or first x 0) y.1, short q)

  -- two characters have two places
  apart : (q r : ℕ) → q < r → r < 256 → 0 < get_or first q 0 → 0 < get_or first r 0 → n + get_or places q 0 ≡ n + get_or places r 0 → ⊥
  apart q r l h p s e =
      let d : get_or places q 0 ≡ get_or places r 0 = omega arith in
      omega (arith, (at_place q (omega arith) p).1, (at_place r h s).1, ap (λ (x : ℕ). get_or order x 0) d)

  -- The rows of the characters below r: `mid` is without their order, which `v` has.
  record Placed (v : List ℕ) (r : ℕ) : Type 0 where
    pub rows : List ℕ
    pub mid : List ℕ
    pub appended : Appended t n first w mid rows r
    pub same_length : length v ≡ length mid
    pub kept : (k f : ℕ) → f < 16 → (f ≡ 15 → ⊥) → at v k f ≡ at mid k f
    pub turned : (q : ℕ) → q < r → 0 < get_or first q 0 → at v (n + get_or places q 0) 15 ≡ n + rank first q
    pub elsewhere : (k : ℕ) → ((q : ℕ) → q < r → 0 < get_or first q 0 → k ≡ n + get_or places q 0 → ⊥) → at v k 15 ≡ at mid k 15

  placed_none : Placed w 0
  placed_none =
      record {
        rows = replicate 256 0;
        mid = w;
        appended = appended_none t n first w (replicate 256 0) blank_is.long;
        same_length = refl;
        kept = λ k f l ne. refl;
        turned = λ q l p. absurd (omega arith);
        elsewhere = λ k ne. refl;
      }

  module _ (v : List ℕ) (r : ℕ) (h : Placed v r) (l : r < 256) where
    abbrev k : ℕ
    k = n + rank first r

    abbrev rows' : List ℕ
    rows' = set h.rows r k

    full : 16 * (n + rank first 256) ≤ length w
    full = omega (arith, o.all, room)

    -- it has no rule
    not_last : get_or first r 0 ≡ 0 → (q : ℕ) → 0 < get_or first q 0 → (q ≡ r) ⊎ (q < r) → q < r
    not_last z q p (inl e) = let y : get_or first q 0 ≡ 0 = rw e z in absurd (omega arith)
    not_last z q p (inr i) = i

    placed_same : get_or first r 0 ≡ 0 → Placed v (suc r)
    placed_same z =
        let y = appended_more t n first w h.mid h.rows rows' r k h.appended l refl refl full h.mid k 0 (sym z) (refl, refl) in
        record {
          rows = rows';
          mid = h.mid;
          appended = rw (add-one r) at y.0;
          same_length = h.same_length;
          kept = h.kept;
          turned = λ q i p. h.turned q (not_last z q p (eq-or-lt_of_le (le_of_suc-le-suc i))) p;
          elsewhere = λ j ne. h.elsewhere j (λ q i p. ne q (omega arith) p);
        }

    -- it has one
    module _ (i : ℕ) (e : get_or first r 0 ≡ suc i) where
      abbrev three : List ℕ → List ℕ
      three u = set (set (set u (16 * k + 0) t) (16 * k + 1) r) (16 * k + 2) i

      abbrev place : ℕ
      place = get_or places r 0

      abbrev v' : List ℕ
      v' = set (three v) (16 * (n + place) + 15) (k % 4294967296)

      three-kept : (u : List ℕ) (j f : ℕ) → 2 < f → f < 16 → at (three u) j f ≡ at u j f
      three-kept u j f a c =
          at_kept (set (set u (16 * k + 0) t) (16 * k + 1) r) k 2 i j f (omega arith) c (λ d g. omega arith)
          ∙ at_kept (set u (16 * k + 0) t) k 1 r j f (omega arith) c (λ d g. omega arith)
          ∙ at_kept u k 0 t j f (omega arith) c (λ d g. omega arith)

      three-long : (u : List ℕ) → length (three u) ≡ length u
      three-long u =
          length-set (set (set u (16 * k + 0) t) (16 * k + 1) r) (16 * k + 2) i
          ∙ length-set (set u (16 * k + 0) t) (16 * k + 1) r
          ∙ length-set u (16 * k + 0) t

      mid_long : length v ≡ length w
      mid_long = h.same_length ∙ h.appended.same_length

      fit : 16 * k + 2 < length v
      fit = omega (arith, mid_long, room, o.all, rank_past first r 256 l (omega arith))

      turn-fit : 16 * (n + place) + 15 < length (three v)
      turn-fit = omega (arith, three-long v, mid_long, room, (at_place r l (omega arith)).0)

      three-both : (j f : ℕ) → at v j f ≡ at h.mid j f → at (three v) j f ≡ at (three h.mid) j f
      three-both j f a =
          let l₀ = length-set v (16 * k + 0) t in
          let l₁ = length-set (set v (16 * k + 0) t) (16 * k + 1) r in
          let m₀ = length-set h.mid (16 * k + 0) t in
          let m₁ = length-set (set h.mid (16 * k + 0) t) (16 * k + 1) r in
          let y = both v h.mid (16 * k + 0) t (16 * j + f) (omega (arith, fit)) h.same_length a in
          let x = both (set v (16 * k + 0) t) (set h.mid (16 * k + 0) t) (16 * k + 1) r (16 * j + f) (omega (arith, fit)) (omega (arith, h.same_length)) y
          in
          both (set (set v (16 * k + 0) t) (16 * k + 1) r) (set (set h.mid (16 * k + 0) t) (16 * k + 1) r) (16 * k + 2) i (16 * j + f) (omega (arith, fit))
          (omega (arith, h.same_length)) x

      turn-here : at v' (n + place) 15 ≡ k
      turn-here =
          at_stored (three v) (n + place) 15 (k % 4294967296) turn-fit
          ∙ omega (arith, few, rank_past first r 256 l (omega arith), o.all, few_ruled first order m o)

      turn-other : (j : ℕ) → (j ≡ n + place → ⊥) → at v' j 15 ≡ at v j 15
      turn-other j ne =
          at_kept (three v) (n + place) 15 (k % 4294967296) j 15 (omega arith) (omega arith) (λ d g. ne d) ∙ three-kept v j 15 (omega arith) (omega arith)

      turned_by : (q : ℕ) → 0 < get_or first q 0 → (q ≡ r) ⊎ (q < r) → at v' (n + get_or places q 0) 15 ≡ n + rank first q
      turned_by q p (inl a) = rw a turn-here
      turned_by q p (inr a) = turn-other (n + get_or places q 0) (apart q r a l p (omega arith)) ∙ h.turned q a p

      placed_one : Placed v' (suc r)
      placed_one =
          let y = appended_more t n first w h.mid h.rows rows' r k h.appended l refl refl full (three h.mid) (k + 1) (suc i) (sym e) (refl, refl) in
          record {
            rows = rows';
            mid = three h.mid;
            appended = rw (add-one r) at y.0;
            same_length = length-set (three v) (16 * (n + place) + 15) (k % 4294967296) ∙ three-long v ∙ h.same_length ∙ sym (three-long h.mid);
            kept = λ j f a ne. at_kept (three v) (n + place) 15 (k % 4294967296) j f (omega arith) a (λ d g. ne g) ∙ three-both j f (h.kept j f a ne);
            turned = λ q a p. turned_by q p (eq-or-lt_of_le (le_of_suc-le-suc a));
            elsewhere = λ j ne.
                turn-other j (ne r (omega arith) (omega arith))
                ∙ h.elsewhere j (λ q a p. ne q (omega arith) p)
                ∙ sym (three-kept h.mid j 15 (omega arith) (omega arith));
          }

    placed_by : (x : ℕ) → get_or first r 0 ≡ x → Placed (row_by (ruled_bit x) n t places indices k r v) (suc r)
    placed_by zero e = placed_same e
    placed_by (suc i) e = rw (index_is r i l e) (placed_one i e)

    placed-more : Placed (row_by (bit_at rights r) n t places indices (n + bit_rank rights r) r v) (suc r)
    placed-more = rw (b.bit r l, ranks r (omega arith)) (placed_by (get_or first r 0) refl)

  placed_start : Placed (rows_from n t rights places indices w 0 0) 0
  placed_start = subst (λ (u : List ℕ). Placed u 0) (sym (rows_zero n t rights places indices w 0)) placed_none

  placed_next : (r z : ℕ) → z ≡ r → r < 256 → Placed (rows_from n t rights places indices w 0 r) r →
      Placed (row_by (bit_at rights z) n t places indices (n + bit_rank rights z) z (rows_from n t rights places indices w 0 r)) (suc r)
  placed_next r z e l h =
      subst (λ (x : ℕ). Placed (row_by (bit_at rights x) n t places indices (n + bit_rank rights x) x (rows_from n t rights places indices w 0 r)) (suc r)) (sym e)
      (placed-more (rows_from n t rights places indices w 0 r) r h l)

  placed_suc : (r : ℕ) → r < 256 → Placed (rows_from n t rights places indices w 0 r) r → Placed (rows_from n t rights places indices w 0 (suc r)) (suc r)
  placed_suc r l h =
      subst (λ (u : List ℕ). Placed u (suc r)) (sym (rows_suc n t rights places indices w 0 r)) (placed_next r (0 + r) (omega arith) l h)

  placed : (r : ℕ) → r ≤ 256 → Placed (rows_from n t rights places indices w 0 r) r
  placed zero l = placed_start
  placed (suc r) l = placed_suc r l (placed r (omega arith))

  -- the order, once all characters are passed
  module _ (v : List ℕ) (h : Placed v 256) where
    order-written : OrderWritten n order h.rows h.mid v m
    order-written =
        record {
          same_length = h.same_length;
          kept = h.kept;
          before = λ k l. h.elsewhere k (λ q i p e. omega arith);
          after = λ k l. h.elsewhere k (λ q i p e. omega (arith, (at_place q i p).0));
          written = λ j l.
              let q = get_or order j 0 in
              ap (λ (x : ℕ). at v (n + x) 15) (sym (b.place j l))
              ∙ h.turned q (o.right j l) (o.ruled j l)
              ∙ sym (h.appended.row q (o.right j l));
        }

-- ---- one left more

module _ (s table : List ℤ) (t n m cap entry : ℕ) (places₀ indices₀ places indices rights w : List ℕ) (a : Adding s table t n cap w)
    (word : Word (left_entry_of table (left_of t)) entry) (there : entry < 2147483648) (y : Surveys s entry places₀ indices₀ places indices rights m) where
  pub adds_left : (v : List ℕ) → m ≤ cap - n → v ≡ rows_from n t rights places indices w 0 256 → Adds s table t n cap (n + m) w v
  adds_left v h e =
      let room : 16 * (n + m) ≤ length w = omega (arith, a.room, a.fits) in
      let few : n + 256 ≤ 65792 = omega (arith, a.gathered.few, a.a_left) in
      let p = placed t n y.first y.order places₀ indices₀ places indices rights m y.surveyed.ordered y.tabled
      (λ q. omega (arith, y.inside q, a.short)) w room few 256 (omega arith) in
      let z = order-written t n y.first y.order places₀ indices₀ places indices rights m y.surveyed.ordered y.tabled
      (λ q. omega (arith, y.inside q, a.short)) w room few (rows_from n t rights places indices w 0 256) p in
      rw e
      (adds_some s table t n m cap entry y.first y.order w a word there y.surveyed p.rows p.mid (rows_from n t rights places indices w 0 256)
      h p.appended z)
