-- The rows of a font whose loops are listed, once their ops are counted: op counts, then first ops, each pass keeping what the next one needs.
-- Assumes nothing.
use mathlib.Core.Path.{◌≡◌, refl, sym, ap, ◌∙◌}
use mathlib.Core.Bool.{Bool, true, false, cond}
use mathlib.Core.List.{List, [], ◌∷◌}
use Prim.Native.Nat.{ℕ, zero, suc, ◌*◌, ◌/◌, ◌<◌, ◌≤◌, min}
use native.Mathlib.Omega.{arith}
use lib.IntN.{ℤ, pos}
use lib.Dec.{leb}
use lib.ListN.{length, replicate}
use borrow.Author.Tests.{leb-true, leb-false, le-leb, lt-leb}
use Rattle.words.proofs.Lists.{tabulate_ext}
use Rattle.lang.specs.Every.{both}
use Rattle.lang.specs.Checks.{or_else}
use Rattle.lang.specs.Answers.{reply_of}
use Rattle.lang.proofs.Refusals.{or_else_assoc, taken_reply, refused_reply}
use Rattle.reading.specs.Loops.{finished}
use Rattle.fonts.specs.Fonts.{Font, pairs_of}
use Rattle.fonts.specs.Numbers.{ops_before}
use Rattle.fonts.specs.Compiled.{Room, total_ops, loops_of_font, table_pairs, all_scale, long_refusal, build_refusal}
use Rattle.fonts.proofs.Replies.{values_known, number_known, taken_unlike}
use Rattle.compiling.specs.declared.WalkedFont.TheVariants as walked
use Rattle.compiling.specs.declared.CountedFont.{CountedFont}
use Rattle.compiling.specs.declared.CountedFont.TheVariants.{Sizes, Refused}
use Rattle.compiling.specs.Rows.{at, pair_at, Encoded}
use Rattle.compiling.specs.SettledRows.{Settled}
use Rattle.compiling.specs.OpRows.{capped, op_total, Counts, Exact, Firsts}
use Rattle.compiling.proofs.RowLaws.{SameRules, Keeps, keeps_rules, only_keeps, settled_kept, encoded_same, rules_same, pairs_same, pair_same}
use Rattle.compiling.proofs.FieldLaws.{total_same}
use Rattle.compiling.proofs.LoopLaws.{listed_pair, listed_count}
use Rattle.compiling.proofs.TableCount.{finished_count}
use Rattle.compile_prepare.specs.Prepares.{prepare_refusal}
use Rattle.compile_loops.specs.FindsLoops.{FontWalked, FindsLoopsBy}
use Rattle.compile_op_counts.specs.Counting.{sizes_refusal, FontCounted, MeasuresBy, CountsBy, counted_reply, CountsFont}
use Rattle.compile_op_counts.proofs.Totals.{count_same, capped_small, row_of_total, capped_refusal}

-- ---- one pass after the other

module _ (f : Font) (n m r : ℕ) (w : List ℕ) (g : FontWalked f w n m r) where
  total_is : op_total n w ≡ total_ops f
  total_is =
      let p = g.pairs_are in
      let q = g.rules_are in
      let k = g.count_is in
      λ i. ops_before (finished (q i) (p i)) (p i) (k i)

  module _ (total : ℕ) (w₁ : List ℕ) (ct : Counts n w w₁ total) where
    keeps₁ : Keeps n w w₁
    keeps₁ = only_keeps w w₁ (λ i h a b. omega arith) ct.only

    rules₁ : SameRules n w w₁
    rules₁ = keeps_rules w w₁ keeps₁

    pub encoded₁ : Encoded n w₁
    encoded₁ = encoded_same n w w₁ rules₁ ct.only.same_length g.encoded

    pub settled₁ : Settled n w₁ w₁ m
    settled₁ = settled_kept n m w w₁ keeps₁ g.settled

    -- what the capped total refuses
    refusal_is : (b : Bool) (opRoom loopRoom : ℕ) →
        sizes_refusal b total r opRoom loopRoom ≡ sizes_refusal b (total_ops f) (length (loops_of_font f)) opRoom loopRoom
    refusal_is b opRoom loopRoom =
        (let t = ct.total ∙ ap capped total_is in let l = listed_count r w g.loops_are in λ i. sizes_refusal b (t i) (l i) opRoom loopRoom)
        ∙ capped_refusal b (total_ops f) (length (loops_of_font f)) opRoom loopRoom

    pub refused : (b : Bool) (opRoom loopRoom k : ℕ) (w₂ : List ℕ) → k ≡ sizes_refusal b total r opRoom loopRoom → (k ≡ 0 → ⊥) → w₂ ≡ replicate (length w) 0 →
        MeasuresBy f b opRoom loopRoom n m r w w₂ (Refused k)
    refused b opRoom loopRoom k w₂ e h z = (sym (e ∙ refusal_is b opRoom loopRoom), positive k h, z)
      where
        positive : (j : ℕ) → (j ≡ 0 → ⊥) → 0 < j
        positive zero i = absurd (i refl)
        positive (suc j) i = omega arith

    -- where nothing is refused, the total is what it says
    small_by : (b : Bool) (x y z : Bool) → or_else (cond b 0 13) (or_else (cond (both x y) 0 14) (cond z 0 15)) ≡ 0 → x ≡ true
    small_by true true y z e = refl
    small_by true false y z e = absurd (omega arith)
    small_by false x y z e = absurd (omega arith)

    module _ (b : Bool) (opRoom loopRoom : ℕ) (none : 0 ≡ sizes_refusal b total r opRoom loopRoom) where
      fits : sizes_refusal b (total_ops f) (length (loops_of_font f)) opRoom loopRoom ≡ 0
      fits = sym (none ∙ refusal_is b opRoom loopRoom)

      small : total_ops f ≤ 2147483647
      small =
          leb-true (total_ops f) 2147483647
          (small_by b (leb (total_ops f) 2147483647) (leb (2 * total_ops f) opRoom) (leb (2 * length (loops_of_font f)) loopRoom) fits)

      total-exact : total ≡ total_ops f
      total-exact = ct.total ∙ ap capped total_is ∙ capped_small (total_ops f) small

      pub exact₁ : Exact n w₁
      exact₁ k h =
          ct.counts k h
          ∙ capped_small _ (omega (arith, row_of_total n w k h, total_is, small))
          ∙ sym (count_same n w w₁ rules₁ k h)

      pub total₁ : op_total n w₁ < 2147483648
      total₁ = omega (arith, total_same n w w₁ rules₁ n, total_is, small)

      module _ (w₂ : List ℕ) (fi : Firsts n w₁ w₂) where
        keeps₂ : Keeps n w₁ w₂
        keeps₂ = only_keeps w₁ w₂ (λ i h a c. omega arith) fi.only

        rules₂ : SameRules n w₁ w₂
        rules₂ = keeps_rules w₁ w₂ keeps₂

        listed : (i : ℕ) → i < r → at w₂ i 8 ≡ at w i 8
        listed i h =
            let l : i < n = omega (arith, g.few) in
            fi.only.same i 8 l (omega arith) (omega arith) ∙ ct.only.same i 8 l (omega arith) (omega arith)

        pair-kept : (i : ℕ) → i < r → pair_at w₂ (at w i 8) ≡ pair_at w (at w i 8)
        pair-kept i h = pair_same w₁ w₂ rules₂ (at w i 8) (g.rows i h) ∙ pair_same w w₁ rules₁ (at w i 8) (g.rows i h)

        left-kept : (i : ℕ) → i < r → at w₂ (at w i 8) 0 ≡ at w (at w i 8) 0
        left-kept i h = rules₂ (at w i 8) 0 (g.rows i h) (omega arith) ∙ rules₁ (at w i 8) 0 (g.rows i h) (omega arith)

        right_kept : (i : ℕ) → i < r → at w₂ (at w i 8) 1 ≡ at w (at w i 8) 1
        right_kept i h = rules₂ (at w i 8) 1 (g.rows i h) (omega arith) ∙ rules₁ (at w i 8) 1 (g.rows i h) (omega arith)

        counted : FontCounted f w₂ n m r
        counted = record {
          ready =
              record {
                encoded = encoded_same n w₁ w₂ rules₂ fi.only.same_length encoded₁;
                settled = settled_kept n m w₁ w₂ keeps₂ settled₁;
                exact = λ k h. fi.only.same k 12 h (omega arith) (omega arith) ∙ exact₁ k h ∙ sym (count_same n w₁ w₂ rules₂ k h);
                firsts = λ k h. fi.firsts k h ∙ sym (total_same n w₁ w₂ rules₂ k);
                few = omega (arith, total_same n w₁ w₂ rules₂ n, total₁);
              };
          pairs_are = pairs_same n w₁ w₂ rules₂ ∙ pairs_same n w w₁ rules₁ ∙ g.pairs_are;
          rules_are = rules_same n w₁ w₂ rules₂ ∙ rules_same n w w₁ rules₁ ∙ g.rules_are;
          count_is = g.count_is;
          loops_are = tabulate_ext r (listed_pair w₂) (listed_pair w) (λ i h. ap (pair_at w₂) (listed i h) ∙ pair-kept i h) ∙ g.loops_are;
          listing =
              record {
                row = λ i h. rw (listed i h) (g.listing.row i h);
                left = λ i h. rw (listed i h, left-kept i h) (g.listing.left i h);
                right = λ i h. rw (listed i h, right_kept i h) (g.listing.right i h);
              };
          few = g.few;
        }

        pub measured : MeasuresBy f b opRoom loopRoom n m r w w₂ (Sizes n m total r)
        measured = (fits, fi.only.same_length ∙ ct.only.same_length, total-exact, refl, counted)

-- ---- a font

-- the cap is both rooms at once
cap_by : (l a b : ℕ) (x y : Bool) → leb l a ≡ x → leb l b ≡ y → leb l (min b a) ≡ both x y
cap_by l a b true true p q = le-leb l (min b a) (omega (arith, leb-true l a p, leb-true l b q))
cap_by l a b true false p q = lt-leb l (min b a) (omega (arith, leb-false l b q))
cap_by l a b false y p q = lt-leb l (min b a) (omega (arith, leb-false l a p))

module _ (f : Font) (room : Room) (w : List ℕ) (long : room.work ≡ length w) where
  abbrev cap : ℕ
  cap = min (room.pairs / 6) (length w / 16)

  abbrev sizes : ℕ
  sizes = sizes_refusal (all_scale f) (total_ops f) (length (loops_of_font f)) room.ops room.loops

  split : build_refusal f room ≡ or_else (prepare_refusal f cap) sizes
  split =
      let l = length (pairs_of f) in
      let e : leb l cap ≡ both (leb l (length w / 16)) (leb l (room.pairs / 6)) = cap_by l (length w / 16) (room.pairs / 6) (leb l (length w / 16))
      (leb l (room.pairs / 6)) refl refl in
      let a : build_refusal f room ≡ or_else (long_refusal f.instructions) (or_else (cond (leb l cap) 0 12) sizes) =
      (λ i. or_else (long_refusal f.instructions) (or_else (cond (both (leb l (long i / 16)) (leb l (room.pairs / 6))) 0 12) sizes))
      ∙ ap (λ (b : Bool). or_else (long_refusal f.instructions) (or_else (cond b 0 12) sizes)) (sym e) in
      a ∙ or_else_assoc (long_refusal f.instructions) (cond (leb l cap) 0 12) sizes

  later : (j : ℕ) → 0 < j → or_else j sizes ≡ j
  later zero i = absurd (omega arith)
  later (suc j) i = refl

  pub unfit : (k : ℕ) (w₁ : List ℕ) → FindsLoopsBy f cap w w₁ (walked.Refused k) → CountsBy f room w w₁ (Refused k)
  unfit k w₁ p = (split ∙ ap (λ (x : ℕ). or_else x sizes) p.0 ∙ later k p.1, p.1, p.2)

  module _ (n m r : ℕ) (b : Bool) (w₁ w₂ : List ℕ) (p : FindsLoopsBy f cap w w₁ (walked.Rows n m r b)) where
    whole : (k : ℕ) → sizes_refusal b (total_ops f) (length (loops_of_font f)) room.ops room.loops ≡ k → build_refusal f room ≡ k
    whole k e =
        split ∙ ap (λ (x : ℕ). or_else x sizes) p.0 ∙ (λ i. sizes_refusal (sym p.2 i) (total_ops f) (length (loops_of_font f)) room.ops room.loops) ∙ e

    pub counts : (c : CountedFont) → MeasuresBy f b room.ops room.loops n m r w₁ w₂ c → CountsBy f room w w₂ c
    counts (Sizes n' m' total r') q = (whole 0 q.0, q.1 ∙ p.1, q.2, omega (arith, q.3, p.3), q.4)
    counts (Refused k) q = (whole k q.0, q.1, q.2 ∙ ap (λ (j : ℕ). replicate j 0) p.1)

-- ---- the contract, from what the answer says

module _ (f : Font) (room : Room) (w w' : List ℕ) where
  -- the values of an answer that is taken
  abbrev replied : List ℤ
  replied = pos (length (pairs_of f)) ∷ pos (table_pairs f) ∷ pos (total_ops f) ∷ pos (length (loops_of_font f)) ∷ []

  pub counted_reply_lem : (c : CountedFont) → CountsBy f room w w' c → counted_reply c ≡ reply_of (build_refusal f room) replied
  counted_reply_lem (Sizes n m total r) d =
      let g = d.4 in
      let x = g.count_is in
      let y = finished_count f n w' g.pairs_are g.rules_are x m g.ready.encoded g.ready.settled in
      let z = d.2 in
      let v = listed_count r w' g.loops_are in
      (λ i. reply_of 0 (pos (x i) ∷ pos (y i) ∷ pos (z i) ∷ pos (v i) ∷ [])) ∙ taken_reply replied d.0
  counted_reply_lem (Refused k) d = refused_reply replied (sym d.0) (λ z. omega (arith, d.1))

  pub counts_font : (c : CountedFont) → CountsBy f room w w' c → CountsFont f room w w' c
  counts_font c d = record { reply = counted_reply_lem c d; rows = d }

-- ---- the answer is known from its reply

pub counted_determined : (a b : CountedFont) → counted_reply a ≡ counted_reply b → a ≡ b
counted_determined (Sizes n m t r) (Sizes n' m' t' r') q = let v = values_known q in cc
counted_determined (Sizes n m t r) (Refused k) q = taken_unlike q
counted_determined (Refused k) (Sizes n m t r) q = taken_unlike (sym q)
counted_determined (Refused j) (Refused k) q = ap Refused (number_known q)
