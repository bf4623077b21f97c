-- A step that looks nothing up gives the first of the nodes that remain: an op, a last ligature, or the end.
-- Assumes nothing.
use mathlib.Core.Path.{◌≡◌, refl, sym, ap, ◌∙◌}
use mathlib.Core.Bool.{Bool, true, false, cond}
use mathlib.Core.List.{List, [], ◌∷◌, ◌++◌}
use mathlib.Core.Option.{Option}
use Prim.Native.Nat.{ℕ, zero, suc, ◌+◌, ◌-◌, ◌≤◌}
use native.Mathlib.Omega.{arith}
use lib.IntN.{ℤ, pos, negsuc}
use lib.Dec.{leb, ltb, eqb}
use lib.ListN.{length, take, drop}
use borrow.Author.Tests.{le-leb, leb-true, ne_eqb, eqb-true, eqb-false}
use Rattle.words.specs.Words.{word_of}
use Rattle.lang.specs.Every.{both, every}
use Rattle.lang.specs.Records.{within}
use Rattle.lang.proofs.Every.{every_at, both_right}
use Rattle.reading.specs.Items.{plain, inserted, Out, glyph, kern}
use Rattle.reading.specs.Form.{no_plain}
use Rattle.reading.specs.Depth.{Finished}
use Rattle.captions.specs.declared.NextLeft.{NextLeft}
use Rattle.captions.specs.declared.NextLeft.TheVariants as next
use Rattle.captions.specs.declared.Consumes.{Consumes}
use Rattle.captions.specs.declared.Consumes.TheVariants as consumes
use Rattle.captions.specs.declared.State.{State}
use Rattle.captions.specs.declared.Step.{Step}
use Rattle.captions.specs.declared.Turned.{Turned}
use Rattle.captions.specs.declared.Answer.{Answer}
use Rattle.captions.specs.declared.Answer.TheVariants.{Char, Ligature, Kern, End}
use Rattle.captions.specs.Tables.{op_count, op_kind, op_value, op_of, ops_from, op_holds, op_fits}
use Rattle.captions.specs.Steps.{ended, left_letters, takes_boundary, is_none, give_item, give_character, give_ligature, ops_fit, read_op, ends_word, step_by}
use Rattle.captions.specs.Queries.{original_of}
use Rattle.captions.proofs.Raising.{has_glyph, plain_first}
use Rattle.captions.proofs.Sound.{state, waiting, mode, Sound}
use Rattle.captions.proofs.Giving.{fit_by}
use Rattle.captions.proofs.Following.{is_now}
use Rattle.captions.proofs.Turning.{clear}
use Rattle.main_loops.specs.Nodes.{Node, char_node, kern_node, ligature_node}
use Rattle.main_loops.specs.Loop.{subtype_of}
use Rattle.main_loop_pairs.proofs.Held.{hold, none_own, short, give_all}
use Rattle.main_loop_runs.proofs.Remaining.{takes_b, own_run, held_run, next_nodes, remaining, first_node, answer_nodes, ClearB, remains, Makes}

no : {A : Type 0} → ◌≡◌ {A = Bool} false true → A
no e = absurd (let z : ◌≡◌ {A = ℕ} 0 1 = cc in omega arith)

-- ---- the last ligature of a word, by its ops

short_two : (x y : Out) (os : List Out) → short (x ∷ (y ∷ os)) ≡ false
short_two (glyph i) y os = refl
short_two (kern k) y os = refl

-- of one op: a kern
kern_by_lem : (kind value : ℤ) (a b : Bool) → eqb (word_of kind) 0 ≡ a → eqb (word_of kind) 1 ≡ b →
    cond (within 1 kind) (within 255 value) (eqb (word_of kind) 2) ≡ true →
    eqb (word_of kind) 2 ≡ short (cond a (glyph (plain (word_of value))) (cond b (glyph (inserted (word_of value))) (kern value)) ∷ [])
kern_by_lem kind value true b e f h = rw (eqb-true (word_of kind) 0 e) refl
kern_by_lem kind value false true e f h = rw (eqb-true (word_of kind) 1 f) refl
kern_by_lem (pos k) value false false e f h = by (leb k 1) refl
  where
    by : (t : Bool) → leb k 1 ≡ t → eqb k 2 ≡ true
    by true t = absurd (not-one k (leb-true k 1 t) (eqb-false k 0 e) (eqb-false k 1 f))
      where
        not-one : (j : ℕ) → j ≤ 1 → (j ≡ 0 → ⊥) → (j ≡ 1 → ⊥) → ⊥
        not-one j l p q = omega (arith, p, q)
    by false t = rw t at h
kern_by_lem (negsuc k) value false false e f h = h

ends_short : (ops : List ℤ) (o m : ℕ) → every (op_count ops) (op_fits ops) ≡ true → o + m ≤ op_count ops →
    cond (eqb m 0) true (both (eqb m 1) (eqb (word_of (op_kind ops o)) 2)) ≡ short (ops_from ops o m)
unfolding ops_from
ends_short ops o zero h u = refl
ends_short ops o (suc zero) h u =
    kern_by_lem (op_kind ops o) (op_value ops o) (eqb (word_of (op_kind ops o)) 0) (eqb (word_of (op_kind ops o)) 1) refl refl
    (both_right (ltb o (op_count ops)) (op_holds ops o) (every_at (op_count ops) o (op_fits ops) h (omega arith)))
ends_short ops o (suc (suc m)) h u =
    rw (ne_eqb (suc (suc m)) 0 (λ e. omega (arith, e)), ne_eqb (suc (suc m)) 1 (λ e. omega (arith, e)))
    (sym (short_two (op_of (op_kind ops o) (op_value ops o)) (op_of (op_kind ops (suc o)) (op_value ops (suc o))) (ops_from ops (suc (suc o)) m)))

module _ (table : Finished) (right : Option ℕ) (word : List ℕ) (ops : List ℤ) where
  pub original_is : (g w : ℕ) → g + w ≤ length word → original_of word g w ≡ take w (drop g word)
  original_is g w h = rw (le-leb (g + w) (length word) h) refl

  -- an item that takes in what is there; no op after it is plain
  pub makes_item : (n : NextLeft) (o m r g p : ℕ) (b : Bool) (k : Consumes) (a : Answer) (w : ℕ) (v : Node) (all : List Node) → (a ≡ End → ⊥) →
      answer_nodes table right word a ≡ v ∷ [] → g + w ≤ r →
      all ≡ next_nodes table right word n r (give_all (is_none n) (hold (v ∷ []) none_own [] false) (ops_from ops o m)) →
      Makes table right word ops all (give_item a w (state n o m r g p b k))
  makes_item n o m r g p b k a w v all z e l i =
      rw (le-leb (g + w) r l)
      record {
        gives =
            i ∙ first_node table right word n r v none_own [] false (ops_from ops o m)
            ∙ ap (λ (ms : List Node). ms ++ remaining table right word n r (g + w) 0 false consumes.Nothing (ops_from ops o m)) (sym e);
        ends = λ q. absurd (z q);
        clears = refl;
      }

  -- ---- an op

  plain_op : (n : NextLeft) (o m r g p : ℕ) (b : Bool) (k : Consumes) (c : ℕ) →
      Sound ops word (state n o (suc m) r g p b k) (glyph (plain c) ∷ ops_from ops (suc o) m) → ClearB table right word p b →
      Makes table right word ops (remaining table right word n r g p b k (glyph (plain c) ∷ ops_from ops (suc o) m)) (give_character c (state n
      (suc o) m r g p b k))
  unfolding no_plain plain_first has_glyph give_all
  plain_op n o m r g zero b consumes.Nothing c s l = no s.holds
  plain_op n o m r g zero b consumes.Letter c s l =
      makes_item n (suc o) m r g 0 b consumes.Letter (Char c g) 1 (char_node c) _ (λ e. let z : ◌≡◌ {A =
      ℕ} 0 1 = cc in omega arith) refl (omega (arith, s.counted)) refl
  plain_op n o m r g zero b consumes.Boundary c s l = no s.holds
  plain_op n o m r g (suc p) b consumes.Nothing c s l =
      rw (ne_eqb (suc p) 0 (λ e. omega (arith, e)))
      (makes_item n (suc o) m r g (suc p) b consumes.Nothing (Ligature c g (suc p) b false) (suc p) (ligature_node c (take (suc p) (drop g word))
      (subtype_of b false)) _
      (λ e. let z : ◌≡◌ {A = ℕ} 0 1 = cc in omega arith)
      (ap (λ (ls : List ℕ). ligature_node c ls (subtype_of b false) ∷ []) (original_is g (suc p) (omega (arith, s.counted, s.inside))))
      (omega (arith, s.counted)) refl)
  plain_op n o m r g (suc p) b consumes.Letter c s l = no s.holds
  plain_op n o m r g (suc p) b consumes.Boundary c s l = no s.holds

  -- a ligature that takes in the left
  makes_ligature : (n : NextLeft) (o m r g p : ℕ) (b : Bool) (k : Consumes) (c : ℕ) (e : Bool) (all : List Node) → g + (p + left_letters k) ≤ r →
      r ≤ length word →
      all ≡ next_nodes table right word n r
      (give_all (is_none n) (hold (ligature_node c (take (p + left_letters k) (drop g word)) (subtype_of (takes_b b k) e) ∷ []) none_own [] false) (ops_from ops o m)) →
      Makes table right word ops all (give_ligature c e (state n o m r g p b k))
  makes_ligature n o m r g p b k c e all l i q =
      makes_item n o m r g p b k (Ligature c g (p + left_letters k) (takes_b b k) e) (p + left_letters k)
      (ligature_node c (take (p + left_letters k) (drop g word)) (subtype_of (takes_b b k) e)) all (λ d. let z : ◌≡◌ {A = ℕ} 0 1 = cc in omega arith)
      (ap (λ (ls : List ℕ). ligature_node c ls (subtype_of (takes_b b k) e) ∷ []) (original_is g (p + left_letters k) (omega arith))) l q

  ligature_op : (n : NextLeft) (o m r g p : ℕ) (b : Bool) (k : Consumes) (c : ℕ) → every (op_count ops) (op_fits ops) ≡ true →
      Sound ops word (state n o (suc m) r g p b k) (glyph (inserted c) ∷ ops_from ops (suc o) m) →
      Makes table right word ops (remaining table right word n r g p b k (glyph (inserted c) ∷ ops_from ops (suc o) m))
      (give_ligature c (ends_word ops (state n (suc o) m r g p b k)) (state n (suc o) m r g p b k))
  unfolding give_all
  ligature_op n o m r g p b k c h s =
      makes_ligature n (suc o) m r g p b k c (ends_word ops (state n (suc o) m r g p b k)) _ (omega (arith, s.counted)) s.inside
      (ap (λ (e : Bool). next_nodes table right word n r
      (give_all (is_none n) (hold (ligature_node c (take (p + left_letters k) (drop g word)) (subtype_of (takes_b b k) (both (is_none n) e)) ∷ []) none_own [] false)
      (ops_from ops (suc o) m))) (sym (ends_short ops (suc o) m h (omega (arith, s.among)))))

  kern_op_lem : (n : NextLeft) (o m r g p : ℕ) (b : Bool) (k : Consumes) (z : ℤ) → ClearB table right word p b →
      Makes table right word ops (remaining table right word n r g p b k (kern z ∷ ops_from ops (suc o) m))
      (record { answer = Kern z; state = state n (suc o) m r g p b k })
  unfolding give_all
  kern_op_lem n o m r g p b k z l =
      record {
        gives =
            first_node table right word n r (kern_node z) (own_run table right word g p b) (take (p + left_letters k) (drop g word)) (takes_b b k)
            (ops_from ops (suc o) m);
        ends = λ e. absurd (let q : ◌≡◌ {A = ℕ} 0 1 = cc in omega arith);
        clears = l;
      }

  -- by kind
  op_by : (n : NextLeft) (o m r g p : ℕ) (b : Bool) (k : Consumes) (c : ℕ) (z : ℤ) (x y : Bool) → every (op_count ops) (op_fits ops) ≡ true →
      Sound ops word (state n o (suc m) r g p b k) (cond x (glyph (plain c)) (cond y (glyph (inserted c)) (kern z)) ∷ ops_from ops (suc o) m) →
      ClearB table right word p b →
      Makes table right word ops
      (remaining table right word n r g p b k (cond x (glyph (plain c)) (cond y (glyph (inserted c)) (kern z)) ∷ ops_from ops (suc o) m))
      (cond x (give_character c (state n (suc o) m r g p b k))
      (cond y (give_ligature c (ends_word ops (state n (suc o) m r g p b k)) (state n (suc o) m r g p b k))
      (record { answer = Kern z; state = state n (suc o) m r g p b k })))
  op_by n o m r g p b k c z true y h s l = plain_op n o m r g p b k c s l
  op_by n o m r g p b k c z false true h s l = ligature_op n o m r g p b k c h s
  op_by n o m r g p b k c z false false h s l = kern_op_lem n o m r g p b k z l

  makes_op : (n : NextLeft) (o m r g p : ℕ) (b : Bool) (k : Consumes) → every (op_count ops) (op_fits ops) ≡ true →
      Sound ops word (state n o (suc m) r g p b k) (ops_from ops o (suc m)) → ClearB table right word p b →
      Makes table right word ops (remaining table right word n r g p b k (ops_from ops o (suc m))) (read_op ops (state n o (suc m) r g p b k))
  unfolding ops_from
  makes_op n o m r g p b k h s l =
      let f : ops_fit ops (state n o (suc m) r g p b k) ≡ true = fit_by ops word o m h s.among (leb 2 (suc m)) refl in
      let d : suc m - 1 ≡ m = omega arith in
      rw (f, d)
      (op_by n o m r g p b k (word_of (op_value ops o)) (op_value ops o) (eqb (word_of (op_kind ops o)) 0) (eqb (word_of (op_kind ops o)) 1) h s l)

  -- ---- what is given at once

  pub makes_now : every (op_count ops) (op_fits ops) ≡ true → (look : NextLeft → State → Turned) (go : State → Step) (n : NextLeft) (o m r g p : ℕ) (b : Bool)
      (k : Consumes) → is_now m n ≡ true → Sound ops word (state n o m r g p b k) (ops_from ops o m) → ClearB table right word p b →
      Makes table right word ops (remaining table right word n r g p b k (ops_from ops o m)) (step_by ops look go (state n o m r g p b k))
  unfolding ops_from give_all
  makes_now h look go n o (suc m) r g p b k e s l =
      let t : eqb (suc m) 0 ≡ false = ne_eqb (suc m) 0 (λ q. omega (arith, q)) in
      rw t (makes_op n o m r g p b k h s l)
  makes_now h look go next.Boundary o zero r g p b k e s l = no e
  makes_now h look go (next.Char c) o zero r g p b k e s l = no e
  makes_now h look go (next.Lig c) o zero r g p b k e s l = no e
  makes_now h look go (next.FinalLig c) o zero r g p b k e s l =
      makes_ligature next.None o 0 r g p b k c true _ (omega (arith, s.counted)) s.inside refl
  makes_now h look go next.None o zero r g p b k e s l = record { gives = refl; ends = λ _. refl; clears = l }
