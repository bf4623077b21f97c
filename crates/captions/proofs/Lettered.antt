-- The letters of the items that steps give: from a sound state a step gives the next letters of the word, and at the end all were given.
-- Assumes nothing.
use mathlib.Core.Path.{◌≡◌, refl, sym, ap, ◌∙◌}
use mathlib.Core.Bool.{Bool, true, false, cond}
use mathlib.Core.List.{List, [], ◌∷◌, ◌++◌, append-nil}
use mathlib.Core.Option.{none, some}
use Prim.Native.Nat.{ℕ, zero, suc, ◌+◌, ◌-◌, ◌≤◌}
use native.Mathlib.Omega.{arith}
use lib.IntN.{ℤ}
use lib.Dec.{leb, eqb}
use lib.ListN.{length, get_or, take, drop}
use lib.Seq.{drop-cons, take-add}
use borrow.Author.Tests.{le-leb, eqb-true, ne_eqb}
use Rattle.words.specs.Words.{word_of}
use Rattle.lang.specs.Every.{every}
use Rattle.reading.specs.Items.{chr, Item, item, plain, inserted, Out, glyph, kern}
use Rattle.reading.specs.Form.{no_plain, ops_form}
use Rattle.captions.specs.declared.NextLeft.{NextLeft}
use Rattle.captions.specs.declared.NextLeft.TheVariants as next
use Rattle.captions.specs.declared.Consumes.{Consumes}
use Rattle.captions.specs.declared.Consumes.TheVariants as consumes
use Rattle.captions.specs.declared.State.{State}
use Rattle.captions.specs.declared.Answer.{Answer}
use Rattle.captions.specs.declared.Answer.TheVariants.{Char, Ligature, Kern, End}
use Rattle.captions.specs.declared.Step.{Step}
use Rattle.captions.specs.declared.Turned.{Turned}
use Rattle.captions.specs.Tables.{op_count, op_kind, op_value, ops_from, op_fits}
use Rattle.captions.specs.Steps.{ended, left_letters, takes_boundary, give_item, give_character, give_ligature, ops_fit, read_op, ends_word, step_by}
use Rattle.captions.specs.Queries.{original_of}
use Rattle.captions.specs.Letters.{answer_letters, item_start}
use Rattle.captions.proofs.Raising.{has_glyph, plain_first}
use Rattle.captions.proofs.Sound.{state, waiting, Sound, ops_of}
use Rattle.captions.proofs.Giving.{both_first, after_ligature, fit_by}
use Rattle.captions.proofs.Following.{is_now}
use Rattle.captions.proofs.Turning.{clear}

no : {A : Type 0} → ◌≡◌ {A = Bool} false true → A
no e = absurd (let z : ◌≡◌ {A = ℕ} 0 1 = cc in omega arith)

pub if_left : (a b : Bool) → cond a b false ≡ true → a ≡ true
if_left true b h = refl
if_left false b h = no h

-- ---- what is known of a state besides

-- every plain character among ops has the code a
unfoldable pub plains_are : ℕ → List Out → Bool
plains_are a [] = true
plains_are a (kern k ∷ os) = plains_are a os
plains_are a (glyph (item true c) ∷ os) = plains_are a os
plains_are a (glyph (item false c) ∷ os) = cond (eqb c a) (plains_are a os) false

pub none_plain : (a : ℕ) (os : List Out) → no_plain os ≡ true → plains_are a os ≡ true
unfolding no_plain plains_are
none_plain a [] h = refl
none_plain a (kern k ∷ os) h = none_plain a os h
none_plain a (glyph (item true c) ∷ os) h = none_plain a os h
none_plain a (glyph (item false c) ∷ os) h = no h

plain_by : (a : ℕ) (os : List Out) (t : Bool) → cond t (no_plain os) false ≡ true → cond t (plains_are a os) false ≡ true
plain_by a os true h = none_plain a os h
plain_by a os false h = no h

-- the only plain op of a pair is its left
pub left_plain : (a : ℕ) (os : List Out) (x : Item) → ops_form (chr a) os x ≡ true → plains_are a os ≡ true
unfolding ops_form plains_are
left_plain a [] x h = refl
left_plain a (kern k ∷ os) x h = left_plain a os x h
left_plain a (glyph (item true c) ∷ os) x h = none_plain a os h
left_plain a (glyph (item false c) ∷ os) x h = plain_by a os (eqb c a) h

-- with r letters read: a next character is the last of them, and at the word's end all were read
abbrev pub Own : List ℕ → ℕ → NextLeft → Type 0
Own word r next.Boundary = Unit {0}
Own word r (next.Char c) = get_or word (r - 1) 0 ≡ c
Own word r (next.Lig c) = Unit {0}
Own word r (next.FinalLig c) = r ≡ length word
Own word r next.None = r ≡ length word

-- a plain character that is to be given, where nothing is pending, is the next letter to be given
abbrev pub Plains : List ℕ → ℕ → ℕ → List Out → Type 0
Plains word zero g os = plains_are (get_or word g 0) os ≡ true
Plains word (suc p) g os = Unit {0}

module _ (ops : List ℤ) (word : List ℕ) where
  pub record Lettered (s : State) (os : List Out) : Type 0 where
    pub own : Own word s.read s.next_left
    pub plains : Plains word s.pending s.given os

  -- of a step, where g letters were given before it
  pub record Keeps (g : ℕ) (t : Step) : Type 0 where
    pub letters : take t.state.given word ≡ take g word ++ answer_letters word t.answer
    pub starts : (p : ℕ) → item_start t.answer ≡ some p → p ≡ g
    pub all_given : t.answer ≡ End → t.state.given ≡ length word
    pub lettered : Lettered t.state (ops_of ops word t.state)

  -- ---- giving

  -- an item whose letters are the next w
  keeps_item : (n : NextLeft) (o m r g p : ℕ) (b : Bool) (k : Consumes) (a : Answer) (w : ℕ) → item_start a ≡ some g →
      answer_letters word a ≡ take w (drop g word) → g + w ≤ r → Own word r n → no_plain (ops_from ops o m) ≡ true →
      Keeps g (give_item a w (state n o m r g p b k))
  keeps_item n o m r g p b k a w e l h q f =
      rw (le-leb (g + w) r h)
      record {
        letters = take-add g w word ∙ ap (λ (ls : List ℕ). take g word ++ ls) (sym l);
        starts = λ i z. cc;
        all_given = λ z. absurd (let u : none ≡ some g = sym (ap item_start z) ∙ e in let v : ◌≡◌ {A = ℕ} 0 1 = cc in omega arith);
        lettered = record { own = q; plains = none_plain (get_or word (g + w) 0) (ops_from ops o m) f };
      }

  -- what an item needs of the state
  abbrev Before : NextLeft → ℕ → ℕ → ℕ → Type 0
  Before n o m r = (r ≤ length word) × Own word r n × (no_plain (ops_from ops o m) ≡ true)

  -- a character that is the next letter
  pub keeps_letter : (n : NextLeft) (o m r g : ℕ) (b : Bool) (k : Consumes) (c : ℕ) → Before n o m r → g + 1 + waiting n ≡ r → get_or word g 0 ≡ c →
      Keeps g (give_character c (state n o m r g 0 b k))
  keeps_letter n o m r g b k c s h e =
      let l : c ∷ [] ≡ take 1 (drop g word) = rw (drop-cons word g 0 (omega (arith, s.0)), e) refl in
      keeps_item n o m r g 0 b k (Char c g) 1 refl l (omega arith) s.1 s.2

  original_is : (g w : ℕ) → g + w ≤ length word → original_of word g w ≡ take w (drop g word)
  original_is g w h = rw (le-leb (g + w) (length word) h) refl

  -- the ligature that is pending
  pub keeps_pending : (n : NextLeft) (o m r g p : ℕ) (b : Bool) (k : Consumes) (c : ℕ) → Before n o m r → g + suc p + waiting n ≡ r →
      Keeps g (give_character c (state n o m r g (suc p) b k))
  keeps_pending n o m r g p b k c s h =
      let t : eqb (suc p) 0 ≡ false = ne_eqb (suc p) 0 (λ e. omega (arith, e)) in
      rw t
      (keeps_item n o m r g (suc p) b k (Ligature c g (suc p) b false) (suc p) refl (original_is g (suc p) (omega (arith, s.0))) (omega arith) s.1 s.2)

  -- a ligature that takes in the left
  pub keeps_ligature : (n : NextLeft) (o m r g p : ℕ) (b : Bool) (k : Consumes) (c : ℕ) (e : Bool) → Before n o m r →
      g + (p + left_letters k) + waiting n ≡ r → Keeps g (give_ligature c e (state n o m r g p b k))
  keeps_ligature n o m r g p b k c e s h =
      keeps_item n o m r g p b k (Ligature c g (p + left_letters k) (takes_boundary (state n o m r g p b k)) e) (p + left_letters k) refl
      (original_is g (p + left_letters k) (omega (arith, s.0))) (omega arith) s.1 s.2

  -- ---- an op

  plain_code : (c : ℕ) (os : List Out) (a : ℕ) → plains_are a (glyph (plain c) ∷ os) ≡ true → a ≡ c
  unfolding plains_are
  plain_code c os a h = sym (eqb-true c a (if_left (eqb c a) (plains_are a os) h))

  plain_op : (n : NextLeft) (o m r g p : ℕ) (b : Bool) (k : Consumes) (c : ℕ) →
      Sound ops word (state n o (suc m) r g p b k) (glyph (plain c) ∷ ops_from ops (suc o) m) →
      Lettered (state n o (suc m) r g p b k) (glyph (plain c) ∷ ops_from ops (suc o) m) → Keeps g (give_character c (state n (suc o) m r g p b k))
  unfolding no_plain plain_first has_glyph
  plain_op n o m r g zero b consumes.Nothing c s l = no s.holds
  plain_op n o m r g zero b consumes.Letter c s l =
      keeps_letter n (suc o) m r g b consumes.Letter c (s.inside, l.own, both_first _ _ s.holds) (omega (arith, s.counted))
      (plain_code c (ops_from ops (suc o) m) (get_or word g 0) l.plains)
  plain_op n o m r g zero b consumes.Boundary c s l = no s.holds
  plain_op n o m r g (suc p) b consumes.Nothing c s l =
      keeps_pending n (suc o) m r g p b consumes.Nothing c (s.inside, l.own, both_first _ _ s.holds) (omega (arith, s.counted))
  plain_op n o m r g (suc p) b consumes.Letter c s l = no s.holds
  plain_op n o m r g (suc p) b consumes.Boundary c s l = no s.holds

  ligature_op : (n : NextLeft) (o m r g p : ℕ) (b : Bool) (k : Consumes) (c : ℕ) (e : Bool) →
      Sound ops word (state n o (suc m) r g p b k) (glyph (inserted c) ∷ ops_from ops (suc o) m) →
      Lettered (state n o (suc m) r g p b k) (glyph (inserted c) ∷ ops_from ops (suc o) m) → Keeps g (give_ligature c e (state n (suc o) m r g p b k))
  ligature_op n o m r g p b k c e s l =
      keeps_ligature n (suc o) m r g p b k c e (s.inside, l.own, after_ligature ops word p k c _ n s.holds) s.counted

  kern_plains : (p g : ℕ) (z : ℤ) (os : List Out) → Plains word p g (kern z ∷ os) → Plains word p g os
  unfolding plains_are
  kern_plains zero g z os h = h
  kern_plains (suc p) g z os h = tt

  kern_op_lem : (n : NextLeft) (o m r g p : ℕ) (b : Bool) (k : Consumes) (z : ℤ) →
      Lettered (state n o (suc m) r g p b k) (kern z ∷ ops_from ops (suc o) m) → Keeps g (record { answer = Kern z; state = state n (suc o) m r g p b k })
  kern_op_lem n o m r g p b k z l =
      record {
        letters = sym (append-nil (take g word));
        starts = λ i e. absurd (let v : ◌≡◌ {A = ℕ} 0 1 = cc in omega arith);
        all_given = λ e. absurd (let v : ◌≡◌ {A = ℕ} 0 1 = cc in omega arith);
        lettered = record { own = l.own; plains = kern_plains p g z (ops_from ops (suc o) m) l.plains };
      }

  -- by kind
  op_by : (n : NextLeft) (o m r g p : ℕ) (b : Bool) (k : Consumes) (c : ℕ) (z : ℤ) (e x y : Bool) →
      Sound ops word (state n o (suc m) r g p b k) (cond x (glyph (plain c)) (cond y (glyph (inserted c)) (kern z)) ∷ ops_from ops (suc o) m) →
      Lettered (state n o (suc m) r g p b k) (cond x (glyph (plain c)) (cond y (glyph (inserted c)) (kern z)) ∷ ops_from ops (suc o) m) →
      Keeps g
      (cond x (give_character c (state n (suc o) m r g p b k))
      (cond y (give_ligature c e (state n (suc o) m r g p b k)) (record { answer = Kern z; state = state n (suc o) m r g p b k })))
  op_by n o m r g p b k c z e true y s l = plain_op n o m r g p b k c s l
  op_by n o m r g p b k c z e false true s l = ligature_op n o m r g p b k c e s l
  op_by n o m r g p b k c z e false false s l = kern_op_lem n o m r g p b k z l

  keeps_op : (n : NextLeft) (o m r g p : ℕ) (b : Bool) (k : Consumes) → every (op_count ops) (op_fits ops) ≡ true →
      Sound ops word (state n o (suc m) r g p b k) (ops_from ops o (suc m)) → Lettered (state n o (suc m) r g p b k) (ops_from ops o (suc m)) →
      Keeps g (read_op ops (state n o (suc m) r g p b k))
  unfolding ops_from
  keeps_op n o m r g p b k h s l =
      let f : ops_fit ops (state n o (suc m) r g p b k) ≡ true = fit_by ops word o m h s.among (leb 2 (suc m)) refl in
      let d : suc m - 1 ≡ m = omega arith in
      rw (f, d)
      (op_by n o m r g p b k (word_of (op_value ops o)) (op_value ops o) (ends_word ops (state n (suc o) m r g p b k)) (eqb (word_of (op_kind ops o)) 0)
      (eqb (word_of (op_kind ops o)) 1) s l)

  -- the end: all was given
  pub keeps_end : (n : NextLeft) (o r g p : ℕ) (b : Bool) (k : Consumes) → r ≡ length word → g ≡ r → Lettered (state n o 0 r g p b k) (ops_from ops o 0) →
      Keeps g (ended (state n o 0 r g p b k))
  keeps_end n o r g p b k e f l =
      record {
        letters = sym (append-nil (take g word));
        starts = λ i z. absurd (let v : ◌≡◌ {A = ℕ} 0 1 = cc in omega arith);
        all_given = λ _. f ∙ e;
        lettered = l;
      }

-- ---- what is given at once

-- where nothing waits and no op is to be given, what was read was given
end_counted : (p g r : ℕ) (k : Consumes) → g + (p + left_letters k) + 0 ≡ r → p + left_letters k ≡ 0 → g ≡ r
end_counted p g r k h e = omega arith

module _ (ops : List ℤ) (word : List ℕ) (fit : every (op_count ops) (op_fits ops) ≡ true) (look : NextLeft → State → Turned) where
  pub keeps_now : (go : State → Step) (n : NextLeft) (o m r g p : ℕ) (b : Bool) (k : Consumes) → is_now m n ≡ true →
      Sound ops word (state n o m r g p b k) (ops_from ops o m) → Lettered ops word (state n o m r g p b k) (ops_from ops o m) →
      Keeps ops word g (step_by ops look go (state n o m r g p b k))
  unfolding ops_from no_plain
  keeps_now go n o (suc m) r g p b k h s l =
      let t : eqb (suc m) 0 ≡ false = ne_eqb (suc m) 0 (λ e. omega (arith, e)) in
      rw t (keeps_op ops word n o m r g p b k fit s l)
  keeps_now go next.Boundary o zero r g p b k h s l = no h
  keeps_now go (next.Char c) o zero r g p b k h s l = no h
  keeps_now go (next.Lig c) o zero r g p b k h s l = no h
  keeps_now go (next.FinalLig c) o zero r g p b k h s l =
      keeps_ligature ops word next.None o 0 r g p b k c true (s.inside, l.own, refl) (omega (arith, s.counted))
  keeps_now go next.None o zero r g p b k h s l =
      keeps_end ops word next.None o r g p b k l.own (end_counted p g r k s.counted (clear p k next.None refl s.holds)) l
