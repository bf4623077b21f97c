-- A step that looks nothing up gives what the plain run gives: an op, a last ligature, or the end.
-- Assumes nothing.
use mathlib.Core.Path.{◌≡◌, refl}
use mathlib.Core.Bool.{Bool, true, false, cond}
use mathlib.Core.List.{List, ◌∷◌}
use Prim.Native.Nat.{ℕ, zero, suc, ◌+◌, ◌-◌, ◌≤◌}
use native.Mathlib.Omega.{arith}
use lib.IntN.{ℤ}
use lib.Dec.{leb, eqb}
use lib.ListN.{length, drop}
use borrow.Author.Tests.{le-leb, leb-true, ne_eqb}
use Rattle.words.specs.Words.{word_of}
use Rattle.lang.specs.Every.{both, every}
use Rattle.lang.proofs.Every.{every_at}
use Rattle.reading.specs.Items.{plain, inserted, Out, glyph, kern}
use Rattle.reading.specs.Form.{no_plain}
use Rattle.reading.specs.Run as plainly
use Rattle.captions.specs.declared.NextLeft.{NextLeft}
use Rattle.captions.specs.declared.Consumes.{Consumes}
use Rattle.captions.specs.declared.Consumes.TheVariants as consumes
use Rattle.captions.specs.declared.Answer.{Answer}
use Rattle.captions.specs.declared.Answer.TheVariants.{Char, Ligature, Kern}
use Rattle.captions.specs.Tables.{op_count, op_kind, op_value, ops_from, op_fits}
use Rattle.captions.specs.Steps.{left_letters, takes_boundary, give_item, give_character, give_ligature, ops_fit, read_op, ends_word, next_fits}
use Rattle.captions.specs.Runs.{shows, shown}
use Rattle.captions.proofs.Raising.{raise_first, raise_none, has_glyph, plain_first}
use Rattle.captions.proofs.Sound.{state, is_pending, waiting, mode, next_of, Sound, Follows}

no : {A : Type 0} → ◌≡◌ {A = Bool} false true → A
no e = absurd (let z : ◌≡◌ {A = ℕ} 0 1 = cc in omega arith)

pub both_first : (a b : Bool) → both a b ≡ true → a ≡ true
both_first true b h = refl
both_first false b h = no h

module _ (ops : List ℤ) (word : List ℕ) where
  -- an item that takes in what is there: it is given, and the ops after it have no plain character
  gives_item_lem : (n : NextLeft) (o m r g p : ℕ) (b : Bool) (k : Consumes) (a : Answer) (w : ℕ) (x : Out) →
      shown a ≡ shows x → r ≤ length word → g + w + waiting n ≡ r → o + m ≤ op_count ops → next_fits n ≡ true → no_plain (ops_from ops o m) ≡ true →
      Follows ops word (give_item a w (state n o m r g p b k)) (plainly.given (x ∷ ops_from ops o m) (next_of n) (drop r word))
  gives_item_lem n o m r g p b k a w x e i c u f h =
      let t : leb (g + w) r ≡ true = le-leb (g + w) r (omega arith) in
      rw t
      record {
        answers = e;
        leaves = rw (raise_none (ops_from ops o m)) refl;
        sound = record { inside = i; counted = omega arith; among = u; fits = f; holds = h };
      }

  -- ---- the left as it stands, before ops os that hold no plain character

  abbrev Before : NextLeft → ℕ → ℕ → ℕ → ℕ → Type 0
  Before n o m r g = (r ≤ length word) × (o + m ≤ op_count ops) × (next_fits n ≡ true) × (no_plain (ops_from ops o m) ≡ true)

  -- a character whose letter is there to be given
  pub gives_letter : (n : NextLeft) (o m r g : ℕ) (b : Bool) (k : Consumes) (c : ℕ) → Before n o m r g → g + 1 + waiting n ≡ r →
      Follows ops word (give_character c (state n o m r g 0 b k)) (plainly.given (glyph (plain c) ∷ ops_from ops o m) (next_of n) (drop r word))
  gives_letter n o m r g b k c s h = gives_item_lem n o m r g 0 b k (Char c g) 1 (glyph (plain c)) refl s.0 h s.1 s.2 s.3

  -- the ligature that is pending
  pub gives_pending : (n : NextLeft) (o m r g p : ℕ) (b : Bool) (k : Consumes) (c : ℕ) → Before n o m r g → g + suc p + waiting n ≡ r →
      Follows ops word (give_character c (state n o m r g (suc p) b k)) (plainly.given (glyph (inserted c) ∷ ops_from ops o m) (next_of n) (drop r word))
  gives_pending n o m r g p b k c s h =
      let t : eqb (suc p) 0 ≡ false = ne_eqb (suc p) 0 (λ e. omega (arith, e)) in
      rw t
      (gives_item_lem n o m r g (suc p) b k (Ligature c g (suc p) b false) (suc p) (glyph (inserted c)) refl s.0 h s.1 s.2 s.3)

  -- a ligature that takes in the left
  pub gives_ligature : (n : NextLeft) (o m r g p : ℕ) (b : Bool) (k : Consumes) (c : ℕ) (e : Bool) → Before n o m r g →
      g + (p + left_letters k) + waiting n ≡ r →
      Follows ops word (give_ligature c e (state n o m r g p b k)) (plainly.given (glyph (inserted c) ∷ ops_from ops o m) (next_of n) (drop r word))
  gives_ligature n o m r g p b k c e s h =
      gives_item_lem n o m r g p b k (Ligature c g (p + left_letters k) (takes_boundary (state n o m r g p b k)) e) (p + left_letters k) (glyph (inserted c)) refl
      s.0 h s.1 s.2 s.3

  -- ---- an op

  -- after a ligature op there is no plain one
  pub after_ligature : (p : ℕ) (k : Consumes) (c : ℕ) (os : List Out) (n : NextLeft) → mode p k (glyph (inserted c) ∷ os) n ≡ true → no_plain os ≡ true
  unfolding no_plain plain_first has_glyph
  after_ligature zero consumes.Nothing c os n h = h
  after_ligature zero consumes.Letter c os n h = both_first (no_plain os) _ h
  after_ligature zero consumes.Boundary c os n h = h
  after_ligature (suc p) consumes.Nothing c os n h = both_first (no_plain os) _ h
  after_ligature (suc p) consumes.Letter c os n h = no h
  after_ligature (suc p) consumes.Boundary c os n h = no h

  after_kern : (p : ℕ) (k : Consumes) (z : ℤ) (os : List Out) (n : NextLeft) → mode p k (kern z ∷ os) n ≡ true → mode p k os n ≡ true
  unfolding no_plain plain_first has_glyph
  after_kern zero consumes.Nothing z os n h = h
  after_kern zero consumes.Letter z os n h = h
  after_kern zero consumes.Boundary z os n h = h
  after_kern (suc p) consumes.Nothing z os n h = h
  after_kern (suc p) consumes.Letter z os n h = h
  after_kern (suc p) consumes.Boundary z os n h = h

  plain_op : (n : NextLeft) (o m r g p : ℕ) (b : Bool) (k : Consumes) (c : ℕ) →
      Sound ops word (state n o (suc m) r g p b k) (glyph (plain c) ∷ ops_from ops (suc o) m) →
      Follows ops word (give_character c (state n (suc o) m r g p b k))
      (plainly.given (raise_first (is_pending p) (glyph (plain c) ∷ ops_from ops (suc o) m)) (next_of n) (drop r word))
  unfolding no_plain plain_first has_glyph raise_first
  plain_op n o m r g zero b consumes.Nothing c s = no s.holds
  plain_op n o m r g zero b consumes.Letter c s =
      gives_letter n (suc o) m r g b consumes.Letter c (s.inside, omega (arith, s.among), s.fits, both_first _ _ s.holds) (omega (arith, s.counted))
  plain_op n o m r g zero b consumes.Boundary c s = no s.holds
  plain_op n o m r g (suc p) b consumes.Nothing c s =
      gives_pending n (suc o) m r g p b consumes.Nothing c (s.inside, omega (arith, s.among), s.fits, both_first _ _ s.holds) (omega (arith, s.counted))
  plain_op n o m r g (suc p) b consumes.Letter c s = no s.holds
  plain_op n o m r g (suc p) b consumes.Boundary c s = no s.holds

  ligature_op : (n : NextLeft) (o m r g p : ℕ) (b : Bool) (k : Consumes) (c : ℕ) (e : Bool) →
      Sound ops word (state n o (suc m) r g p b k) (glyph (inserted c) ∷ ops_from ops (suc o) m) →
      Follows ops word (give_ligature c e (state n (suc o) m r g p b k))
      (plainly.given (raise_first (is_pending p) (glyph (inserted c) ∷ ops_from ops (suc o) m)) (next_of n) (drop r word))
  unfolding raise_first
  ligature_op n o m r g zero b k c e s =
      gives_ligature n (suc o) m r g zero b k c e (s.inside, omega (arith, s.among), s.fits, after_ligature zero k c _ n s.holds) s.counted
  ligature_op n o m r g (suc p) b k c e s =
      gives_ligature n (suc o) m r g (suc p) b k c e (s.inside, omega (arith, s.among), s.fits, after_ligature (suc p) k c _ n s.holds) s.counted

  kern_op_lem : (n : NextLeft) (o m r g p : ℕ) (b : Bool) (k : Consumes) (z : ℤ) → Sound ops word (state n o (suc m) r g p b k) (kern z ∷ ops_from ops (suc o) m) →
      Follows ops word (record { answer = Kern z; state = state n (suc o) m r g p b k })
      (plainly.given (raise_first (is_pending p) (kern z ∷ ops_from ops (suc o) m)) (next_of n) (drop r word))
  unfolding raise_first
  kern_op_lem n o m r g p b k z s =
      record {
        answers = refl;
        leaves = refl;
        sound = record { inside = s.inside; counted = s.counted; among = omega (arith, s.among); fits = s.fits; holds = after_kern p k z _ n s.holds };
      }

  -- by kind
  op_by : (n : NextLeft) (o m r g p : ℕ) (b : Bool) (k : Consumes) (c : ℕ) (z : ℤ) (e x y : Bool) →
      Sound ops word (state n o (suc m) r g p b k) (cond x (glyph (plain c)) (cond y (glyph (inserted c)) (kern z)) ∷ ops_from ops (suc o) m) →
      Follows ops word
      (cond x (give_character c (state n (suc o) m r g p b k))
      (cond y (give_ligature c e (state n (suc o) m r g p b k)) (record { answer = Kern z; state = state n (suc o) m r g p b k })))
      (plainly.given (raise_first (is_pending p) (cond x (glyph (plain c)) (cond y (glyph (inserted c)) (kern z)) ∷ ops_from ops (suc o) m)) (next_of n)
      (drop r word))
  op_by n o m r g p b k c z e true y s = plain_op n o m r g p b k c s
  op_by n o m r g p b k c z e false true s = ligature_op n o m r g p b k c e s
  op_by n o m r g p b k c z e false false s = kern_op_lem n o m r g p b k z s

  -- both ops that are read are ops
  pub fit_by : (o m : ℕ) → every (op_count ops) (op_fits ops) ≡ true → o + suc m ≤ op_count ops → (t : Bool) → leb 2 (suc m) ≡ t →
      both (op_fits ops o) (cond t (op_fits ops (suc o)) true) ≡ true
  fit_by o m h u true e =
      let l : 2 ≤ suc m = leb-true 2 (suc m) e in
      rw (every_at (op_count ops) o (op_fits ops) h (omega arith), every_at (op_count ops) (suc o) (op_fits ops) h (omega arith)) refl
  fit_by o m h u false e = rw (every_at (op_count ops) o (op_fits ops) h (omega arith)) refl

  pub gives_op : (n : NextLeft) (o m r g p : ℕ) (b : Bool) (k : Consumes) → every (op_count ops) (op_fits ops) ≡ true →
      Sound ops word (state n o (suc m) r g p b k) (ops_from ops o (suc m)) →
      Follows ops word (read_op ops (state n o (suc m) r g p b k)) (plainly.given (raise_first (is_pending p) (ops_from ops o (suc m))) (next_of n) (drop r word))
  unfolding ops_from
  gives_op n o m r g p b k h s =
      let f : ops_fit ops (state n o (suc m) r g p b k) ≡ true = fit_by o m h s.among (leb 2 (suc m)) refl in
      let d : suc m - 1 ≡ m = omega arith in
      rw (f, d)
      (op_by n o m r g p b k (word_of (op_value ops o)) (op_value ops o) (ends_word ops (state n (suc o) m r g p b k)) (eqb (word_of (op_kind ops o)) 0)
      (eqb (word_of (op_kind ops o)) 1) s)
