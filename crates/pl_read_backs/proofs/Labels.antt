-- The labels of an instruction, read into the table of 257 places.
-- Assumes nothing.
use mathlib.Core.Path.{◌≡◌, refl, ap, sym, ◌∙◌, subst}
use mathlib.Core.Bool.{Bool, true, false, cond, not}
use mathlib.Core.List.{List, [], ◌∷◌, ◌++◌, append-nil}
use mathlib.Core.Logic.{◌⊎◌, inl, inr}
use mathlib.Core.Option.{Option, none, some}
use Prim.Native.Nat.{ℕ, zero, suc, ◌+◌, ◌*◌, ◌/◌, ◌^◌, ◌<◌, ◌≤◌, min}
use native.Mathlib.Omega.{arith}
use lib.Dec.{leb, ltb, eqb}
use lib.IntN.{ℤ, pos, negsuc}
use lib.ListN.{length, get_or, set, replicate, length-replicate, get_or-replicate, length-set}
use lib.Seq.{get_or-set_same, get_or-set_other, ext_get_or}
use mir.Syntax.{w32}
use mir.Val.{SFits}
use borrow.Author.Tests.{eq-eqb, ne_eqb, eqb-true, eqb-false, lt-ltb, le-ltb, ltb-true, ltb-false, le-leb, lt-leb}
use Rattle.words.specs.Words.{word_of, number_of}
use Rattle.words.specs.Lists.{tabulate}
use Rattle.words.proofs.Bits.{number_word, number_pos}
use Rattle.words.proofs.Lists.{length_tabulate, get_d_tabulate, tabulate_ext, tabulate_constant}
use Rattle.words.proofs.Tests.{less_or_not, same_or_not}
use Rattle.lang.specs.Every.{both}
use Rattle.lang.specs.Checks.{char_at, entry_at}
use Rattle.lang.specs.Entries.{entered, entries_table}
use Rattle.lang.proofs.Tables.{length_entered}
use Rattle.property_lists.specs.declared.Property.{Property}
use Rattle.property_lists.specs.declared.Property.TheVariants as property
use Rattle.property_lists.specs.declared.Progress.{Progress}
use Rattle.property_lists.specs.Chars.{then_by}
use Rattle.property_lists.specs.Displays.{label_line, boundary_label_line, char_labels, label_lines}
use Rattle.property_lists.specs.ListReading.{ListRead, reading_by, progress_by, at_least, has_label, applied}
use Rattle.pl_read_backs.proofs.Texts.{LinesOf, no_lines, one_line, lines_append, label_line_lem, boundary_label_line_lem, applied_all}

-- ---- the places of a table

-- what holds of absence, of each entry and of the left entry holds of every place
module _ (Q : ℤ → Type 0) (absent : Q (negsuc 0)) where
  placed : (l : List ℤ) (i c : ℕ) (v : ℤ) → ((b : ℕ) → b < length l → Q (get_or l b (pos 0))) → Q v → (b : ℕ) → b < length l → Q (get_or (set l i v) b (pos 0))
  placed l i c v h q b k = by (same_or_not b i)
    where
      by : (b ≡ i) ⊎ (b ≡ i → ⊥) → Q (get_or (set l i v) b (pos 0))
      by (inl e) = let g : get_or (set l i v) b (pos 0) ≡ v = rw e (get_or-set_same l i v (pos 0) (rw e at k)) in rw g q
      by (inr n) = rw (get_or-set_other l i b v (pos 0) n) (h b k)

  entered_places : (es : List ℤ) (n : ℕ) → ((i : ℕ) → i < n → Q (entry_at es i)) → (b : ℕ) → b < 257 → Q (get_or (entered es n) b (pos 0))
  unfolding entered
  entered_places es zero h b k = rw (get_or-replicate 257 b (negsuc 0) (pos 0) k) absent
  entered_places es (suc n) h b k =
      let l : length (entered es n) ≡ 257 = length_entered es n in
      placed (entered es n) (word_of (char_at es n)) 0 (entry_at es n) (λ c m. entered_places es n (λ i j. h i (omega arith)) c (omega arith)) (h n
      (omega arith)) b
      (omega arith)

  pub table_places : (es : List ℤ) (left : ℤ) → ((i : ℕ) → i < length es / 2 → Q (entry_at es i)) → Q left → (b : ℕ) → b < 257 →
      Q (get_or (entries_table es left) b (pos 0))
  unfolding entries_table
  table_places es left h q b k =
      let l : length (entered es (length es / 2)) ≡ 257 = length_entered es (length es / 2) in
      placed (entered es (length es / 2)) 256 0 left (λ c m. entered_places es (length es / 2) h c (omega arith)) q b (omega arith)

-- one place set
pub table_set : (f g : ℕ → ℤ) (c : ℕ) (v : ℤ) → c < 257 → g c ≡ v → ((b : ℕ) → b < 257 → (b ≡ c → ⊥) → g b ≡ f b) →
    set (tabulate 257 f) c v ≡ tabulate 257 g
table_set f g c v h e k =
    let l : length (set (tabulate 257 f) c v) ≡ 257 = length-set (tabulate 257 f) c v ∙ length_tabulate 257 f in
    ext_get_or (pos 0) (set (tabulate 257 f) c v) (tabulate 257 g) (l ∙ sym (length_tabulate 257 g)) (λ b m. at b (omega arith) (same_or_not b c))
  where
    at : (b : ℕ) → b < 257 → (b ≡ c) ⊎ (b ≡ c → ⊥) → get_or (set (tabulate 257 f) c v) b (pos 0) ≡ get_or (tabulate 257 g) b (pos 0)
    at b m (inl q) =
        let i : c < length (tabulate 257 f) = rw (length_tabulate 257 f) h in
        rw q (get_or-set_same (tabulate 257 f) c v (pos 0) i ∙ sym e ∙ sym (get_d_tabulate 257 g c (pos 0) h))
    at b m (inr n) =
        get_or-set_other (tabulate 257 f) c b v (pos 0) n ∙ get_d_tabulate 257 f b (pos 0) m ∙ sym (k b m n) ∙ sym (get_d_tabulate 257 g b (pos 0) m)

-- ---- what is set once the instructions below n are read, and of instruction n the labels of the characters below c and, with `edge`, the boundary's

module _ (t : List ℤ) where
  abbrev word : ℕ → ℕ
  word b = word_of (get_or t b (pos 0))

  abbrev pub is_set : ℕ → ℕ → Bool → ℕ → Bool
  is_set n c edge b = cond (ltb (word b) n) true (both (eqb (word b) n) (cond (ltb b c) true (both edge (eqb b 256))))

  abbrev pub place_at : ℕ → ℕ → Bool → ℕ → ℤ
  place_at n c edge b = cond (is_set n c edge b) (get_or t b (pos 0)) (negsuc 0)

  abbrev pub labels_at : ℕ → ℕ → Bool → List ℤ
  labels_at n c edge = tabulate 257 (place_at n c edge)

  same_place : (n c d : ℕ) (edge end : Bool) (b : ℕ) → (word b ≡ n → cond (ltb b c) true (both edge (eqb b 256)) ≡ cond (ltb b d) true (both end (eqb b 256))) →
      place_at n d end b ≡ place_at n c edge b
  same_place n c d edge end b h = by (same_or_not (word b) n)
    where
      by : (word b ≡ n) ⊎ (word b ≡ n → ⊥) → place_at n d end b ≡ place_at n c edge b
      by (inl e) = rw (h e)
      by (inr q) = rw (ne_eqb (word b) n q)

  pub below_same : (b c : ℕ) → (b ≡ c → ⊥) → ltb b c ≡ ltb b (suc c)
  below_same b c n = by (less_or_not b c)
    where
      by : (b < c) ⊎ (c ≤ b) → ltb b c ≡ ltb b (suc c)
      by (inl h) = lt-ltb b c h ∙ sym (lt-ltb b (suc c) (omega arith))
      by (inr h) = le-ltb b c h ∙ sym (le-ltb b (suc c) (omega arith))

  -- a place that is named here and not set yet
  not_yet : (n c : ℕ) (edge : Bool) → word c ≡ n → c < 256 → place_at n c edge c ≡ negsuc 0
  not_yet n c edge e h =
      rw (le-ltb (word c) n (omega arith), eq-eqb (word c) n e, le-ltb c c (omega arith), ne_eqb c 256 (λ q. omega (arith, q))) (by edge)
    where
      by : (x : Bool) → cond (both x false) (get_or t c (pos 0)) (negsuc 0) ≡ negsuc 0
      by true = refl
      by false = refl

  module _ (n c : ℕ) (h : c < 256) where
    pub labels_more : word c ≡ n → get_or t c (pos 0) ≡ pos n → (edge : Bool) → set (labels_at n c edge) c (pos n) ≡ labels_at n (suc c) edge
    labels_more e v edge =
        table_set (place_at n c edge) (place_at n (suc c) edge) c (pos n) (omega arith)
        (rw (le-ltb (word c) n (omega arith), eq-eqb (word c) n e, lt-ltb c (suc c) (omega arith)) v)
        (λ b k q. same_place n c (suc c) edge edge b (λ z. ap (λ (x : Bool). cond x true (both edge (eqb b 256))) (below_same b c q)))

    pub labels_same : (word c ≡ n → ⊥) → (edge : Bool) → labels_at n c edge ≡ labels_at n (suc c) edge
    labels_same q edge =
        tabulate_ext 257 (place_at n c edge) (place_at n (suc c) edge)
        (λ b k. sym (same_place n c (suc c) edge edge b (λ z. ap (λ (x : Bool). cond x true (both edge (eqb b 256))) (below_same b c (λ w. q (rw w at z))))))

    pub no_label : word c ≡ n → (edge : Bool) → has_label c (labels_at n c edge) ≡ false
    no_label e edge =
        let g : get_or (labels_at n c edge) c (pos 0) ≡ negsuc 0 = get_d_tabulate 257 (place_at n c edge) c (pos 0) (omega arith) ∙ not_yet n c edge e h in
        let e : not (eqb (word_of (negsuc 0)) 4294967295) ≡ false = refl in
        ap (λ (z : ℤ). not (eqb (word_of z) 4294967295)) g ∙ e

  pub edge_more : (n : ℕ) → word 256 ≡ n → get_or t 256 (pos 0) ≡ pos n → set (labels_at n 0 false) 256 (pos n) ≡ labels_at n 0 true
  edge_more n e v =
      table_set (place_at n 0 false) (place_at n 0 true) 256 (pos n) (omega arith)
      (rw (le-ltb (word 256) n (omega arith), eq-eqb (word 256) n e) v)
      (λ b k q. same_place n 0 0 false true b (λ z. rw (ne_eqb b 256 q)))

  pub edge_same : (n : ℕ) → (word 256 ≡ n → ⊥) → labels_at n 0 false ≡ labels_at n 0 true
  edge_same n q =
      tabulate_ext 257 (place_at n 0 false) (place_at n 0 true)
      (λ b k. sym (same_place n 0 0 false true b (λ z. by b z (same_or_not b 256))))
    where
      by : (b : ℕ) → word b ≡ n → (b ≡ 256) ⊎ (b ≡ 256 → ⊥) → cond (ltb b 0) true (both false (eqb b 256)) ≡ cond (ltb b 0) true (both true (eqb b 256))
      by b z (inl w) = absurd (q (rw w at z))
      by b z (inr w) = rw (ne_eqb b 256 w)

  pub labels_next : (n : ℕ) → labels_at n 256 true ≡ labels_at (suc n) 0 false
  labels_next n = tabulate_ext 257 (place_at n 256 true) (place_at (suc n) 0 false) (λ b k. at b k (less_or_not (word b) n) (same_or_not (word b) n))
    where
      last : (b : ℕ) → b < 257 → (b < 256) ⊎ (256 ≤ b) → cond (ltb b 256) true (both true (eqb b 256)) ≡ true
      last b k (inl h) = rw (lt-ltb b 256 h)
      last b k (inr h) = rw (le-ltb b 256 h, eq-eqb b 256 (omega arith))

      at : (b : ℕ) → b < 257 → (word b < n) ⊎ (n ≤ word b) → (word b ≡ n) ⊎ (word b ≡ n → ⊥) → place_at n 256 true b ≡ place_at (suc n) 0 false b
      at b k (inl h) u = rw (lt-ltb (word b) n h, lt-ltb (word b) (suc n) (omega arith))
      at b k (inr h) (inl e) =
          rw (le-ltb (word b) n h, lt-ltb (word b) (suc n) (omega arith), eq-eqb (word b) n e, last b k (less_or_not b 256))
      at b k (inr h) (inr q) =
          rw (le-ltb (word b) n h, le-ltb (word b) (suc n) (omega arith), ne_eqb (word b) n q, le-ltb b 0 (omega arith)) (by (eqb (word b) (suc n)))
        where
          by : (x : Bool) → negsuc 0 ≡ cond (both x false) (get_or t b (pos 0)) (negsuc 0)
          by true = refl
          by false = refl

  -- before and after all
  pub labels_none : replicate 257 (negsuc 0) ≡ labels_at 0 0 false
  labels_none = sym (tabulate_constant 257 (negsuc 0)) ∙ tabulate_ext 257 (λ _. negsuc 0) (place_at 0 0 false) (λ b k. by (eqb (word b) 0) b ∙ sym (no_char b))
    where
      by : (x : Bool) (b : ℕ) → negsuc 0 ≡ cond (cond (ltb (word b) 0) true (both x false)) (get_or t b (pos 0)) (negsuc 0)
      by true b = rw (le-ltb (word b) 0 (omega arith))
      by false b = rw (le-ltb (word b) 0 (omega arith))

      no_char : (b : ℕ) → place_at 0 0 false b ≡ cond (cond (ltb (word b) 0) true (both (eqb (word b) 0) false)) (get_or t b (pos 0)) (negsuc 0)
      no_char b = rw (le-ltb b 0 (omega arith))

  pub labels_all : (n : ℕ) → length t ≡ 257 → ((b : ℕ) → b < 257 → (word b < n) ⊎ (get_or t b (pos 0) ≡ negsuc 0)) → labels_at n 0 false ≡ t
  labels_all n l h =
      ext_get_or (pos 0) (labels_at n 0 false) t (length_tabulate 257 (place_at n 0 false) ∙ sym l)
      (λ b k. let m : b < 257 = rw (length_tabulate 257 (place_at n 0 false)) at k in
      get_d_tabulate 257 (place_at n 0 false) b (pos 0) m ∙ no_char b ∙ by b (h b m) (ltb (word b) n) refl (eqb (word b) n))
    where
      no_char : (b : ℕ) → place_at n 0 false b ≡ cond (cond (ltb (word b) n) true (both (eqb (word b) n) false)) (get_or t b (pos 0)) (negsuc 0)
      no_char b = rw (le-ltb b 0 (omega arith))

      by : (b : ℕ) → (word b < n) ⊎ (get_or t b (pos 0) ≡ negsuc 0) → (x : Bool) → ltb (word b) n ≡ x → (y : Bool) →
          cond (cond x true (both y false)) (get_or t b (pos 0)) (negsuc 0) ≡ get_or t b (pos 0)
      by b u true e y = refl
      by b (inl u) false e y = absurd (let z = ltb-false (word b) n e in omega arith)
      by b (inr u) false e true = sym u
      by b (inr u) false e false = sym u

-- ---- the properties

-- the labels of the characters below n
unfoldable pub char_props : List ℤ → ℕ → ℕ → List Property
char_props t i zero = []
char_props t i (suc n) = char_props t i n ++ cond (eqb (word_of (get_or t n (pos 0))) i) (property.Label n ∷ []) []

abbrev pub label_props : List ℤ → ℕ → List Property
label_props t i = cond (eqb (word_of (get_or t 256 (pos 0))) i) (property.Label 256 ∷ []) [] ++ char_props t i 256

chars_lines : (t : List ℤ) (i n : ℕ) → n ≤ 256 → LinesOf (char_labels t i n) (char_props t i n)
unfolding char_labels char_props
chars_lines t i zero h = no_lines
chars_lines t i (suc n) h = lines_append (chars_lines t i n (omega arith)) (by (eqb (word_of (get_or t n (pos 0))) i))
  where
    by : (x : Bool) → LinesOf (cond x (label_line n) []) (cond x (property.Label n ∷ []) [])
    by true = one_line (label_line_lem n (omega arith))
    by false = no_lines

pub labels_lines : (t : List ℤ) (i : ℕ) → LinesOf (label_lines t i) (label_props t i)
labels_lines t i = lines_append (by (eqb (word_of (get_or t 256 (pos 0))) i)) (chars_lines t i 256 (omega arith))
  where
    by : (x : Bool) → LinesOf (cond x boundary_label_line []) (cond x (property.Label 256 ∷ []) [])
    by true = one_line boundary_label_line_lem
    by false = no_lines

pub applied_append : (ps qs : List Property) (r : ListRead) → applied_all (ps ++ qs) r ≡ then_by (applied_all ps r) (applied_all qs)
unfolding applied_all
applied_append [] qs r = refl
applied_append (p ∷ ps) qs r = by (applied p r) (λ s. applied_append ps qs s)
  where
    by : (o : Option ListRead) → ((s : ListRead) → applied_all (ps ++ qs) s ≡ then_by (applied_all ps s) (applied_all qs)) →
        then_by o (applied_all (ps ++ qs)) ≡ then_by (then_by o (applied_all ps)) (applied_all qs)
    by none h = refl
    by (some s) h = h s

-- ---- what they leave

-- some steps and labels are read; `most` is how many steps there are to be, and behind the last one nothing can follow it
pub record Standing (labels program : List ℤ) (boundary most steps : ℕ) (r : ListRead) : Type 0 where
  pub ending : Bool
  pub needed : ℕ
  pub is : r ≡ reading_by (progress_by 2 boundary steps ending needed) program labels
  pub few : needed ≤ most
  pub done : steps ≡ most → ending ≡ false

-- some reading, after these properties
pub record After (ps : List Property) (r : ListRead) (P : ListRead → Type 0) : Type 0 where
  pub reading : ListRead
  pub read : applied_all ps r ≡ some reading
  pub holds : P reading

pub after_none : {r : ListRead} {P : ListRead → Type 0} → P r → After [] r P
unfolding applied_all
after_none {r} p = record { reading = r; read = refl; holds = p }

pub after_append : (ps qs : List Property) (r : ListRead) (P Q : ListRead → Type 0) → After ps r P → ((s : ListRead) → P s → After qs s Q) →
    After (ps ++ qs) r Q
after_append ps qs r P Q a f =
    let b = f a.reading a.holds in
    record { reading = b.reading; read = applied_append ps qs r ∙ rw a.read b.read; holds = b.holds }

pub least_few : (needed n most : ℕ) → needed ≤ most → n < most → at_least needed n ≤ most
least_few needed n most h l = by (leb needed n)
  where
    by : (x : Bool) → cond x (n + 1) needed ≤ most
    by true = omega arith
    by false = h

module _ (t program : List ℤ) (boundary most n : ℕ) (small : n < most) (few : most ≤ 32767)
    (values : (b : ℕ) → b < 257 → word_of (get_or t b (pos 0)) ≡ n → get_or t b (pos 0) ≡ pos n) where
  abbrev Stands : List ℤ → ListRead → Type 0
  Stands labels r = Standing labels program boundary most n r

  cut : pos (min n 65535) ≡ pos n
  cut = ap pos (let e : min n 65535 ≡ n = omega arith in e)

  labelled : (labels after : List ℤ) (needed : ℕ) → needed ≤ most → (labels ≡ after) →
      Stands after (reading_by (progress_by 2 boundary n false (at_least needed n)) program labels)
  labelled labels after needed h e =
      record {
        ending = false;
        needed = at_least needed n;
        is = ap (reading_by (progress_by 2 boundary n false (at_least needed n)) program) e;
        few = least_few needed n most h small;
        done = λ q. refl;
      }

  one_char : (c : ℕ) → c < 256 → word_of (get_or t c (pos 0)) ≡ n → (r : ListRead) → Stands (labels_at t n c true) r →
      After (property.Label c ∷ []) r (Stands (labels_at t n (suc c) true))
  unfolding applied_all applied
  one_char c h e r l =
      record {
        reading = reading_by (progress_by 2 boundary n false (at_least l.needed n)) program (set (labels_at t n c true) c (pos n));
        read = rw (l.is, no_label t n c h e true, lt-ltb c 256 h, cut);
        holds = labelled (set (labels_at t n c true) c (pos n)) (labels_at t n (suc c) true) l.needed l.few (labels_more t n c h e (values c
            (omega arith) e) true);
      }

  edge_label : word_of (get_or t 256 (pos 0)) ≡ n → (r : ListRead) → Stands (labels_at t n 0 false) r →
      After (property.Label 256 ∷ []) r (Stands (labels_at t n 0 true))
  unfolding applied_all applied
  edge_label e r l =
      record {
        reading = reading_by (progress_by 2 boundary n false (at_least l.needed n)) program (set (labels_at t n 0 false) 256 (pos n));
        read = rw (l.is, cut);
        holds = labelled (set (labels_at t n 0 false) 256 (pos n)) (labels_at t n 0 true) l.needed l.few (edge_more t n e (values 256 (omega arith) e));
      }

  moved : {a b : List ℤ} {r : ListRead} → a ≡ b → Stands a r → Stands b r
  moved {r = r} e l = subst (λ (x : List ℤ). Stands x r) e l

  chars_after : (c : ℕ) → c ≤ 256 → (r : ListRead) → Stands (labels_at t n 0 true) r → After (char_props t n c) r (Stands (labels_at t n c true))
  unfolding char_props
  chars_after zero h r l = after_none l
  chars_after (suc c) h r l =
      after_append (char_props t n c) (cond (eqb (word_of (get_or t c (pos 0))) n) (property.Label c ∷ []) []) r (Stands (labels_at t n c true))
      (Stands (labels_at t n (suc c) true)) (chars_after c (omega arith) r l) (λ s k. by (same_or_not (word_of (get_or t c (pos 0))) n) s k)
    where
      by : (word_of (get_or t c (pos 0)) ≡ n) ⊎ (word_of (get_or t c (pos 0)) ≡ n → ⊥) → (s : ListRead) → Stands (labels_at t n c true) s →
          After (cond (eqb (word_of (get_or t c (pos 0))) n) (property.Label c ∷ []) []) s (Stands (labels_at t n (suc c) true))
      by (inl e) s k = rw (eq-eqb (word_of (get_or t c (pos 0))) n e) (one_char c (omega arith) e s k)
      by (inr q) s k = rw (ne_eqb (word_of (get_or t c (pos 0))) n q) (after_none (moved (labels_same t n c (omega arith) q true) k))

  pub labels_after : (r : ListRead) → Stands (labels_at t n 0 false) r → After (label_props t n) r (Stands (labels_at t (suc n) 0 false))
  labels_after r l =
      after_append (cond (eqb (word_of (get_or t 256 (pos 0))) n) (property.Label 256 ∷ []) []) (char_props t n 256) r (Stands (labels_at t n 0 true))
      (Stands (labels_at t (suc n) 0 false)) (by (same_or_not (word_of (get_or t 256 (pos 0))) n))
      (λ s k. let a = chars_after 256 (omega arith) s k in record { reading = a.reading; read = a.read; holds = moved (labels_next t n) a.holds })
    where
      by : (word_of (get_or t 256 (pos 0)) ≡ n) ⊎ (word_of (get_or t 256 (pos 0)) ≡ n → ⊥) →
          After (cond (eqb (word_of (get_or t 256 (pos 0))) n) (property.Label 256 ∷ []) []) r (Stands (labels_at t n 0 true))
      by (inl e) = rw (eq-eqb (word_of (get_or t 256 (pos 0))) n e) (edge_label e r l)
      by (inr q) = rw (ne_eqb (word_of (get_or t 256 (pos 0))) n q) (after_none (moved (edge_same t n q) l))
