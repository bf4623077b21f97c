-- TeX's main loop does what the one-by-one reading says: `same_nodes`, which specs/Purpose states.
-- Assumes nothing.
use mathlib.Core.Path.{◌≡◌, refl, sym, ap, ◌∙◌}
use mathlib.Core.Bool.{Bool, true, false, cond}
use mathlib.Core.List.{List, [], ◌∷◌, ◌++◌, map}
use mathlib.Core.Logic.{◌⊎◌, inl, inr}
use mathlib.Core.Option.{Option, none, some}
use Prim.Native.Nat.{ℕ, zero, suc}
use native.Mathlib.Omega.{arith}
use Rattle.reading.specs.Items.{bnd, free, Rules, Item, plain, edge, at, Out}
use Rattle.reading.specs.Reading.{Read, done, more, push, read, Reading, ended, going, close, right_items, reading}
use Rattle.main_loops.specs.Nodes.{Node, LigStack, null, character, Jump, reswitch}
use Rattle.main_loops.specs.Loop.{main_loop, turns}
use Rattle.main_loops.specs.Purpose.{node_item, LoopStops, ReadsAs, SameNodes, EveryWordRead}
use Rattle.main_loops.proofs.Lettered.{Mark, letter, last, Place, start, on, Text, text, LetteredRead, over, yet, read_text}
use Rattle.main_loops.proofs.Moving.{right_mark, rest_marks, marks, empty, char, AtLoop}
use Rattle.main_loops.proofs.Turning.{Shown}
use Rattle.main_loops.proofs.Running.{stops_over, over_stops, stays_out}
use Rattle.main_loops.proofs.Erasing.{erase_mark, erase_place, erase_read, Fits, erased}

-- ---- the text of a word

-- behind its first letter, or at the left boundary
abbrev pub word_text : Bool → ℕ → List ℕ → Option ℕ → Text
word_text false c cs right = text [] false false (on (letter c)) (rest_marks cs right)
word_text true c cs right = text [] false false start (letter c ∷ rest_marks cs right)

-- the loop begins with it
pub starts : (boundary label : Bool) (c : ℕ) (cs : List ℕ) (right : Option ℕ) →
    Shown (main_loop boundary label (c ∷ cs) right) (word_text (cond boundary label false) c cs right)
unfolding marks
starts true true c cs right = inl (record { stack = character c; rest = cs; bchar = right; stacked = char c cs; jumps = refl; marked = refl })
starts true false c [] right = inl (record { stack = null; rest = []; bchar = right; stacked = empty; jumps = refl; marked = refl })
starts true false c (d ∷ ds) right = inl (record { stack = character d; rest = ds; bchar = right; stacked = char d ds; jumps = refl; marked = refl })
starts false label c [] right = inl (record { stack = null; rest = []; bchar = right; stacked = empty; jumps = refl; marked = refl })
starts false label c (d ∷ ds) right = inl (record { stack = character d; rest = ds; bchar = right; stacked = char d ds; jumps = refl; marked = refl })

letters_fit : (right : Option ℕ) (c : ℕ) (cs : List ℕ) → Fits right (on (letter c)) (rest_marks cs right)
unfolding Fits
letters_fit none c [] = record {}
letters_fit (some r) c [] = (record {}, record {})
letters_fit right c (d ∷ ds) = (record {}, letters_fit right d ds)

word_fits : (b : Bool) (c : ℕ) (cs : List ℕ) (right : Option ℕ) → Fits right (word_text b c cs right).left (word_text b c cs right).right
unfolding Fits
word_fits false c cs right = letters_fit right c cs
word_fits true c cs right = (record {}, letters_fit right c cs)

right_item_lem : (right : Option ℕ) → map erase_mark (right_mark right) ≡ right_items right
right_item_lem none = refl
right_item_lem (some r) = refl

rest_items : (cs : List ℕ) (right : Option ℕ) → map erase_mark (rest_marks cs right) ≡ map plain cs ++ right_items right
rest_items [] right = right_item_lem right
rest_items (c ∷ cs) right = ap (λ (l : List Item). plain c ∷ l) (rest_items cs right)

push_none : (r : Read) → push [] r ≡ r
push_none (done os x) = refl
push_none more = refl

-- its lettered reading without letters is its reading
word_read : (rule : Rules) (n : ℕ) (b : Bool) (c : ℕ) (cs : List ℕ) (right : Option ℕ) →
    reading rule n b (c ∷ cs) right ≡ erase_read (read_text rule n (word_text b c cs right) (word_text b c cs right).right)
unfolding reading
word_read rule n false c cs right =
    ap (λ (l : List Item). close right (read rule n (at (plain c)) l)) (sym (rest_items cs right))
    ∙ ap (close right) (sym (push_none (read rule n (at (plain c)) (map erase_mark (rest_marks cs right)))))
    ∙ erased rule right n (word_text false c cs right) (rest_marks cs right) (word_fits false c cs right)
word_read rule n true c cs right =
    ap (λ (l : List Item). close right (read rule n edge (plain c ∷ l))) (sym (rest_items cs right))
    ∙ ap (close right) (sym (push_none (read rule n edge (plain c ∷ map erase_mark (rest_marks cs right)))))
    ∙ erased rule right n (word_text true c cs right) (letter c ∷ rest_marks cs right) (word_fits true c cs right)

-- ---- without a bchar_label the reading passes over the left boundary in one step

pub past_boundary_lem : (rule : Rules) → ((r : ℕ) → rule bnd r ≡ free) → (n : ℕ) (c : ℕ) (cs : List ℕ) (right : Option ℕ) →
    read_text rule (suc n) (word_text true c cs right) (word_text true c cs right).right
    ≡ read_text rule n (word_text false c cs right) (word_text false c cs right).right
unfolding read_text
past_boundary_lem rule h n c cs right = rw (h c) refl

-- ---- THE theorem

erase_over : (r : LetteredRead) {items : List Out} → erase_read r ≡ ended items → (ns : List Node) × (r ≡ over ns) × (map node_item ns ≡ items)
erase_over (over ns) e = (ns, refl, cc)
erase_over yet e = absurd (let z : ◌≡◌ {A = ℕ} 0 1 = cc in omega arith)

-- the text that the loop begins with
abbrev loop_text : Bool → Bool → ℕ → List ℕ → Option ℕ → Text
loop_text boundary label c cs right = word_text (cond boundary label false) c cs right

abbrev LabelFree : Rules → Bool → Type 0
LabelFree rule label = label ≡ false → (r : ℕ) → rule bnd r ≡ free

pub at_zero : (rule : Rules) (c : ℕ) (cs : List ℕ) (right : Option ℕ) → read_text rule zero (word_text true c cs right) (word_text true c cs right).right ≡ yet
unfolding read_text
at_zero rule c cs right = refl

never_at_zero : {items : List Out} → erase_read yet ≡ ended items → ⊥
never_at_zero {items} e = let z : ◌≡◌ {A = ℕ} 0 1 = cc in omega arith

text_over : (rule : Rules) (boundary label : Bool) → LabelFree rule label → (n : ℕ) (c : ℕ) (cs : List ℕ) (right : Option ℕ) {items : List Out} →
    reading rule n boundary (c ∷ cs) right ≡ ended items →
    (m : ℕ) × (ns : List Node) × (read_text rule m (loop_text boundary label c cs right) (loop_text boundary label c cs right).right ≡ over ns)
    × (map node_item ns ≡ items)
text_over rule true true h n c cs right e =
    let i = erase_over _ (sym (word_read rule n true c cs right) ∙ e) in
    (n, i.0, i.1, i.2)
text_over rule false label h n c cs right e =
    let i = erase_over _ (sym (word_read rule n false c cs right) ∙ e) in
    (n, i.0, i.1, i.2)
text_over rule true false h zero c cs right {items} e =
    absurd (never_at_zero (sym (word_read rule zero true c cs right ∙ ap erase_read (at_zero rule c cs right)) ∙ e))
text_over rule true false h (suc n) c cs right e =
    let i = erase_over _ (sym (word_read rule (suc n) true c cs right ∙ ap erase_read (past_boundary_lem rule (h refl) n c cs right)) ∙ e) in
    (n, i.0, i.1, i.2)

text_read : (rule : Rules) (boundary label : Bool) → LabelFree rule label → (n : ℕ) (c : ℕ) (cs : List ℕ) (right : Option ℕ) (ns : List Node) →
    read_text rule n (loop_text boundary label c cs right) (loop_text boundary label c cs right).right ≡ over ns →
    (m : ℕ) × (reading rule m boundary (c ∷ cs) right ≡ ended (map node_item ns))
text_read rule true true h n c cs right ns e = (n, word_read rule n true c cs right ∙ ap erase_read e)
text_read rule false label h n c cs right ns e = (n, word_read rule n false c cs right ∙ ap erase_read e)
text_read rule true false h n c cs right ns e =
    (suc n, word_read rule (suc n) true c cs right ∙ ap erase_read (past_boundary_lem rule (h refl) n c cs right ∙ e))

pub same_nodes : EveryWordRead
unfolding reading
same_nodes rule boundary label h [] right =
    record {
      stops_if_read = λ items e. ([], record { count = 0; stops = stays_out rule 0 [] }, no_items e.reads);
      read_if_stops = λ ns e. record { steps = 0; reads = ap (λ (l : List Node). ended (map node_item l)) (no-nodes rule ns e) };
    }
  where
    no_items : {items : List Out} → ended [] ≡ ended items → [] ≡ items
    no_items e = cc

    no-nodes : (r : Rules) (ns : List Node) → LoopStops r boundary label [] right ns → [] ≡ ns
    no-nodes r ns e = let i : reswitch [] ≡ reswitch ns = sym (stays_out r e.count []) ∙ e.stops in cc
same_nodes rule boundary label h (c ∷ cs) right =
    record {
      stops_if_read =
          λ items e.
          let i = text_over rule boundary label h e.steps c cs right e.reads in (
            i.1,
            record {
              count =
                  suc i.0;
              stops = stops_over rule i.0 _ (loop_text boundary label c cs right) (starts boundary label c cs right) i.1 i.2;
            },
            i.3,
          );
      read_if_stops =
          λ ns e.
          let o = over_stops rule e.count _ (loop_text boundary label c cs right) (starts boundary label c cs right) ns e.stops in
          let i = text_read rule boundary label h e.count c cs right ns o in
          record { steps = i.0; reads = i.1 };
    }
