-- TeX's main loop makes the nodes of Made, where every pair ends.
-- Assumes nothing.
use mathlib.Core.Path.{◌≡◌, refl, sym, ap, ◌∙◌}
use mathlib.Core.Bool.{Bool, true, false, cond}
use mathlib.Core.List.{List, [], ◌∷◌, ◌++◌, map, append-nil}
use mathlib.Core.Logic.{◌⊎◌, inl, inr}
use mathlib.Core.Option.{Option, none, some}
use Prim.Native.Nat.{ℕ, zero, suc, ◌+◌}
use native.Mathlib.Omega.{arith}
use Rattle.reading.specs.Items.{Left, bnd, free, Rules, Item, item, plain, head, Head, edge, at, Out, fin}
use Rattle.reading.specs.Reading.{done, read, Ends}
use Rattle.reading.specs.Depth.{Res, Finished}
use Rattle.reading.proofs.Theorems as Reading
use Rattle.reading.proofs.Steps.{key_head}
use Rattle.reading.proofs.Holds.{Holds}
use Rattle.reading.proofs.Enough.{rule_or_none}
use Rattle.main_loops.specs.Nodes.{Node, ligature_node}
use Rattle.main_loops.specs.Loop.{subtype_of}
use Rattle.main_loops.proofs.Lettered.{Mark, letter, made, last, code_of, is_last, Place, start, on, place_key, lft_after, rt_hit, node_of, Text, text, whole, over}
use Rattle.main_loops.proofs.Lettered.{read_text}
use Rattle.main_loops.specs.Purpose.{LoopStops}
use Rattle.main_loops.proofs.Moving.{rest_marks}
use Rattle.main_loops.proofs.Running.{stops_over, stays_out}
use Rattle.main_loops.proofs.Theorems.{word_text, starts, past_boundary_lem, at_zero}
use Rattle.main_loop_pairs.proofs.Held.{Held, give_all, head_flag_of}
use Rattle.main_loop_pairs.proofs.Pairs.{ends_by, Stands, fresh}
use Rattle.main_loop_pairs.proofs.Phases.{Comes, end_place, end_text, phase}
use Rattle.main_loop_pairs.proofs.Made.{res_or, taking, last_nodes, end_nodes, after_pair, last_of, word_nodes}

-- a pair without a rule is read in one step
free_read : (rule : Rules) (l : Left) (r : ℕ) → rule l r ≡ free → read rule (suc zero) (head l) (plain r ∷ []) ≡ done (fin (head l)) (at (plain r))
unfolding read
free_read rule l r e = simp (key_head l, e, append-nil)

module _ (rule : Rules) (table : Finished) (holds : Holds rule table) (all : (l : Left) (r : ℕ) → Ends rule l r) where
  -- what the table says of a pair is its reading
  missing : (l : Left) (r : ℕ) → table l r ≡ none → (rule l r ≡ free → ⊥) → ⊥
  missing l r e f =
      let d = all l r in
      let c = Reading.ends_depth rule d.steps (head l) (plain r) d.ends in
      let i = holds.whole l r c.0 c.1 f (rw (key_head l) at c.2) in
      let z : ◌≡◌ {A = ℕ} 0 1 = cc in omega arith

  free_by : (l : Left) (r : ℕ) → table l r ≡ none → (rule l r ≡ free) ⊎ (rule l r ≡ free → ⊥) → rule l r ≡ free
  free_by l r e (inl f) = f
  free_by l r e (inr f) = absurd (missing l r e f)

  pair_by : (l : Left) (r : ℕ) (t : Option Res) → table l r ≡ t →
      (n : ℕ) × (read rule n (head l) (plain r ∷ []) ≡ done (res_or t l r).outs (at (res_or t l r).last))
  pair_by l r none e = (suc zero, free_read rule l r (free_by l r e (rule_or_none (rule l r))))
  pair_by l r (some q) e = let s = holds.sound l r q e in Reading.right rule s.0 l r s.1

  -- ---- the text of the rest of a word

  -- a left with the left hit is a ligature, and the right item comes after a letter
  letter_hit : (x : Place) (y : ℕ) → rt_hit false (is_last (letter y)) x ≡ is_last (letter y)
  letter_hit start y = refl
  letter_hit (on z) y = refl

  settled_after : (y : Mark) (u : Head) (lft : Bool) (ls : List ℕ) → lft_after (cond (head_flag_of u) lft false) (end_place y u ls) ≡ false
  settled_after (letter d) edge lft ls = refl
  settled_after (made d ms) edge lft ls = refl
  settled_after (last d) edge lft ls = refl
  settled_after y (at (item true c)) lft ls = refl
  settled_after (letter d) (at (item false c)) lft ls = refl
  settled_after (made d ms) (at (item false c)) lft ls = refl
  settled_after (last d) (at (item false c)) lft ls = refl

  -- a whole pair
  abbrev pair_outs : Place → Mark → List Out
  pair_outs x y = (res_or (table (place_key x) (code_of y)) (place_key x) (code_of y)).outs

  abbrev pair_last : Place → Mark → Head
  pair_last x y = at (res_or (table (place_key x) (code_of y)) (place_key x) (code_of y)).last

  pair : (x : Place) (lft : Bool) (y : Mark) → lft_after lft x ≡ false → rt_hit false (is_last y) x ≡ is_last y → (ns : List Node) (zs : List Mark) →
      Comes rule (text ns lft false x (y ∷ zs)) (y ∷ zs)
      (end_text y (give_all (ends_by (is_last y) (pair_last x y)) (taking x lft ns) (pair_outs x y)) (pair_last x y) zs)
  pair x lft y s h ns zs =
      let p = pair_by (place_key x) (code_of y) (table (place_key x) (code_of y)) refl in
      phase x lft y s h rule zs p.0 x lft false (head (place_key x)) (taking x lft ns) (y ∷ []) (plain (code_of y) ∷ []) (pair_outs x y) (pair_last x y)
      (fresh ns) p.1

  -- the last item is finished
  last_whole : (r : ℕ) (i : Item) (h : Held) → whole (end_text (last r) h (at i) []) ≡ last_nodes i h
  last_whole r (item false c) h = append-nil h.nodes
  last_whole r (item true c) h =
      ap (λ (ls : List ℕ). h.nodes ++ (ligature_node c ls (subtype_of h.lft true) ∷ [])) (append-nil h.letters)

  -- the reading of the rest of a word gives its nodes
  Gives : Text → List Mark → List Node → Type 0
  Gives t ms ns = (n : ℕ) × (read_text rule n t ms ≡ over ns)

  ends_none : (t : Text) → read_text rule 0 t [] ≡ over (whole t)
  unfolding read_text
  ends_none t = refl

  word_end : (right : Option ℕ) (z : Mark) (lft : Bool) (ns : List Node) → lft_after lft (on z) ≡ false →
      Gives (text ns lft false (on z) (rest_marks [] right)) (rest_marks [] right) (end_nodes table right (on z) lft ns)
  unfolding Gives
  word_end none z lft ns s = (0, ends_none (text ns lft false (on z) []))
  word_end (some r) z lft ns s =
      let c = pair (on z) lft (last r) s refl ns [] in (
        c.steps + 0,
        c.then 0
            ∙ ends_none (end_text (last r) (give_all (ends_by true (pair_last (on z) (last r))) (taking (on z) lft ns) (pair_outs (on z) (last r))) (pair_last
            (on z) (last r)) [])
            ∙ ap over
            (last_whole r (res_or (table (place_key (on z)) r) (place_key (on z)) r).last
            (give_all (ends_by true (pair_last (on z) (last r))) (taking (on z) lft ns) (pair_outs (on z) (last r)))),
      )

  -- a pair with a letter, and what comes after
  word_pair : (right : Option ℕ) (y : ℕ) (ys : List ℕ) (x : Place) (lft : Bool) (ns : List Node) → lft_after lft x ≡ false →
      ((z : Mark) (l : Bool) (ms : List Node) → lft_after l (on z) ≡ false →
      Gives (text ms l false (on z) (rest_marks ys right)) (rest_marks ys right) (word_nodes table right ys (on z) l ms)) →
      Gives (text ns lft false x (rest_marks (y ∷ ys) right)) (rest_marks (y ∷ ys) right) (word_nodes table right (y ∷ ys) x lft ns)
  unfolding Gives word_nodes
  word_pair right y ys x lft ns s ih =
      let c = pair x lft (letter y) s (letter_hit x y) ns (rest_marks ys right) in
      let h = after_pair table x lft y ns in
      let u = at (last_of table x y) in
      let k = placed u h in
      (c.steps + k.0, c.then k.0 ∙ k.1)
    where
      -- the last item is no boundary
      placed : (u : Head) (h : Held) →
          (n : ℕ) × (read_text rule n (end_text (letter y) h u (rest_marks ys right)) (rest_marks ys right)
          ≡ over (word_nodes table right ys (end_place (letter y) u h.letters) (cond (head_flag_of u) h.lft false) h.nodes))
      placed edge h = ih (letter y) false h.nodes refl
      placed (at (item true c)) h = ih (made c (h.letters ++ (y ∷ []))) h.lft h.nodes refl
      placed (at (item false c)) h = ih (letter y) false h.nodes refl

  word_on : (right : Option ℕ) (ys : List ℕ) (z : Mark) (lft : Bool) (ns : List Node) → lft_after lft (on z) ≡ false →
      Gives (text ns lft false (on z) (rest_marks ys right)) (rest_marks ys right) (word_nodes table right ys (on z) lft ns)
  unfolding word_nodes
  word_on right [] z lft ns s = word_end right z lft ns s
  word_on right (y ∷ ys) z lft ns s = word_pair right y ys (on z) lft ns s (λ a l ms i. word_on right ys a l ms i)

  -- ---- a whole word

  -- its nodes, with the left boundary or without
  abbrev pub made_nodes : Bool → List ℕ → Option ℕ → List Node
  made_nodes boundary [] right = []
  made_nodes true (c ∷ cs) right = word_nodes table right (c ∷ cs) start false []
  made_nodes false (c ∷ cs) right = word_nodes table right cs (on (letter c)) false []

  from_start : (c : ℕ) (cs : List ℕ) (right : Option ℕ) →
      Gives (word_text true c cs right) (word_text true c cs right).right (word_nodes table right (c ∷ cs) start false [])
  from_start c cs right = word_pair right c cs start false [] refl (λ z l ms i. word_on right cs z l ms i)

  not_zero : (c : ℕ) (cs : List ℕ) (right : Option ℕ) (ns : List Node) (n : ℕ) →
      read_text rule n (word_text true c cs right) (word_text true c cs right).right ≡ over ns → (m : ℕ) × (n ≡ suc m)
  not_zero c cs right ns zero e = absurd (let q = sym (at_zero rule c cs right) ∙ e in let z : ◌≡◌ {A = ℕ} 0 1 = cc in omega arith)
  not_zero c cs right ns (suc n) e = (n, refl)

  stops_by : (boundary label : Bool) (c : ℕ) (cs : List ℕ) (right : Option ℕ) (ns : List Node) (n : ℕ) →
      read_text rule n (word_text (cond boundary label false) c cs right) (word_text (cond boundary label false) c cs right).right ≡ over ns →
      LoopStops rule boundary label (c ∷ cs) right ns
  stops_by boundary label c cs right ns n e =
      record {
        count = suc n;
        stops = stops_over rule n _ (word_text (cond boundary label false) c cs right) (starts boundary label c cs right) ns e;
      }

  pub stops_with : (boundary label : Bool) → (label ≡ false → (r : ℕ) → rule bnd r ≡ free) → (word : List ℕ) (right : Option ℕ) →
      LoopStops rule boundary label word right (made_nodes boundary word right)
  unfolding Gives
  stops_with boundary label f [] right = record { count = 0; stops = stays_out rule 0 [] }
  stops_with true true f (c ∷ cs) right = let g = from_start c cs right in stops_by true true c cs right _ g.0 g.1
  stops_with true false f (c ∷ cs) right =
      let g = from_start c cs right in
      let n = not_zero c cs right _ g.0 g.1 in
      stops_by true false c cs right _ n.0
      (sym (past_boundary_lem rule (f refl) n.0 c cs right)
      ∙ ap (λ (m : ℕ). read_text rule m (word_text true c cs right) (word_text true c cs right).right) (sym n.1) ∙ g.1)
  stops_with false label f (c ∷ cs) right = let g = word_on right cs (letter c) false [] refl in stops_by false label c cs right _ g.0 g.1
