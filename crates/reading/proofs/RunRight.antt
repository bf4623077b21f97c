-- The run against the reading: what a word's reading gives once it ends, the run gives; and where every pair ends, every word's reading ends.
-- Assumes nothing.
use mathlib.Core.Path.{◌≡◌, refl, ap, sym, ◌∙◌}
use mathlib.Core.Bool.{Bool, true, false}
use mathlib.Core.List.{List, [], ◌∷◌, ◌++◌, append_assoc, append-nil, map}
use mathlib.Core.Option.{Option, none, some}
use Prim.Native.Nat.{ℕ, zero, suc, ◌+◌}
use native.Mathlib.Omega.{arith}
use Rattle.reading.specs.Items.{Left, Rule, free, kerned, lig, Rules, Item, code, flag, plain, Head, edge, at, key, head, Out, fin}
use Rattle.reading.specs.Reading.{read, Read, done, more, reading, ended, close, remains, right_items, Ends}
use Rattle.reading.specs.Depth.{Res, Finished, raised}
use Rattle.reading.specs.Run.{head_flag, entry_or, look_up, plain_answers, begin, in_order}
use Rattle.reading.proofs.Steps.{key_head, nothing_right as read_none, one_end, in_sequence}
use Rattle.reading.proofs.Right.{flags}
use Rattle.reading.proofs.Holds.{Holds}
use Rattle.reading.proofs.Ends.{HasDepth, ends_depth, splits}
use Rattle.reading.proofs.RunAll.{end_gives, left_gives, gives, answers_give}

none_not_some : {q : Res} → ◌≡◌ {A = Option Res} none (some q) → ⊥
none_not_some e = let z : ◌≡◌ {A = ℕ} 0 1 = cc in omega arith

-- a pair without a rule is read in one step
free_read : (rule : Rules) (x : Head) (y : ℕ) → rule (key x) y ≡ free → read rule (suc zero) x (plain y ∷ []) ≡ done (fin x) (at (plain y))
unfolding read
free_read rule x y e = let f : rule (key x) (code (plain y)) ≡ free = e in rw (f, f, append-nil)

nothing_read : (rule : Rules) (n : ℕ) (x : Head) {os : List Out} {u : Head} → read rule n x [] ≡ done os u → (os ≡ []) × (u ≡ x)
nothing_read rule n x e = let r = read_none rule n x in (cc, cc)

-- the text of the rest of a word
abbrev text : List ℕ → Option ℕ → List Item
text ys right = map plain ys ++ right_items right

-- a word's reading ended where that of its text did
closed : (right : Option ℕ) (r : Read) {os : List Out} → close right r ≡ ended os →
    (ps : List Out) × (u : Head) × (r ≡ done ps u) × (ps ++ remains right u ≡ os)
closed right (done ps u) e = (ps, u, refl, cc)
closed right more e = let z : ◌≡◌ {A = ℕ} 0 1 = cc in absurd (omega arith)

module _ (rule : Rules) (table : Finished) (h : Holds rule table) where
  -- a pair that has a rule and a depth stands in the table
  missing : (l : Left) (r : ℕ) → table l r ≡ none → HasDepth rule l r → (rule l r ≡ free → ⊥) → ⊥
  missing l r e d f = none_not_some (sym e ∙ h.whole l r d.0 d.1 f d.2)

  -- a pair that has a depth, and of which the table has nothing, has no rule
  no_rule : (R : Rule) (l : Left) (r : ℕ) → rule l r ≡ R → table l r ≡ none → HasDepth rule l r → rule l r ≡ free
  no_rule free l r i e d = i
  no_rule (kerned k) l r i e d = absurd (missing l r e d (λ f. let z : ◌≡◌ {A = ℕ} 0 1 = cc in omega arith))
  no_rule (lig o c) l r i e d = absurd (missing l r e d (λ f. let z : ◌≡◌ {A = ℕ} 0 1 = cc in omega arith))

  -- What is looked up is what the pair's reading gives, where it ends.
  look_read : (t : Option Res) (x : Head) (y : ℕ) → table (key x) y ≡ t → HasDepth rule (key x) y →
      (n : ℕ) × (read rule n x (plain y ∷ []) ≡ done (entry_or t x y).outs (at (entry_or t x y).last))
  look_read none x y e d = (suc zero, free_read rule x y (no_rule (rule (key x) y) (key x) y refl e d))
  look_read (some q) x y e d = let s = h.sound (key x) y q e in flags rule s.0 x (plain y) s.1

  -- A turn: a reading that ends first gives what is looked up for its left and its next letter, and goes on from there.
  turn : (n : ℕ) (x : Head) (y : ℕ) (zs : List Item) {os : List Out} {u : Head} → read rule n x (plain y ∷ zs) ≡ done os u →
      (m : ℕ) × (ps : List Out) × (read rule m (at (look_up table x y).last) zs ≡ done ps u) × (os ≡ (look_up table x y).outs ++ ps)
  turn n x y zs e =
      let s = splits rule n x (plain y ∷ []) zs e in
      let l = look_read (table (key x) y) x y refl (ends_depth rule s.first x (plain y) s.ends₁) in
      let o = one_end rule s.first l.0 x (plain y ∷ []) s.ends₁ l.1 in
      (s.second, s.outs₂, (rw o.1 at s.ends₂), rw (← o.0) s.outs_are)

  -- the last left, with the right item where there is one
  end_right : (n : ℕ) (x : Item) (right : Option ℕ) {os : List Out} {u : Head} → read rule n (at x) (right_items right) ≡ done os u →
      os ++ remains right u ≡ end_gives table right (at x)
  end_right n x none e = let o = nothing_read rule n (at x) e in rw (o.0, o.1)
  end_right n x (some r) e =
      let t = turn n (at x) r [] e in
      let o = nothing_read rule t.0 (at (look_up table (at x) r).last) t.2 in
      rw (t.3, o.0, o.1, append-nil)

  -- a turn, over what its reading goes on with
  turn_right : (n : ℕ) (x : Head) (y : ℕ) (ys : List ℕ) (right : Option ℕ) {os : List Out} {u : Head} → read rule n x (text (y ∷ ys) right) ≡ done os u →
      ((m : ℕ) (ps : List Out) → read rule m (at (look_up table x y).last) (text ys right) ≡ done ps u →
      ps ++ remains right u ≡ left_gives table right ys (at (look_up table x y).last)) →
      os ++ remains right u ≡ left_gives table right (y ∷ ys) x
  unfolding left_gives
  turn_right n x y ys right e f =
      let t = turn n x y (text ys right) e in
      rw (t.3, append_assoc, f t.0 t.1 t.2)

  -- what the reading gives from an item on, the run gives
  item_right : (n : ℕ) (x : Item) (ys : List ℕ) (right : Option ℕ) {os : List Out} {u : Head} → read rule n (at x) (text ys right) ≡ done os u →
      os ++ remains right u ≡ left_gives table right ys (at x)
  unfolding left_gives
  item_right n x [] right e = end_right n x right e
  item_right n x (y ∷ ys) right e = turn_right n (at x) y ys right e (λ m ps. item_right m (look_up table (at x) y).last ys right)

  -- what a word's reading gives, its run gives
  word_gives : (n : ℕ) (b : Bool) (word : List ℕ) (right : Option ℕ) {os : List Out} → reading rule n b word right ≡ ended os →
      gives table right (begin b word) ≡ os
  unfolding reading left_gives
  word_gives n true [] right e = cc
  word_gives n true (c ∷ cs) right e =
      let r = closed right (read rule n edge (text (c ∷ cs) right)) e in
      sym (turn_right n edge c cs right r.2 (λ m ps. item_right m (look_up table edge c).last cs right)) ∙ r.3
  word_gives n false [] right e = cc
  word_gives n false (c ∷ cs) right e =
      let r = closed right (read rule n (at (plain c)) (text cs right)) e in
      sym (item_right n (plain c) cs right r.2) ∙ r.3

  -- Whatever the reading of a word gives once it ends, the run gives, one item a step, and then the end for ever.
  pub run_right : (n : ℕ) (b : Bool) (word : List ℕ) (right : Option ℕ) {os : List Out} → reading rule n b word right ≡ ended os → (m : ℕ) →
      plain_answers table right m (begin b word) ≡ in_order m os
  run_right n b word right e m = rw (← (word_gives n b word right e)) (answers_give table right m (begin b word))

-- where every pair ends, so does every text
list_ends : (rule : Rules) → ((l : Left) (r : ℕ) → Ends rule l r) → (x : Head) (ys : List Item) →
    (n : ℕ) × (os : List Out) × (u : Head) × (read rule n x ys ≡ done os u)
list_ends rule e x [] = (zero, [], x, read_none rule zero x)
list_ends rule e x (y ∷ ys) =
    let p = e (key x) (code y) in
    let d : HasDepth rule (key x) (code y) = rw key_head at (ends_depth rule p.steps (head (key x)) (plain (code y)) p.ends) in
    let f = flags rule d.0 x y d.2 in
    let t = list_ends rule e (at (raised (head_flag x) (flag y) d.1).last) ys in
    (f.0 + t.0, _, t.2, in_sequence rule f.0 t.0 x (y ∷ []) ys f.1 t.3)

-- Where every pair ends, every word's reading ends.
pub word_ends : (rule : Rules) → ((l : Left) (r : ℕ) → Ends rule l r) → (b : Bool) (word : List ℕ) (right : Option ℕ) →
    (n : ℕ) × (os : List Out) × (reading rule n b word right ≡ ended os)
unfolding reading
word_ends rule e b [] right = (zero, [], refl)
word_ends rule e true (c ∷ cs) right = let t = list_ends rule e edge (text (c ∷ cs) right) in (t.0, t.1 ++ remains right t.2, ap (close right) t.3)
word_ends rule e false (c ∷ cs) right = let t = list_ends rule e (at (plain c)) (text cs right) in (t.0, t.1 ++ remains right t.2, ap (close right) t.3)

-- Where every pair ends, every word's reading ends and its run gives what it gives.
pub ends_answers : (rule : Rules) (table : Finished) → Holds rule table → ((l : Left) (r : ℕ) → Ends rule l r) → (b : Bool) (word : List ℕ) (right : Option ℕ) →
    (os : List Out) × ((n : ℕ) × (reading rule n b word right ≡ ended os)) × ((m : ℕ) → plain_answers table right m (begin b word) ≡ in_order m os)
ends_answers rule table h e b word right =
    let w = word_ends rule e b word right in
    (w.1, (w.0, w.2), run_right rule table h w.0 b word right w.2)
