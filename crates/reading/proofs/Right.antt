-- The pair by depth: depth only grows, and a pair that finishes at some depth is read to its end, whatever the flags of its two items.
-- Assumes nothing.
use mathlib.Core.Path.{◌≡◌, refl, sym, ap, ◌∙◌}
use mathlib.Core.Bool.{Bool, true, false}
use mathlib.Core.List.{List, [], ◌∷◌, ◌++◌, append-nil}
use mathlib.Core.Option.{Option, none, some, map, map-eq-some_iff, some-injective, none-ne-some}
use Prim.Native.Nat.{ℕ, zero, suc, ◌+◌}
use native.Mathlib.Nat.{suc-add}
use Rattle.lang.specs.declared.operation.PostLigOperation.TheVariants.{RetainBothMoveNowhere, RetainBothMoveToInserted, RetainBothMoveToRight}
use Rattle.lang.specs.declared.operation.PostLigOperation.TheVariants.{RetainRightMoveToInserted, RetainRightMoveToRight, RetainLeftMoveNowhere}
use Rattle.lang.specs.declared.operation.PostLigOperation.TheVariants.{RetainLeftMoveToInserted, RetainNeitherMoveToInserted}
use Rattle.reading.specs.Items.{Left, bnd, chr, Rule, free, kerned, lig, Rules, Item, flag, code, plain, inserted, Head, edge, at, key, head, Out, glyph}
use Rattle.reading.specs.Items.{kern, fin}
use Rattle.reading.specs.Reading.{Act, act, Read, done, push, read}
use Rattle.reading.specs.Depth.{Res, Finished, raise, before, raise_left, raised, then_right, comp_by, comp}
use Rattle.reading.specs.Run.{head_flag}
use Rattle.reading.proofs.Steps.{in_sequence}
use Rattle.reading.proofs.Flags.{raise_inserted, raise_plain, raised_none, raised_raised, raised_before, raised_alone, raised_fin, code_raised}
use Rattle.reading.proofs.Flags.{flag_raised}

-- ---- depth only grows

-- a pair of the class both_z has finished: its two pairs have
pub both_finished : (f : Finished) (r : ℕ) (g : Res → Res) (o : Option Res) {q : Res} → then_right f r (map g o) ≡ some q →
    (p : Res) × (o ≡ some p) × (s : Res) × (f (chr (code (g p).last)) r ≡ some s) × (before (g p).outs (raised true false s) ≡ q)
both_finished f r g none {q} e = absurd (none-ne-some q e)
both_finished f r g (some p) e =
    let m = (map-eq-some_iff (λ (s : Res). before (g p).outs (raised true false s)) (f (chr (code (g p).last)) r)).0 e in
    (p, refl, m.0, m.1, m.2)

deeper_map : (g : Res → Res) (o o' : Option Res) → ((q : Res) → o ≡ some q → o' ≡ some q) → {q : Res} → map g o ≡ some q → map g o' ≡ some q
deeper_map g o o' h e = let m = (map-eq-some_iff g o).0 e in rw (h m.0 m.1) (ap some m.2)

pub deeper_by : (R : Rule) (f g : Finished) → ((l : Left) (r : ℕ) (q : Res) → f l r ≡ some q → g l r ≡ some q) → (l : Left) (r : ℕ) {q : Res} →
    comp_by R f l r ≡ some q → comp_by R g l r ≡ some q
deeper_by free f g h l r e = e
deeper_by (kerned k) f g h l r e = e
deeper_by (lig RetainNeitherMoveToInserted c) f g h l r e = e
deeper_by (lig RetainLeftMoveToInserted c) f g h l r e = e
deeper_by (lig RetainRightMoveToRight c) f g h l r e = e
deeper_by (lig RetainBothMoveToRight c) f g h l r e = e
deeper_by (lig RetainRightMoveToInserted c) f g h l r e = deeper_map (raised true false) (f (chr c) r) (g (chr c) r) (h (chr c) r) e
deeper_by (lig RetainBothMoveToInserted c) f g h l r e =
    deeper_map (λ q. before (fin (head l)) (raised true false q)) (f (chr c) r) (g (chr c) r) (h (chr c) r) e
deeper_by (lig RetainLeftMoveNowhere c) f g h l r e = deeper_map (raised false true) (f l c) (g l c) (h l c) e
deeper_by (lig RetainBothMoveNowhere c) f g h l r e =
    let m = both_finished f r (raised false true) (f l c) e in
    rw (h l c m.0 m.1, h (chr (code (raised false true m.0).last)) r m.2 m.3) (ap some m.4)

pub deeper : (rule : Rules) (d k : ℕ) (l : Left) (r : ℕ) {q : Res} → comp rule d l r ≡ some q → comp rule (d + k) l r ≡ some q
unfolding comp
deeper rule zero k l r {q} e = absurd (none-ne-some q e)
deeper rule (suc d) k l r e = rw suc-add (deeper_by (rule l r) (comp rule d) (comp rule (d + k)) (λ a b q. deeper rule d k a b) l r e)

-- ---- a pair that finishes is read so

-- a reading that has ended as an entry says
abbrev pub done_as : Res → Read
done_as q = done q.outs (at q.last)

-- the entry for two items that may be ligatures
abbrev pub flagged : Head → Item → Res → Res
flagged x y q = raised (head_flag x) (flag y) q

-- what is said of every pair that f has finished
abbrev pub ReadsSo : Rules → Finished → Type 0
ReadsSo rule f = (x : Head) (y : Item) (q : Res) → f (key x) (code y) ≡ some q → (n : ℕ) × (read rule n x (y ∷ []) ≡ done_as (flagged x y q))

-- a step, and the reading that follows it where nothing else stands right of the cursor
abbrev goes : Rules → ℕ → Act → Read
goes rule n a = push a.outs (read rule n a.left (a.back ++ []))

-- the class simple: the step is the last
simple : (a b : Bool) (os ps : List Out) (z w : Item) {q : Res} → raise_left a os (raise b z) ≡ record { outs = ps; last = w } →
    some (record { outs = os; last = z }) ≡ some q → done (ps ++ []) (at w) ≡ done_as (raised a b q)
simple a b os ps z w {q} e s = rw append-nil (ap done_as (sym e) ∙ ap (λ p. done_as (raised a b p)) (some-injective (record { outs = os; last = z }) q s))

-- the class left_z: the left is given as it stands, and the pair that follows begins with a ligature
left_z : (x : Head) (y : Item) (p : Res) {q : Res} → before (fin (head (key x))) (raised true false p) ≡ q →
    before (fin x) (raised true (flag y) p) ≡ flagged x y q
left_z x y p e =
    ap (λ s. before s.outs (raised true (flag y) p)) (sym (raised_alone x y)) ∙ sym (raised_before (head_flag x) (flag y) (fin (head (key x))) y p)
    ∙ ap (flagged x y) e

-- the class both_z: the last of the first pair is a ligature
both_z : (a b : Bool) (p s : Res) {q : Res} → before (raised false true p).outs (raised true false s) ≡ q →
    before (raised a true p).outs (raised (flag (raised a true p).last) b s) ≡ raised a b q
both_z a b p s e =
    rw flag_raised
    (ap (λ t. before t.outs (raised true b s)) (sym (raised_raised a false false true p))
    ∙ sym (raised_before a b (raised false true p).outs (raised false true p).last s) ∙ ap (raised a b) e)

flags_by : (rule : Rules) (f : Finished) → ReadsSo rule f → (R : Rule) (x : Head) (y : Item) {q : Res} → comp_by R f (key x) (code y) ≡ some q →
    (n : ℕ) × (goes rule n (act R x y) ≡ done_as (flagged x y q))
unfolding read raise_left
flags_by rule f h free x y e = (0, simple (head_flag x) (flag y) (fin (head (key x))) (fin x) (plain (code y)) y (rw raise_plain (raised_alone x y)) e)
flags_by rule f h (kerned k) x y e = (
  0,
  simple (head_flag x) (flag y) (fin (head (key x)) ++ (kern k ∷ [])) (fin x ++ (kern k ∷ [])) (plain (code y)) y
      (rw raise_plain (raised_fin x (kern k ∷ []) y)) e,
)
flags_by rule f h (lig RetainNeitherMoveToInserted c) x y e = (0, simple (head_flag x) (flag y) [] [] (inserted c) (inserted c) (simp raise_inserted) e)
flags_by rule f h (lig RetainLeftMoveToInserted c) x y e =
    (0, simple (head_flag x) (flag y) (fin (head (key x))) (fin x) (inserted c) (inserted c) (rw raise_inserted (raised_alone x (inserted c))) e)
flags_by rule f h (lig RetainRightMoveToRight c) x y e =
    (0, simple (head_flag x) (flag y) (glyph (inserted c) ∷ []) (glyph (inserted c) ∷ []) (plain (code y)) y (simp (raise_plain, raise_inserted)) e)
flags_by rule f h (lig RetainBothMoveToRight c) x y e = (
  0,
  simple (head_flag x) (flag y) (fin (head (key x)) ++ (glyph (inserted c) ∷ [])) (fin x ++ (glyph (inserted c) ∷ [])) (plain (code y)) y
      (rw raise_plain (raised_fin x (glyph (inserted c) ∷ []) y)) e,
)
flags_by rule f h (lig RetainRightMoveToInserted c) x y e =
    let m = (map-eq-some_iff (raised true false) (f (chr c) (code y))).0 e in
    let t = h (at (inserted c)) y m.0 m.1 in
    (t.0, ap (push []) t.1 ∙ ap done_as (sym (raised_raised (head_flag x) (flag y) true false m.0) ∙ ap (flagged x y) m.2))
flags_by rule f h (lig RetainBothMoveToInserted c) x y e =
    let m = (map-eq-some_iff (λ (p : Res). before (fin (head (key x))) (raised true false p)) (f (chr c) (code y))).0 e in
    let t = h (at (inserted c)) y m.0 m.1 in
    (t.0, ap (push (fin x)) t.1 ∙ ap done_as (left_z x y m.0 m.2))
flags_by rule f h (lig RetainLeftMoveNowhere c) x y e =
    let m = (map-eq-some_iff (raised false true) (f (key x) c)).0 e in
    let t = h x (inserted c) m.0 m.1 in
    (t.0, ap (push []) t.1 ∙ ap done_as (sym (raised_raised (head_flag x) (flag y) false true m.0) ∙ ap (flagged x y) m.2))
flags_by rule f h (lig RetainBothMoveNowhere c) x y e =
    let m = both_finished f (code y) (raised false true) (f (key x) c) e in
    let t = h x (inserted c) m.0 m.1 in
    let p = raised (head_flag x) true m.0 in
    let u = h (at p.last) y m.2 (cc (m.3, code_raised (head_flag x) true m.0, code_raised false true m.0)) in (
      t.0 + u.0,
      ap (push []) (in_sequence rule t.0 u.0 x (inserted c ∷ []) (y ∷ []) t.1 u.1)
          ∙ ap done_as (both_z (head_flag x) (flag y) m.0 m.2 m.4),
    )

pub flags : (rule : Rules) (d : ℕ) (x : Head) (y : Item) {q : Res} → comp rule d (key x) (code y) ≡ some q →
    (n : ℕ) × (read rule n x (y ∷ []) ≡ done (raised (head_flag x) (flag y) q).outs (at (raised (head_flag x) (flag y) q).last))
unfolding comp read
flags rule zero x y {q} e = absurd (none-ne-some q e)
flags rule (suc d) x y e =
    let t = flags_by rule (comp rule d) (λ a b q. flags rule d a b) (rule (key x) (code y)) x y e in
    (suc t.0, t.1)

pub right : (rule : Rules) (d : ℕ) (l : Left) (r : ℕ) {q : Res} → comp rule d l r ≡ some q →
    (n : ℕ) × (read rule n (head l) (plain r ∷ []) ≡ done q.outs (at q.last))
right rule d bnd r {q} e = rw raised_none at (flags rule d edge (plain r) e)
right rule d (chr c) r {q} e = rw raised_none at (flags rule d (at (plain c)) (plain r) e)
