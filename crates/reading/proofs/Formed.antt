-- The entry of a pair that finishes has the form of a table's entry.
-- Assumes nothing.
use mathlib.Core.Path.{◌≡◌, ap, subst}
use mathlib.Core.Bool.{Bool, true, false, cond}
use mathlib.Core.List.{List, [], ◌∷◌, ◌++◌, append-nil}
use mathlib.Core.Option.{some, map-eq-some_iff, some-injective, none-ne-some}
use Prim.Native.Nat.{ℕ, zero, suc}
use lib.Dec.{T, eqb, eqb_refl}
use Rattle.lang.specs.declared.operation.PostLigOperation.TheVariants.{RetainBothMoveNowhere, RetainBothMoveToInserted, RetainBothMoveToRight}
use Rattle.lang.specs.declared.operation.PostLigOperation.TheVariants.{RetainRightMoveToInserted, RetainRightMoveToRight, RetainLeftMoveNowhere}
use Rattle.lang.specs.declared.operation.PostLigOperation.TheVariants.{RetainLeftMoveToInserted, RetainNeitherMoveToInserted}
use Rattle.reading.specs.Items.{Left, bnd, chr, Rule, free, kerned, lig, Rules, Item, item, code, plain, inserted, head, Out, glyph, kern, fin}
use Rattle.reading.specs.Depth.{Res, Finished, raise, before, raise_left, raised, comp_by, comp}
use Rattle.reading.specs.Form.{last_form, no_plain, is_left, last_takes, ops_form, formed}
use Rattle.reading.proofs.Flags.{raise_left_none}
use Rattle.reading.proofs.Right.{both_finished}

-- two tests, one after the other
both_hold : (a b : Bool) → T (cond a b false) → T a × T b
both_hold true b t = (tt, t)
both_hold false b t = absurd t

hold_both : (a b : Bool) → T a → T b → T (cond a b false)
hold_both true b s t = t
hold_both false b s t = s

-- ---- the ops

-- a ligature is the last that a left may have gone into
takes_ligature : (l : Left) (c : ℕ) → T (last_takes l (inserted c))
takes_ligature bnd c = tt
takes_ligature (chr a) c = tt

-- a boundary left has no plain character op
no_plain_bnd : (os : List Out) (x : Item) → T (no_plain os) → T (ops_form bnd os x)
unfolding no_plain ops_form
no_plain_bnd [] x h = tt
no_plain_bnd (kern k ∷ os) x h = no_plain_bnd os x h
no_plain_bnd (glyph (item true c) ∷ os) x h = h
no_plain_bnd (glyph (item false c) ∷ os) x h = h

bnd_no_plain : (os : List Out) (x : Item) → T (ops_form bnd os x) → T (no_plain os)
unfolding no_plain ops_form
bnd_no_plain [] x h = tt
bnd_no_plain (kern k ∷ os) x h = bnd_no_plain os x h
bnd_no_plain (glyph (item true c) ∷ os) x h = h
bnd_no_plain (glyph (item false c) ∷ os) x h = h

no_plain_both : (os ps : List Out) → T (no_plain os) → T (no_plain ps) → T (no_plain (os ++ ps))
unfolding no_plain
no_plain_both [] ps h i = i
no_plain_both (kern k ∷ os) ps h i = no_plain_both os ps h i
no_plain_both (glyph (item true c) ∷ os) ps h i = no_plain_both os ps h i
no_plain_both (glyph (item false c) ∷ os) ps h i = absurd h

-- the left given as it came, and then no plain character
fin_form : (l : Left) (ps : List Out) (x : Item) → T (no_plain ps) → T (ops_form l (fin (head l) ++ ps) x)
unfolding ops_form
fin_form bnd ps x h = no_plain_bnd ps x h
fin_form (chr a) ps x h = hold_both (eqb a a) (no_plain ps) (eqb_refl a) h

-- the left given as it came, and nothing more
fin_alone : (l : Left) (x : Item) → T (ops_form l (fin (head l)) x)
unfolding no_plain
fin_alone l x = rw append-nil at (fin_form l [] x tt)

-- a left that is a ligature: its ops are those of any left
left_form : (l k : Left) (os : List Out) (x : Item) → T (ops_form k os x) → T (ops_form l (raise_left true os x).outs (raise_left true os x).last)
unfolding no_plain ops_form raise_left
left_form l k [] (item f c) h = takes_ligature l c
left_form l k (kern n ∷ os) x h = left_form l k os x h
left_form l k (glyph (item true c) ∷ os) x h = h
left_form l k (glyph (item false c) ∷ os) x h = (both_hold (is_left k c) (no_plain os) h).1

-- a last that is a ligature
right_form : (l : Left) (os : List Out) (x : Item) → T (ops_form l os x) → T (ops_form l os (raise true x))
unfolding ops_form
right_form l [] (item f c) h = takes_ligature l c
right_form l (kern n ∷ os) x h = right_form l os x h
right_form l (glyph (item true c) ∷ os) x h = h
right_form l (glyph (item false c) ∷ os) x h = h

-- one pair's ops, and then those of a pair with a ligature left
before_form : (l : Left) (os ps : List Out) (x z : Item) → T (ops_form l os x) → ((k : Left) → T (ops_form k ps z)) → T (ops_form l (os ++ ps) z)
unfolding ops_form
before_form l [] ps x z h i = i l
before_form l (kern n ∷ os) ps x z h i = before_form l os ps x z h i
before_form l (glyph (item true c) ∷ os) ps x z h i = no_plain_both os ps h (bnd_no_plain ps z (i bnd))
before_form l (glyph (item false c) ∷ os) ps x z h i =
    let b = both_hold (is_left l c) (no_plain os) h in
    hold_both (is_left l c) (no_plain (os ++ ps)) b.0 (no_plain_both os ps b.1 (bnd_no_plain ps z (i bnd)))

-- ---- the last

last_raise : (r : ℕ) (a : Bool) (x : Item) → T (last_form r x) → T (last_form r (raise a x))
last_raise r true (item f c) h = tt
last_raise r false x h = h

ligature_last : (r : ℕ) (x : Item) → T (last_form r (raise true x))
ligature_last r (item f c) = tt

last_left : (r : ℕ) (a : Bool) (os : List Out) (x : Item) → T (last_form r x) → T (last_form r (raise_left a os x).last)
unfolding raise_left
last_left r a [] x h = last_raise r a x h
last_left r a (glyph y ∷ os) x h = h
last_left r a (kern k ∷ os) x h = last_left r a os x h

-- ---- the entry

-- a pair (k, r) whose left is a ligature has the form of any left's
left_formed : (k : Left) (r : ℕ) (q : Res) → T (formed k r q) →
    T (last_form r (raised true false q).last) × ((l : Left) → T (ops_form l (raised true false q).outs (raised true false q).last))
left_formed k r q h =
    let b = both_hold (last_form r q.last) (ops_form k q.outs q.last) h in
    (last_left r true q.outs q.last b.0, λ l. left_form l k q.outs q.last b.1)

-- a pair (l, c) whose right is a ligature has the form of any right's
right_formed : (l : Left) (c r : ℕ) (q : Res) → T (formed l c q) →
    T (last_form r (raised false true q).last) × T (ops_form l (raised false true q).outs (raised false true q).last)
right_formed l c r q h =
    let b = both_hold (last_form c q.last) (ops_form l q.outs q.last) h in
    rw raise_left_none (ligature_last r q.last, right_form l q.outs q.last b.1)

-- an entry by its parts
by_parts : (l : Left) (r : ℕ) (p : Res) {q : Res} → some p ≡ some q → T (last_form r p.last) → T (ops_form l p.outs p.last) → T (formed l r q)
by_parts l r p {q} e s t = subst (λ z. T (formed l r z)) (some-injective p q e) (hold_both (last_form r p.last) (ops_form l p.outs p.last) s t)

form_by : (R : Rule) (f : Finished) → ((l : Left) (r : ℕ) (q : Res) → f l r ≡ some q → T (formed l r q)) → (l : Left) (r : ℕ) {q : Res} →
    comp_by R f l r ≡ some q → T (formed l r q)
unfolding no_plain ops_form
form_by free f h l r e = by_parts l r (record { outs = fin (head l); last = plain r }) e (eqb_refl r) (fin_alone l (plain r))
form_by (kerned k) f h l r e =
    by_parts l r (record { outs = fin (head l) ++ (kern k ∷ []); last = plain r }) e (eqb_refl r) (fin_form l (kern k ∷ []) (plain r) tt)
form_by (lig RetainNeitherMoveToInserted c) f h l r e = by_parts l r (record { outs = []; last = inserted c }) e tt (takes_ligature l c)
form_by (lig RetainLeftMoveToInserted c) f h l r e = by_parts l r (record { outs = fin (head l); last = inserted c }) e tt (fin_alone l (inserted c))
form_by (lig RetainRightMoveToRight c) f h l r e = by_parts l r (record { outs = glyph (inserted c) ∷ []; last = plain r }) e (eqb_refl r) tt
form_by (lig RetainBothMoveToRight c) f h l r e =
    by_parts l r (record { outs = fin (head l) ++ (glyph (inserted c) ∷ []); last = plain r }) e (eqb_refl r)
    (fin_form l (glyph (inserted c) ∷ []) (plain r) tt)
form_by (lig RetainRightMoveToInserted c) f h l r e =
    let m = (map-eq-some_iff (raised true false) (f (chr c) r)).0 e in
    let p = raised true false m.0 in
    let t = left_formed (chr c) r m.0 (h (chr c) r m.0 m.1) in
    by_parts l r p (ap some m.2) t.0 (t.1 l)
form_by (lig RetainBothMoveToInserted c) f h l r e =
    let m = (map-eq-some_iff (λ (q : Res). before (fin (head l)) (raised true false q)) (f (chr c) r)).0 e in
    let p = raised true false m.0 in
    let t = left_formed (chr c) r m.0 (h (chr c) r m.0 m.1) in
    by_parts l r (before (fin (head l)) p) (ap some m.2) t.0 (fin_form l p.outs p.last (bnd_no_plain p.outs p.last (t.1 bnd)))
form_by (lig RetainLeftMoveNowhere c) f h l r e =
    let m = (map-eq-some_iff (raised false true) (f l c)).0 e in
    let t = right_formed l c r m.0 (h l c m.0 m.1) in
    by_parts l r (raised false true m.0) (ap some m.2) t.0 t.1
form_by (lig RetainBothMoveNowhere c) f h l r e =
    let m = both_finished f r (raised false true) (f l c) e in
    let p = raised false true m.0 in
    let s = raised true false m.2 in
    let t = right_formed l c r m.0 (h l c m.0 m.1) in
    let u = left_formed (chr (code p.last)) r m.2 (h (chr (code p.last)) r m.2 m.3) in
    by_parts l r (before p.outs s) (ap some m.4) u.0 (before_form l p.outs s.outs p.last s.last t.1 u.1)

pub form : (rule : Rules) (d : ℕ) (l : Left) (r : ℕ) {q : Res} → comp rule d l r ≡ some q → T (formed l r q)
unfolding comp
form rule zero l r {q} e = absurd (none-ne-some q e)
form rule (suc d) l r e = form_by (rule l r) (comp rule d) (λ a b q. form rule d a b) l r e
