-- Ops of a pair whose left is a ligature: the flag goes into the first character op. What the form of a table says of that op.
-- Assumes nothing.
use mathlib.Core.Path.{◌≡◌, refl, ap}
use mathlib.Core.Bool.{Bool, true, false, cond}
use mathlib.Core.List.{List, [], ◌∷◌}
use Prim.Native.Nat.{ℕ}
use lib.Dec.{eqb}
use native.Mathlib.Omega.{arith}
use Rattle.reading.specs.Items.{Left, bnd, chr, Item, item, flag, Out, glyph, kern}
use Rattle.reading.specs.Depth.{Res, raise, raise_left}
use Rattle.reading.specs.Form.{last_form, no_plain, ops_form, formed}

unfoldable pub raise_first : Bool → List Out → List Out
raise_first b [] = []
raise_first b (glyph y ∷ os) = glyph (raise b y) ∷ os
raise_first b (kern k ∷ os) = kern k ∷ raise_first b os

pub raise_none : (os : List Out) → raise_first false os ≡ os
unfolding raise_first
raise_none [] = refl
raise_none (glyph y ∷ os) = refl
raise_none (kern k ∷ os) = ap (λ (ps : List Out). kern k ∷ ps) (raise_none os)

-- some op is a character op
unfoldable pub has_glyph : List Out → Bool
has_glyph [] = false
has_glyph (glyph y ∷ os) = true
has_glyph (kern k ∷ os) = has_glyph os

-- no character op after the first is plain
unfoldable pub plain_first : List Out → Bool
plain_first [] = true
plain_first (glyph y ∷ os) = no_plain os
plain_first (kern k ∷ os) = plain_first os

pub raise_outs : (b : Bool) (os : List Out) (x : Item) → (raise_left b os x).outs ≡ raise_first b os
unfolding raise_first raise_left
raise_outs b [] x = refl
raise_outs b (glyph y ∷ os) x = refl
raise_outs b (kern k ∷ os) x = ap (λ (ps : List Out). kern k ∷ ps) (raise_outs b os x)

raise_flagged : (b : Bool) (x : Item) → flag x ≡ true → raise b x ≡ x
raise_flagged true (item true c) h = refl
raise_flagged true (item false c) h = absurd (let z : ◌≡◌ {A = ℕ} 0 1 = cc in omega arith)
raise_flagged false x h = refl

-- the last is as it was where a character op, or a flagged last, takes the flag in
pub raise_last : (b : Bool) (os : List Out) (x : Item) → cond (has_glyph os) true (flag x) ≡ true → (raise_left b os x).last ≡ x
unfolding raise_left has_glyph
raise_last b [] x h = raise_flagged b x h
raise_last b (glyph y ∷ os) x h = refl
raise_last b (kern k ∷ os) x h = raise_last b os x h

pub raise_last_none : (os : List Out) (x : Item) → (raise_left false os x).last ≡ x
unfolding raise_left
raise_last_none [] x = refl
raise_last_none (glyph y ∷ os) x = refl
raise_last_none (kern k ∷ os) x = raise_last_none os x

-- ---- what the form says

if_right : (a b : Bool) → cond a b false ≡ true → b ≡ true
if_right true b h = h
if_right false b h = absurd (let z : ◌≡◌ {A = ℕ} 0 1 = cc in omega arith)

pub form_ops : (l : Left) (r : ℕ) (q : Res) → formed l r q ≡ true → ops_form l q.outs q.last ≡ true
form_ops l r q h = if_right (last_form r q.last) (ops_form l q.outs q.last) h

pub left_plain_first : (a : ℕ) (os : List Out) (x : Item) → ops_form (chr a) os x ≡ true → plain_first os ≡ true
unfolding ops_form plain_first
left_plain_first a [] x h = refl
left_plain_first a (glyph (item true c) ∷ os) x h = h
left_plain_first a (glyph (item false c) ∷ os) x h = if_right (eqb c a) (no_plain os) h
left_plain_first a (kern k ∷ os) x h = left_plain_first a os x h

pub left_carried : (a : ℕ) (os : List Out) (x : Item) → ops_form (chr a) os x ≡ true → cond (has_glyph os) true (flag x) ≡ true
unfolding ops_form has_glyph
left_carried a [] (item f c) h = h
left_carried a (glyph y ∷ os) x h = refl
left_carried a (kern k ∷ os) x h = left_carried a os x h

pub boundary_no_plain : (os : List Out) (x : Item) → ops_form bnd os x ≡ true → no_plain os ≡ true
unfolding ops_form no_plain
boundary_no_plain [] x h = refl
boundary_no_plain (glyph (item true c) ∷ os) x h = h
boundary_no_plain (glyph (item false c) ∷ os) x h = absurd (let z : ◌≡◌ {A = ℕ} 0 1 = cc in omega arith)
boundary_no_plain (kern k ∷ os) x h = boundary_no_plain os x h
