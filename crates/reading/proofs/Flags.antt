-- Laws of putting ligature flags into an entry: `raise`, `raiseLeft` and `raised` of specs/Depth.
-- Assumes nothing.
use mathlib.Core.Path.{◌≡◌, refl, sym, ap, ◌∙◌}
use mathlib.Core.Bool.{Bool, true, false, ◌||◌}
use mathlib.Core.List.{List, [], ◌∷◌, ◌++◌}
use Prim.Native.Nat.{ℕ}
use Rattle.reading.specs.Items.{Item, item, flag, code, plain, inserted, Head, edge, at, key, head, Out, glyph, kern, fin}
use Rattle.reading.specs.Depth.{Res, raise, before, raise_left, raised}
use Rattle.reading.specs.Run.{head_flag}

-- ---- one item

pub raise_inserted : (a : Bool) (c : ℕ) → raise a (inserted c) ≡ inserted c
raise_inserted true c = refl
raise_inserted false c = refl

-- a character with an item's code and flag is that item
pub raise_plain : (y : Item) → raise (flag y) (plain (code y)) ≡ y
raise_plain (item true c) = refl
raise_plain (item false c) = refl

pub raise_raise : (a c : Bool) (y : Item) → raise a (raise c y) ≡ raise (c || a) y
raise_raise true true (item f k) = refl
raise_raise true false y = refl
raise_raise false true y = refl
raise_raise false false y = refl

raise_swap : (a c : Bool) (y : Item) → raise a (raise c y) ≡ raise c (raise a y)
raise_swap true true y = refl
raise_swap true false y = refl
raise_swap false true y = refl
raise_swap false false y = refl

pub code_raise : (a : Bool) (y : Item) → code (raise a y) ≡ code y
code_raise true (item f c) = refl
code_raise false y = refl

pub flag_raise : (a : Bool) (y : Item) → flag (raise a (raise true y)) ≡ true
flag_raise true (item f c) = refl
flag_raise false (item f c) = refl

-- ---- an entry

pub raise_left_none : (os : List Out) (x : Item) → raise_left false os x ≡ record { outs = os; last = x }
unfolding raise_left
raise_left_none [] x = refl
raise_left_none (glyph y ∷ os) x = refl
raise_left_none (kern k ∷ os) x = ap (before (kern k ∷ [])) (raise_left_none os x)

-- no flags change nothing
pub raised_none : (q : Res) → raised false false q ≡ q
raised_none q = raise_left_none q.outs q.last

raised_left : (a b c : Bool) (os : List Out) (x : Item) → raised a b (raise_left c os x) ≡ raise_left (c || a) os (raise b x)
unfolding raise_left
raised_left a b c [] x = ap {B = Res} (λ z. record { outs = []; last = z }) (rw (raise_swap b c x) (raise_raise a c (raise b x)))
raised_left a b c (glyph y ∷ os) x = ap {B = Res} (λ z. record { outs = glyph z ∷ os; last = raise b x }) (raise_raise a c y)
raised_left a b c (kern k ∷ os) x = ap (before (kern k ∷ [])) (raised_left a b c os x)

-- flags put in twice
pub raised_raised : (a b c d : Bool) (q : Res) → raised a b (raised c d q) ≡ raised (c || a) (d || b) q
raised_raised a b c d q = raised_left a b c q.outs (raise d q.last) ∙ ap (raise_left (c || a) q.outs) (raise_raise b d q.last)

-- after a ligature the right's flag goes into the last alone
raised_right : (b : Bool) (q : Res) → record { outs = (raised true false q).outs; last = raise b (raised true false q).last } ≡ raised true b q
raised_right b q = sym (raise_left_none (raised true false q).outs (raise b (raised true false q).last)) ∙ raised_raised false b true false q

-- flags put into what comes before a ligature, and into that
pub raised_before : (a b : Bool) (os : List Out) (x : Item) (q : Res) →
    raised a b (before os (raised true false q)) ≡ before (raise_left a os x).outs (raised true b q)
unfolding raise_left
raised_before a b [] x q = raised_raised a b true false q
raised_before a b (glyph y ∷ os) x q = ap (before (glyph (raise a y) ∷ os)) (raised_right b q)
raised_before a b (kern k ∷ os) x q = ap (before (kern k ∷ [])) (raised_before a b os x q)

-- an item's flag put into what its finishing gives
pub raised_alone : (x : Head) (z : Item) → raise_left (head_flag x) (fin (head (key x))) z ≡ record { outs = fin x; last = z }
unfolding raise_left
raised_alone edge z = refl
raised_alone (at (item true c)) z = refl
raised_alone (at (item false c)) z = refl

pub raised_fin : (x : Head) (os : List Out) (z : Item) → raise_left (head_flag x) (fin (head (key x)) ++ os) z ≡ record { outs = fin x ++ os; last = z }
unfolding raise_left
raised_fin edge os z = raise_left_none os z
raised_fin (at (item true c)) os z = refl
raised_fin (at (item false c)) os z = refl

code_left : (a : Bool) (os : List Out) (x : Item) → code (raise_left a os x).last ≡ code x
unfolding raise_left
code_left a [] x = code_raise a x
code_left a (glyph y ∷ os) x = refl
code_left a (kern k ∷ os) x = code_left a os x

-- codes stay
pub code_raised : (a b : Bool) (q : Res) → code (raised a b q).last ≡ code q.last
code_raised a b q = code_left a q.outs (raise b q.last) ∙ code_raise b q.last

flag_left : (a : Bool) (os : List Out) (x : Item) → flag (raise_left a os (raise true x)).last ≡ true
unfolding raise_left
flag_left a [] x = flag_raise a x
flag_left a (glyph y ∷ os) (item f c) = refl
flag_left a (kern k ∷ os) x = flag_left a os x

-- a ligature on the right leaves a ligature
pub flag_raised : (a : Bool) (q : Res) → flag (raised a true q).last ≡ true
flag_raised a q = flag_left a q.outs q.last
