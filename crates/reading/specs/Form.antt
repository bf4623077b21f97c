-- The form of a table's entry (R260 to R262): an unflagged last equals the right; the only plain character op, if any, equals the left and
-- is first among character ops; a flagged last where a left character has no character op. A character op is a character or a ligature; a
-- boundary left has no plain one.
use Rattle.std.specs.Prelude.{Bool, true, false, cond, List, [], ◌∷◌, ℕ, eqb}
use Rattle.reading.specs.Items.{Left, bnd, chr, Item, item, Out, glyph, kern}
use Rattle.reading.specs.Depth.{Res}

-- a last is flagged, or equals the right r
abbrev pub last_form : ℕ → Item → Bool
last_form r (item true c) = true
last_form r (item false c) = eqb c r

-- after the first character op every other is a ligature (R261)
unfoldable pub no_plain : List Out → Bool
no_plain [] = true
no_plain (kern k ∷ os) = no_plain os
no_plain (glyph (item true c) ∷ os) = no_plain os
no_plain (glyph (item false c) ∷ os) = false

-- a plain character is the left of the pair; the boundary is none
abbrev pub is_left : Left → ℕ → Bool
is_left bnd c = false
is_left (chr a) c = eqb c a

-- where a left character has no character op, the last is flagged (R262)
abbrev pub last_takes : Left → Item → Bool
last_takes bnd x = true
last_takes (chr a) (item f c) = f

-- the first character op is a ligature or the left, and all later ones are ligatures; where there is none the last takes the left in
unfoldable pub ops_form : Left → List Out → Item → Bool
ops_form l [] x = last_takes l x
ops_form l (kern k ∷ os) x = ops_form l os x
ops_form l (glyph (item true c) ∷ os) x = no_plain os
ops_form l (glyph (item false c) ∷ os) x = cond (is_left l c) (no_plain os) false

-- an entry for a left and a right is of the form
abbrev pub formed : Left → ℕ → Res → Bool
formed l r q = cond (last_form r q.last) (ops_form l q.outs q.last) false
