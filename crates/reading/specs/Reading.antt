-- The one-by-one reading (R64 to R76): two items stand at the cursor; the rule inserts, deletes and advances. TeX 545 says what the eight
-- operations retain and how far they pass, and TeX 1034 to 1040 is the loop that does it.
use Rattle.std.specs.Prelude.{◌≡◌, Bool, true, false, List, [], ◌∷◌, ◌++◌, map, ℕ, zero, suc}
use Rattle.std.proofs.Math.Option.{Option, none, some}
use Rattle.lang.specs.declared.operation.PostLigOperation.TheVariants.{RetainBothMoveNowhere, RetainBothMoveToInserted}
use Rattle.lang.specs.declared.operation.PostLigOperation.TheVariants.{RetainBothMoveToRight, RetainRightMoveToInserted}
use Rattle.lang.specs.declared.operation.PostLigOperation.TheVariants.{RetainRightMoveToRight, RetainLeftMoveNowhere}
use Rattle.lang.specs.declared.operation.PostLigOperation.TheVariants.{RetainLeftMoveToInserted, RetainNeitherMoveToInserted}
use Rattle.reading.specs.Items.{Left, Rule, free, kerned, lig, Rules, Item, item, plain, inserted, code, Head, edge, at}
use Rattle.reading.specs.Items.{key, head, Out, glyph, kern, fin}

-- One step at the items x (left of the cursor) and y (right of it), R66 to R69: what is given, what then stands left of the cursor, and
-- what takes the place of y. Nothing else is touched.
pub record Act : Type 0 where
  pub outs : List Out
  pub left : Head
  pub back : List Item

-- one step by a rule: without one, or with a kern, x is finished and y is next; else one of TeX 545's eight operations
abbrev pub act : Rule → Head → Item → Act
act free x y = record { outs = fin x; left = at y; back = [] }
act (kerned k) x y = record { outs = fin x ++ (kern k ∷ []); left = at y; back = [] }
-- LIG, op byte 0
act (lig RetainNeitherMoveToInserted c) x y = record { outs = []; left = at (inserted c); back = [] }
-- LIG/, 1
act (lig RetainRightMoveToInserted c) x y = record { outs = []; left = at (inserted c); back = y ∷ [] }
-- /LIG, 2
act (lig RetainLeftMoveNowhere c) x y = record { outs = []; left = x; back = inserted c ∷ [] }
-- /LIG/, 3
act (lig RetainBothMoveNowhere c) x y = record { outs = []; left = x; back = inserted c ∷ y ∷ [] }
-- LIG/>, 5
act (lig RetainRightMoveToRight c) x y = record { outs = glyph (inserted c) ∷ []; left = at y; back = [] }
-- /LIG>, 6
act (lig RetainLeftMoveToInserted c) x y = record { outs = fin x; left = at (inserted c); back = [] }
-- /LIG/>, 7
act (lig RetainBothMoveToInserted c) x y = record { outs = fin x; left = at (inserted c); back = y ∷ [] }
-- /LIG/>>, 11
act (lig RetainBothMoveToRight c) x y = record { outs = fin x ++ (glyph (inserted c) ∷ []); left = at y; back = [] }

-- a reading after some number of steps: ended, with what it gave and what remains left of the cursor, or not ended yet
pub data Read : Type 0 where
  done : List Out → Head → Read
  more : Read

-- a reading with what was given before put in front of what it gives
abbrev pub push : List Out → Read → Read
push os (done ps x) = done (os ++ ps) x
push os more = more

-- at most n steps, with x left of the cursor and ys right of it
unfoldable pub read : Rules → ℕ → Head → List Item → Read
read rule zero x [] = done [] x
read rule zero x (y ∷ ys) = more
read rule (suc n) x [] = done [] x
read rule (suc n) x (y ∷ ys) =
    let a = act (rule (key x) (code y)) x y in
    push a.outs (read rule n a.left (a.back ++ ys))

-- A pair is done when one item remains (R72). It never ends when it is not done after any number of steps (R73).
abbrev pub NeverEnds : Rules → Left → ℕ → Type 0
NeverEnds rule l r = (n : ℕ) → read rule n (head l) (plain r ∷ []) ≡ more

-- a pair whose reading is done after so many steps: what it gave, and what remains left of the cursor
pub record Ends (rule : Rules) (l : Left) (r : ℕ) : Type 0 where
  pub steps : ℕ
  pub outs : List Out
  pub last : Head
  pub ends : read rule steps (head l) (plain r ∷ []) ≡ done outs last

-- a word's reading: ended, with the items that it gives, or still going
pub data Reading : Type 0 where
  ended : List Out → Reading
  going : Reading

-- the right item of a word, where there is one
abbrev pub right_items : Option ℕ → List Item
right_items none = []
right_items (some r) = plain r ∷ []

-- The item that remains is finished, but a right item left as it came gives nothing (R75). (Where there is a right item it is the last of
-- the text, so what remains and is no ligature is that item: the theorem `last-plain` says so.)
abbrev pub remains : Option ℕ → Head → List Out
remains right edge = []
remains none (at x) = glyph x ∷ []
remains (some r) (at (item true c)) = glyph (inserted c) ∷ []
remains (some r) (at (item false c)) = []

-- the reading of a word: once it is done, what it gave and what remains; else it is going
abbrev pub close : Option ℕ → Read → Reading
close right (done os x) = ended (os ++ remains right x)
close right more = going

-- The reading of a word (R74), at most n steps: with the left boundary or without, and with a right item or none. An empty word reads as
-- nothing, whatever its boundaries (R76).
unfoldable pub reading : Rules → ℕ → Bool → List ℕ → Option ℕ → Reading
reading rule n b [] right = ended []
reading rule n true (c ∷ cs) right = close right (read rule n edge (map plain (c ∷ cs) ++ right_items right))
reading rule n false (c ∷ cs) right = close right (read rule n (at (plain c)) (map plain cs ++ right_items right))
